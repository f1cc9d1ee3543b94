use Rattle.std.proofs.Common.{◌∙◌, ap, sym, refl}
use Rattle.mb_decode.specs.Decodes.{told}
use Rattle.mb_step.proofs.Fetches.{seeking_judged, seeking_none}
use Rattle.mb_step.proofs.fetching.decode_three.Goals as goal

pub returns-in-Illegal-clause-means : goal.returns-in-Illegal-clause-means
returns-in-Illegal-clause-means g c =
    seeking_judged g.P.Port.bus _ _ _ _ _ (ap (λ answer. told answer c.decode_into.new.instruction) (sym c.in-Illegal.is) ∙ c.decode_into.ensures.means)
    ∙ seeking_none g.P.Port.bus _ _ 4 _ _ refl c.refuse.ensures.means

pub returns-in-LineA-clause-means : goal.returns-in-LineA-clause-means
returns-in-LineA-clause-means g c =
    seeking_judged g.P.Port.bus _ _ _ _ _ (ap (λ answer. told answer c.decode_into.new.instruction) (sym c.in-LineA.is) ∙ c.decode_into.ensures.means)
    ∙ seeking_none g.P.Port.bus _ _ 10 _ _ refl c.refuse-in-LineA.ensures.means

pub returns-in-LineF-clause-means : goal.returns-in-LineF-clause-means
returns-in-LineF-clause-means g c =
    seeking_judged g.P.Port.bus _ _ _ _ _ (ap (λ answer. told answer c.decode_into.new.instruction) (sym c.in-LineF.is) ∙ c.decode_into.ensures.means)
    ∙ seeking_none g.P.Port.bus _ _ 11 _ _ refl c.refuse-in-LineF.ensures.means
