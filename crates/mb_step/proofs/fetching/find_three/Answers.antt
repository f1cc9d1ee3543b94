use Rattle.std.proofs.Common.{◌∙◌, ◌-◌, [], ◌∷◌, refl}
use Rattle.mb_instr.specs.declared.counts.TheConstants.{MOST_WORDS}
use Rattle.mb_step.proofs.Fetches.{seeking_came, seeking_ended, seeking_whole}
use Rattle.mb_step.proofs.fetching.find_three.Goals as goal

pub returns-in-Err-clause-means : goal.returns-in-Err-clause-means
returns-in-Err-clause-means g c =
    seeking_ended g.P.Port.bus c.args.processor.now _ (MOST_WORDS - 2) (MOST_WORDS - 3) _ _ _ (c.args.first ∷ c.args.second ∷ []) _ _ _
    refl c.space-space.ensures c.in-Err.ensures.means

pub returns-in-Some-clause-means : goal.returns-in-Some-clause-means
returns-in-Some-clause-means g c =
    seeking_came g.P.Port.bus c.args.processor.now _ (MOST_WORDS - 2) (MOST_WORDS - 3) _ _ _ (c.args.first ∷ c.args.second ∷ []) c.in-Ok.word _ _
    (c.args.first ∷ c.args.second ∷ c.in-Ok.word ∷ []) _ refl c.space-space.ensures c.in-Ok.ensures.means refl refl
    ∙ seeking_whole g.P.Port.bus c.args.processor.now _ _ _ _ _ 3 c.in-Some.ensures.means c.in-Ok.ensures.same

pub returns-clause-means : goal.returns-clause-means
returns-clause-means g c =
    seeking_came g.P.Port.bus c.args.processor.now _ (MOST_WORDS - 2) (MOST_WORDS - 3) _ _ _ (c.args.first ∷ c.args.second ∷ []) c.in-Ok.word _ _
    (c.args.first ∷ c.args.second ∷ c.in-Ok.word ∷ []) _ refl c.space-space.ensures c.in-Ok.ensures.means refl refl
    ∙ (rw c.in-Ok.ensures.same at c.decode_three.ensures.means)
