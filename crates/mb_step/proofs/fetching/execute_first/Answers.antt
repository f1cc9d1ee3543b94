use Rattle.std.proofs.Common.{◌∙◌, refl}
use Rattle.mb_step.specs.Fetching.{behind}
use Rattle.mb_step.proofs.Fetches.{word_came, second_ended, begun_as, begins_none, is_whole, has_more}
use Rattle.mb_step.proofs.fetching.execute_first.Goals as goal
use Rattle.mb_step.proofs.fetching.execute_first.Goals.{in-Whole, in-More+in-Ok+in-Ok-find_longer}

pub returns-in-Err-clause-means : goal.returns-in-Err-clause-means
returns-in-Err-clause-means g c =
    let second = rw c.pc-at.ensures at c.in-Err.ensures.means in
    begun_as g.P.Port.bus c.args.processor.now c.args.first _ _ _ c.of.ensures.means c.in-More.is
    ∙ second_ended g.P.Port.bus c.args.processor.now _ _ c.args.first _ _ _ c.space-space.ensures second

pub returns-in-Err-find_longer-clause-means : goal.returns-in-Err-find_longer-clause-means
returns-in-Err-find_longer-clause-means g c =
    let second = word_came g.P.Port.bus _ _ _ _ _ _ _ (rw c.pc-at.ensures at c.in-Ok.ensures.means) in
    let none = rw (c.pc-at.ensures, c.in-Ok.ensures.same) at c.in-Err-find_longer.ensures.means in
    begun_as g.P.Port.bus c.args.processor.now c.args.first _ _ _ c.of.ensures.means c.in-More.is
    ∙ has_more g.P.Port.bus c.args.processor.now _ _ c.args.first c.in-Ok.word _ (g.P.Port.world c.fetch_word.new.port) _ _
    c.space-space.ensures second none

pub returns-in-Illegal-clause-means : goal.returns-in-Illegal-clause-means
returns-in-Illegal-clause-means g c =
    begun_as g.P.Port.bus c.args.processor.now c.args.first _ _ _ c.of.ensures.means c.in-Illegal.is
    ∙ begins_none g.P.Port.bus c.args.processor.now 4 _ ∙ c.refuse.ensures.means

pub returns-in-LineA-clause-means : goal.returns-in-LineA-clause-means
returns-in-LineA-clause-means g c =
    begun_as g.P.Port.bus c.args.processor.now c.args.first _ _ _ c.of.ensures.means c.in-LineA.is
    ∙ begins_none g.P.Port.bus c.args.processor.now 10 _ ∙ c.refuse-in-LineA.ensures.means

pub returns-in-LineF-clause-means : goal.returns-in-LineF-clause-means
returns-in-LineF-clause-means g c =
    begun_as g.P.Port.bus c.args.processor.now c.args.first _ _ _ c.of.ensures.means c.in-LineF.is
    ∙ begins_none g.P.Port.bus c.args.processor.now 11 _ ∙ c.refuse-in-LineF.ensures.means

pub returns-clause-means : goal.returns-clause-means
returns-clause-means g c =
    elim c.match-of.branch [
      | in-Whole w ↦
          begun_as g.P.Port.bus c.args.processor.now c.args.first _ _ _ c.of.ensures.means w.in-Whole.is
          ∙ is_whole g.P.Port.bus c.args.processor.now (behind c.args.processor.now c.args.first) _ _ w.in-Whole.instruction w.in-Whole.length refl
          ∙ (rw (w.length-is, w.processor-is, w.port-is) at c.execute.ensures.means)
      | in-More+in-Ok+in-Ok-find_longer w ↦
          let second = word_came g.P.Port.bus _ _ _ _ _ _ _ (rw c.pc-at.ensures at w.in-Ok.ensures.means) in
          let found = rw (c.pc-at.ensures, w.in-Ok.ensures.same) at w.in-Ok-find_longer.ensures.means in
          begun_as g.P.Port.bus c.args.processor.now c.args.first _ _ _ c.of.ensures.means w.in-More.is
          ∙ has_more g.P.Port.bus c.args.processor.now _ _ c.args.first w.in-Ok.word _ (g.P.Port.world w.fetch_word.new.port) _ _
          c.space-space.ensures second found
          ∙ (rw (w.length-is, w.processor-is, w.port-is) at c.execute.ensures.means)
    ]
