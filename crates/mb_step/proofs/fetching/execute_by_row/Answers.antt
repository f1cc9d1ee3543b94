use Rattle.std.proofs.Common.{◌∙◌, refl}
use Rattle.mb_step.proofs.Fetches.{instruction_at_odd, word_came, first_word, first_ended}
use Rattle.mb_step.proofs.fetching.execute_by_row.Goals as goal

pub returns-then-at-eq1-clause-means : goal.returns-then-at-eq1-clause-means
returns-then-at-eq1-clause-means g c =
    instruction_at_odd g.P.Port.bus c.args.processor.now _ (rw c.pc-at.ensures at c.if-at-eq1.true)
    ∙ c.refuse.ensures.means

pub returns-in-Err-clause-means : goal.returns-in-Err-clause-means
returns-in-Err-clause-means g c =
    let even = rw c.pc-at.ensures at c.if-at-eq1.false in
    first_ended g.P.Port.bus c.args.processor.now _ _ _ _ _ even c.space-space.ensures (rw c.pc-at.ensures at c.in-Err.ensures.means)

pub returns-clause-means : goal.returns-clause-means
returns-clause-means g c =
    let even = rw c.pc-at.ensures at c.if-at-eq1.false in
    let first = word_came g.P.Port.bus _ _ _ _ _ _ _ (rw c.pc-at.ensures at c.in-Ok.ensures.means) in
    first_word g.P.Port.bus c.args.processor.now _ c.in-Ok.word _ (g.P.Port.world c.fetch_word.new.port) _ even c.space-space.ensures first refl
    ∙ (rw c.in-Ok.ensures.same at c.execute_first-finish.ensures.means)
