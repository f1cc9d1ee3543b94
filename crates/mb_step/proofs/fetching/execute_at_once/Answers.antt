use Rattle.std.proofs.Common.{◌∙◌, refl}
use Rattle.mb_step.proofs.Fetches.{first_word}
use Rattle.mb_step.proofs.fetching.execute_at_once.Goals as goal

pub returns-clause-done : goal.returns-clause-done
returns-clause-done g c = λ is.
    let even = rw c.pc-at.ensures at c.if-at-eq1.false in
    first_word g.P.Port.bus c.args.processor.now _ c.in-Some.first _ _ _ even c.requires.space
    (rw c.pc-at.ensures at c.in-Some.ensures) refl
    ∙ c.execute_untraced.ensures.done is
