use Rattle.std.proofs.Common.{◌∙◌}
use Rattle.def_instructions.specs.Attempt.{past}
use Rattle.mb_step.proofs.Finishes.{performed_codes, unprivileged_apart}
use Rattle.mb_step.proofs.executing.execute_unprivileged.Goals as goal

pub finish_plain-requires-clause-ccr : goal.finish_plain-requires-clause-ccr
finish_plain-requires-clause-ccr g c =
    performed_codes g.P.Port.bus c.args.instruction.now _ _ (past c.args.length c.processor.inside.plain) _ _ _ c.perform_in_place-done.result _
    c.processor.invariant (rw c.from.ensures at c.perform_in_place-done.ensures.means)

pub returns-clause-means : goal.returns-clause-means
returns-clause-means g c =
    unprivileged_apart g.P.Port.bus c.args.instruction.now c.args.length c.processor.inside.cpu c.args.processor.now _ _ _ _ c.processor.inside.plain _
    c.processor.view_is (assumption c.processor.ranges) c.processor.invariant
    (rw (c.space.ensures, c.from.ensures) at c.perform_in_place-done.ensures.means)
    ∙ c.finish_plain.ensures.means
