use Rattle.std.proofs.Common.{◌∙◌, sym}
use Rattle.mb_instr.specs.declared.kinds.Branch.TheVariants as displacement
use Rattle.mb_short.proofs.Flows.{branch_goes}
use Rattle.mb_short.proofs.branches.branch_far.Goals as goal

pub returns-clause-done : goal.returns-clause-done
returns-clause-done g c =
    branch_goes g.P.Port.bus c.args.condition (displacement.Word c.args.displacement) 2 c.args.space c.args.plain.now _ _ _
    (sym c.is_call.ensures ∙ c.if-is_call.false) (rw c.target-target.ensures at c.go_if_met.ensures)
