use Rattle.mb_instr.specs.declared.kinds.Branch.TheVariants as displacement
use Rattle.mb_short.proofs.Flows.{call_goes}
use Rattle.mb_short.proofs.stack.call_near.Goals as goal

pub returns-clause-done : goal.returns-clause-done
returns-clause-done g c =
    call_goes g.P.Port.bus (displacement.Byte c.args.displacement) 1 c.args.space c.args.plain.now _ _ _ _
    (rw (c.target-target.ensures, c.pass_one.ensures) at c.call.ensures.done)
