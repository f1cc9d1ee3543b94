use Rattle.std.proofs.Common.{true}
use Rattle.mb_step.proofs.Traces.{ct_asks}
use Rattle.mb_step.proofs.raising.with_ct.Goals as goal

pub returns-then-due-clause-asks : goal.returns-then-due-clause-asks
returns-then-due-clause-asks c = rw c.if-due.true (ct_asks true c.args.access)
