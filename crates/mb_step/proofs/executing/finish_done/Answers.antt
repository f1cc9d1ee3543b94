use Rattle.mb_step.proofs.Finishes.{left_traced, left_untraced}
use Rattle.mb_step.proofs.executing.finish_done.Goals as goal

pub returns-then-is_due-clause-means : goal.returns-then-is_due-clause-means
returns-then-is_due-clause-means g c =
    left_traced g.P.Port.bus c.args.flow c.is_due.result c.args.at c.args.cpu.now c.args.plain.now _ _ c.is_due.ensures c.if-is_due.true
    c.trace_left.ensures.means

pub returns-else-is_due-clause-means : goal.returns-else-is_due-clause-means
returns-else-is_due-clause-means g c =
    left_untraced g.P.Port.bus c.args.flow c.is_due.result c.args.at c.args.cpu.now c.args.plain.now _ c.is_due.ensures c.if-is_due.false
