use Rattle.mb_spelling.proofs.Loops.{UntilGoing}
use Rattle.vm_snapshot.specs.Memory.{row_lines}
use Rattle.vm_snapshot.proofs.memory_reading.memory.Given as goal

abbrev pub invariant-loop-most : goal.invariant-loop-most
invariant-loop-most l = UntilGoing (row_lines l.rows) l.initial.reader l.reader l.rows 0 l.most l.from l.lines.items

abbrev pub decreases-loop-most : goal.decreases-loop-most
decreases-loop-most l = l.most
