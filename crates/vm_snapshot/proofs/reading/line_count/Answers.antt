use Rattle.std.proofs.Common.{arith}
use Rattle.vm_snapshot.proofs.reading.line_count.Goals as goal

pub loop-character-init : goal.loop-character-init
loop-character-init c = record { same = omega arith; few = omega arith }
