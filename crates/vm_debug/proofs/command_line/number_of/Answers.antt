use Rattle.std.proofs.Common.{arith}
use Rattle.mb_script.proofs.Numbers.{overflow}
use Rattle.vm_debug.proofs.command_line.number_of.Goals as goal

pub returns-then-next-from : goal.returns-then-next-from
returns-then-next-from c = overflow c.args.word.now c.loop-digit.digit-index c.loop-digit.number (omega arith) (omega arith) c.loop-digit.invariant.reads
