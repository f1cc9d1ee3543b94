use Rattle.std.proofs.Common.{arith}
use Rattle.mb_alu.proofs.Words.{room_negative, room_positive}
use Rattle.mb_alu.proofs.shifts.has_room.Goals as goal

pub returns-then-value-half : goal.returns-then-value-half
returns-then-value-half c = cc (room_negative c.args.size c.args.value c.args.count c.requires.low (omega arith))

pub returns-else-value-half : goal.returns-else-value-half
returns-else-value-half c = cc (room_positive c.args.size c.args.value c.args.count c.requires.low (omega arith))
