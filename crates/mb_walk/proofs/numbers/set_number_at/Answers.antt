use Rattle.std.proofs.Common.{arith}
use Rattle.mb_walk.proofs.Spelling.{written, written_two, set_byte}
use Rattle.mb_walk.proofs.numbers.set_number_at.Goals as goal

pub returns-in-1 : goal.returns-in-1
returns-in-1 c = set_byte c.args.bytes.now c.args.at c.args.len c.args.value c.in-1.is (omega arith)

pub returns-in-2 : goal.returns-in-2
returns-in-2 c =
    written_two c.args.bytes.now c.write_u16.new.buf c.args.at c.args.len c.args.value _ c.in-2.is (omega arith) c.write_u16.ensures

pub returns-in_default : goal.returns-in_default
returns-in_default c =
    written c.args.bytes.now c.write_u32.new.buf c.args.at c.args.len 4 c.args.value _ (omega arith) (omega arith) c.write_u32.ensures
