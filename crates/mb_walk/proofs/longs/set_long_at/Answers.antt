use Rattle.std.proofs.Common.{arith, refl}
use Rattle.mb_walk.proofs.Spelling.{written}
use Rattle.mb_walk.proofs.longs.set_long_at.Goals as goal

pub returns : goal.returns
returns c = written c.args.bytes.now c.write_u32.new.buf c.args.at 4 4 c.args.value _ refl (omega arith) c.write_u32.ensures
