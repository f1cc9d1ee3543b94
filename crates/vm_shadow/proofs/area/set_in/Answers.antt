use Rattle.std.proofs.Common.{◌+◌, ◌*◌, arith}
use Rattle.mb_walk.proofs.MemoryLemmas.{length-with_number}
use Rattle.vm_shadow.proofs.Longs.{longs_written, take_written, drop_written}
use Rattle.vm_shadow.proofs.area.set_in.Goals as goal

pub returns-clause-longs : goal.returns-clause-longs
returns-clause-longs g c =
    rw c.set_long.ensures.bytes (longs_written _ c.args.area c.args.index c.args.long (omega arith) (omega arith) c.ranges.long.fits)

pub returns-clause-outside : goal.returns-clause-outside
returns-clause-outside g c =
    let at = c.args.area + 4 * c.args.index in
    record {
      count = rw c.set_long.ensures.bytes (length-with_number _ at 4 c.args.long (omega arith));
      below = rw c.set_long.ensures.bytes (take_written _ c.args.area at c.args.long (omega arith) (omega arith));
      above = rw c.set_long.ensures.bytes (drop_written _ (c.args.area + 65536) at c.args.long (omega arith) (omega arith));
    }
