use Rattle.std.proofs.Common.{arith}
use Rattle.mb_writes.specs.Transfers.{count_of}
use Rattle.mb_writes.proofs.Bits.{counted, all_counted, at_most_one}
use Rattle.mb_writes.proofs.transfers.count.Goals as goal

pub loop-bit-preserved : goal.loop-bit-preserved
loop-bit-preserved c =
    let one = at_most_one c.args.mask c.loop-bit.bit in
    let few = c.loop-bit.invariant.few in record {
      told = counted c.args.mask c.loop-bit.bit c.loop-bit.named (count_of c.args.mask) c.loop-bit-test.true c.loop-bit.invariant.told;
      few = omega arith;
    }

pub returns : goal.returns
returns c = all_counted c.args.mask c.loop-bit.bit c.loop-bit.named (count_of c.args.mask) c.loop-bit-test.false c.loop-bit.invariant.told
