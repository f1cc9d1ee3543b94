use Rattle.std.proofs.Common.{arith}
use Rattle.vm_snapshot.proofs.Held.{masked_most}
use Rattle.vm_snapshot.proofs.register_reading.status.Goals as goal

pub overflow_cast-result : goal.overflow_cast-result
overflow_cast-result c = let most = masked_most 0xF71F _ c.in_ok-bits.ensures.admitted in omega (arith, most)
