use Rattle.std.proofs.Common.{◌≡◌, ◌+◌, ◌*◌, ◌%◌, arith}
use Rattle.mb_instr.specs.Sizes.{bytes_of}
use Rattle.mb_writes.specs.Transfers.{transfer_step}
use Rattle.mb_writes.proofs.Behind.{stands_behind}
use Rattle.mb_writes.proofs.transfers.Movem.transfer_at.Goals as goal

pub returns-clause-stands : goal.returns-clause-stands
returns-clause-stands c =
    let m = c.args.self.now in
    let step = transfer_step m.mode (bytes_of m.size) in
    let same : (c.args.ea + c.args.done * step % 4294967296) % 4294967296 ≡ (c.args.ea + c.args.done * step) % 4294967296 = omega arith in
    rw (c.from.ensures, c.step.ensures) (stands_behind m c.args.ea c.args.done _ (omega arith) same)
