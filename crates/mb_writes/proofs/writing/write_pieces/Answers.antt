use Rattle.std.proofs.Common.{ap}
use Rattle.mb_writes.specs.declared.ends.WriteFault.{WriteFault}
use Rattle.mb_writes.proofs.Pending.{left_from}
use Rattle.mb_writes.proofs.writing.write_pieces.Goals as goal

pub returns-in-Err-clause-left : goal.returns-in-Err-clause-left
returns-in-Err-clause-left g c =
    left_from c.loop-i.i c.left.result.rest.items c.args.pending.now c.loop-i-test.true (ap (λ (w : WriteFault). w.rest.items) c.left.ensures)
