use Rattle.std.proofs.Common.{false}
use Rattle.mb_port.specs.declared.types.Space.TheVariants.{User}
use Rattle.mb_model.specs.declared.kept.Kept.{Kept}
use Rattle.mb_report.specs.Kept.{kept_line}
use Rattle.mb_report.proofs.BufferLemmas.{buffers_nothing, buffers_then}
use Rattle.mb_report.proofs.FlatMapLemmas.{flat_map-take}
use Rattle.vm_snapshot.proofs.guest_writing.write_all_kept.Goals as goal

pub loop-entry-init : goal.loop-entry-init
loop-entry-init g c = buffers_nothing _ _ _

pub loop-entry-preserved : goal.loop-entry-preserved
loop-entry-preserved g c =
    let i = c.loop-entry.entry-index in
    let missing : Kept = record { space = User; page = 0; frame = 0; w = false; s = false; g = false; m = false } in
    rw (flat_map-take kept_line c.args.kept.now i missing c.loop-entry-test.true)
    (buffers_then c.loop-entry.invariant c.write_kept.ensures)
