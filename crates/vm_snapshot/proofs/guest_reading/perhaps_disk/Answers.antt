use Rattle.std.proofs.Common.{◌≡◌, sym, ap, ◌∙◌}
use Rattle.std.specs.Prelude.{Some, option_map}
use Rattle.mb_spelling.specs.Spelling.{mapped}
use Rattle.vm_disk.specs.Disk.{DiskState}
use Rattle.vm_snapshot.specs.Guests.{disk, is_disk}
use Rattle.vm_snapshot.specs.Parts.{read_perhaps}
use Rattle.vm_snapshot.specs.Plans.{state_of}
use Rattle.vm_snapshot.proofs.Readings.{as_mapped, some_there}
use Rattle.vm_snapshot.proofs.GuestSteps.{state_there}
use Rattle.vm_snapshot.proofs.Handed.{passed_on, stops_as}
use Rattle.vm_snapshot.proofs.guest_reading.perhaps_disk.Goals as goal

pub returns-in_err-disk-clause-reads : goal.returns-in_err-disk-clause-reads
returns-in_err-disk-clause-reads c =
    let text = c.args.reader.now.left in
    let r = (disk c.args.guest).read text in
    let whole : mapped (option_map state_of) (read_perhaps is_disk (disk c.args.guest).read text) ≡ mapped Some (mapped state_of r) =
    ap (mapped (option_map state_of)) (some_there 100 (disk c.args.guest).read text (sym c.is_at.ensures ∙ c.if-not-is_at.false)) ∙ state_there r in
    passed_on _ (λ (d : DiskState). d) c.from_residual.result c.in_err-disk.field-0.0 _ (mapped state_of r) _ c.from_residual.ensures.0
    c.from_residual.ensures.1 c.in_err-disk.ensures.reads (stops_as whole (as_mapped Some (mapped state_of r)))

pub returns-clause-reads : goal.returns-clause-reads
returns-clause-reads c =
    let text = c.args.reader.now.left in
    let r = (disk c.args.guest).read text in
    ap (mapped (option_map state_of)) (some_there 100 (disk c.args.guest).read text (sym c.is_at.ensures ∙ c.if-not-is_at.false))
    ∙ (state_there r ∙ ap (mapped Some) c.in_ok-disk.ensures.reads)
