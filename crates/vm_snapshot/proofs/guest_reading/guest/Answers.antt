use Rattle.std.proofs.Common.{◌≡◌, refl, sym, ap, ◌∙◌}
use Rattle.std.specs.Prelude.{Option, option_map}
use Rattle.mb_spelling.specs.Spelling.{Read, mapped}
use Rattle.vm_disk.specs.Disk.{DiskState}
use Rattle.vm_snapshot.specs.Guests.{disk, guest_said, is_disk}
use Rattle.vm_snapshot.specs.Parts.{guest_and_disk, read_perhaps}
use Rattle.vm_snapshot.specs.Plans.{guest_of, state_of}
use Rattle.vm_snapshot.specs.Views.{front_seen, told_seen}
use Rattle.vm_snapshot.specs.declared.plan.SnapGuest.{SnapGuest}
use Rattle.vm_snapshot.proofs.GuestSteps.{disk_stops, guest_joined, with_disk}
use Rattle.vm_snapshot.proofs.Handed.{passed_on, stops_as}
use Rattle.vm_snapshot.proofs.Runs.{lines_say}
use Rattle.vm_snapshot.proofs.guest_reading.guest.Goals as goal

pub returns-in_err-disk-clause-reads : goal.returns-in_err-disk-clause-reads
returns-in_err-disk-clause-reads c =
    let front = front_seen c.in_ok-front.front in
    let g = guest_said (front, told_seen c.in_ok-told.told) in
    let left = c.read_told.new.reader.left in
    let r = read_perhaps is_disk (disk c.args.guest).read left in
    let whole : mapped guest_of ((guest_and_disk c.args.guest).read c.args.reader.now.left) ≡ mapped guest_of (mapped (λ d. (g, d)) r) =
    rw (c.in_ok-front.ensures.reads, c.in_ok-told.ensures.reads) refl in
    passed_on _ (λ (d : Option DiskState). d) c.from_residual-in_err-disk.result c.in_err-disk.field-0.0 _ (mapped (option_map state_of) r) _
    c.from_residual-in_err-disk.ensures.0 c.from_residual-in_err-disk.ensures.1 c.in_err-disk.ensures.reads
    (stops_as whole (disk_stops g r))

pub returns-clause-reads : goal.returns-clause-reads
returns-clause-reads c =
    let front = front_seen c.in_ok-front.front in
    let g = guest_said (front, told_seen c.in_ok-told.told) in
    let left = c.read_told.new.reader.left in
    let r = read_perhaps is_disk (disk c.args.guest).read left in
    let whole : mapped guest_of ((guest_and_disk c.args.guest).read c.args.reader.now.left) ≡ mapped guest_of (mapped (λ d. (g, d)) r) =
    rw (c.in_ok-front.ensures.reads, c.in_ok-told.ensures.reads) refl in
    whole
    ∙ (guest_joined g c.in_ok-front.front.script r (lines_say c.in_ok-front.front.script)
    ∙ (ap (mapped (with_disk g c.in_ok-front.front.script)) c.in_ok-disk.ensures.reads
    ∙ ap (λ (x : SnapGuest). Read x c.perhaps_disk.new.reader.left) (sym c.guest_by.ensures)))
