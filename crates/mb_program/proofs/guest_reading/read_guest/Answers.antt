use Rattle.std.proofs.Common.{◌≡◌, ◌∙◌, Err, None, Ok, Option, Some, ap, sym}
use Rattle.std.specs.Prelude.{ℕ, ◌*◌}
use Rattle.std.proofs.lemmas.Result.{err_from_is_err_and}
use Rattle.mb_srec.specs.Image.{contents_of}
use Rattle.mb_script.specs.Answers.{guest_said}
use Rattle.mb_script.specs.Plan.{Guest}
use Rattle.mb_walk.specs.Memory.{Contents}
use Rattle.def_machine.specs.Machine.{Entries, Opening}
use Rattle.vm_disk.specs.Disk.{DiskState}
use Rattle.vm_guest.specs.Session.{GuestAtStart}
use Rattle.mb_files.specs.Reading.{Reading, gives}
use Rattle.mb_files.specs.Reads.{IsRead}
use Rattle.mb_files.specs.Shelves.{shelf_seen}
use Rattle.mb_program.specs.Files.{machine_files}
use Rattle.mb_program.specs.Said.{parts_said}
use Rattle.mb_files.proofs.ReadingLemmas.{read_ends, read_made}
use Rattle.mb_program.proofs.GuestLemmas.{same_files}
use Rattle.mb_program.proofs.guest_reading.read_guest.Goals as goal

-- what a guest is by what its files hold
abbrev begun : Guest → Opening × Entries → GuestAtStart
begun guest (opening, script) = record { opening = opening; script = script; ram = 1024 * guest.ram; steps = guest.steps }

begun_so : (guest : Guest) (image : Contents) (script : Entries) (disk held : Option DiskState) (ram steps : ℕ) → disk ≡ held → ram ≡ guest.ram
    → steps ≡ guest.steps
    → ◌≡◌ {A = GuestAtStart} (record { opening = record { image = image; disk = disk }; script = script; ram = 1024 * ram; steps = steps })
    (begun guest (record { image = image; disk = held }, script))
begun_so guest image script disk held ram steps same size bound =
    ap (λ d. (let g : GuestAtStart = record { opening = record { image = image; disk = d }; script = script; ram = 1024 * ram; steps = steps } in g)) same
    ∙ ap (λ n. (let g : GuestAtStart = record { opening = record { image = image; disk = held }; script = script; ram = 1024 * n; steps = steps } in g)) size
    ∙ ap (λ n. (let g : GuestAtStart = record { opening = record { image = image; disk = held }; script = script; ram = 1024 * guest.ram; steps = n } in
    g)) bound

pub returns-in_err-parts-clause-read : goal.returns-in_err-parts-clause-read
returns-in_err-parts-clause-read g c =
    let guest = guest_said c.args.plan.now in
    let end = c.in_err-parts.field-0.0 in
    let p = err_from_is_err_and c.from_residual.result c.from_residual.ensures.1 in
    rw (p.1, p.2) (read_ends (machine_files guest.image guest.ram guest.script guest.disk) (λ read. gives (begun guest read)) parts_said
    (λ (g : GuestAtStart). g)
    _ _ end (same_files _ guest.image _ guest.ram _ guest.script _ guest.disk (λ (r : Reading (Opening × Entries)). IsRead r parts_said
    (shelf_seen g.F.Shelf c.args.shelf.now) (shelf_seen g.F.Shelf c.read_parts.new.shelf) (Err end))
    c.files_of.ensures.image c.files_of.ensures.ram c.files_of.ensures.script c.files_of.ensures.disk c.in_err-parts.ensures.read))

pub returns-in-Some-clause-read : goal.returns-in-Some-clause-read
returns-in-Some-clause-read g c =
    let guest = guest_said c.args.plan.now in
    let parts = c.in_ok-parts.parts in
    let disk = c.in-Some.disk in
    read_made (machine_files guest.image guest.ram guest.script guest.disk) (begun guest) parts_said (λ (g : GuestAtStart). g)
    (shelf_seen g.F.Shelf c.args.shelf.now) (shelf_seen g.F.Shelf c.read_parts.new.shelf) parts c.with_disk.result
    (c.with_disk.ensures
    ∙ ap (λ (g : GuestAtStart). (let h : GuestAtStart = record g { opening = record g.opening { disk = Some disk } } in h)) c.new-guest.ensures
    ∙ begun_so guest (contents_of parts.image) parts.script (Some disk) parts.disk c.ram.result c.steps.result (sym c.in-Some.is) c.ram.ensures c.steps.ensures)
    (same_files _ guest.image _ guest.ram _ guest.script _ guest.disk (λ (r : Reading (Opening × Entries)). IsRead r parts_said
    (shelf_seen g.F.Shelf c.args.shelf.now) (shelf_seen g.F.Shelf c.read_parts.new.shelf) (Ok parts))
    c.files_of.ensures.image c.files_of.ensures.ram c.files_of.ensures.script c.files_of.ensures.disk c.in_ok-parts.ensures.read)

pub returns-in-None-clause-read : goal.returns-in-None-clause-read
returns-in-None-clause-read g c =
    let guest = guest_said c.args.plan.now in
    let parts = c.in_ok-parts.parts in
    read_made (machine_files guest.image guest.ram guest.script guest.disk) (begun guest) parts_said (λ (g : GuestAtStart). g)
    (shelf_seen g.F.Shelf c.args.shelf.now) (shelf_seen g.F.Shelf c.read_parts.new.shelf) parts c.new-guest.result
    (c.new-guest.ensures
    ∙ begun_so guest (contents_of parts.image) parts.script None parts.disk c.ram.result c.steps.result (sym c.in-None.is) c.ram.ensures c.steps.ensures)
    (same_files _ guest.image _ guest.ram _ guest.script _ guest.disk (λ (r : Reading (Opening × Entries)). IsRead r parts_said
    (shelf_seen g.F.Shelf c.args.shelf.now) (shelf_seen g.F.Shelf c.read_parts.new.shelf) (Ok parts))
    c.files_of.ensures.image c.files_of.ensures.ram c.files_of.ensures.script c.files_of.ensures.disk c.in_ok-parts.ensures.read)
