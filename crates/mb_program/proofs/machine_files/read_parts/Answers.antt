use Rattle.std.proofs.Common.{[], None, Err, Ok, refl}
use Rattle.std.specs.Prelude.{◌*◌, Option, option_map}
use Rattle.std.proofs.lemmas.Result.{err_from_is_err_and}
use Rattle.mb_srec.specs.Image.{contents_of}
use Rattle.mb_walk.specs.Memory.{Contents}
use Rattle.mb_script.specs.Plan.{Disk}
use Rattle.def_machine.specs.Machine.{Entries, Opening}
use Rattle.mb_words.specs.Values.{file_said}
use Rattle.mb_words.specs.Words.{Text}
use Rattle.vm_disk.specs.Disk.{DiskState}
use Rattle.mb_files.specs.Reading.{Reading, gives, ◌>>=◌, file, if_named, images, scripts}
use Rattle.mb_program.specs.Files.{disk_file}
use Rattle.mb_program.specs.Said.{disk_named, parts_said}
use Rattle.mb_program.specs.declared.named.Parts.{Parts}
use Rattle.mb_files.proofs.ReadingLemmas.{read_ends, read_made, read_then}
use Rattle.mb_program.proofs.machine_files.read_parts.Goals as goal

abbrev provided : Contents → Entries → Option DiskState → Opening × Entries
provided image script disk = (record { image = image; disk = disk }, script)

-- what is read behind the script, and behind the image
abbrev behind_script : Option Disk → Contents → Entries → Reading (Opening × Entries)
behind_script disk image script = if_named disk_file None disk >>= λ opens. gives (provided image script opens)

abbrev behind_image : Option Text → Option Disk → Contents → Reading (Opening × Entries)
behind_image named disk image = if_named (file scripts) [] named >>= λ script. behind_script disk image script

pub returns-in_err-image-clause-read : goal.returns-in_err-image-clause-read
returns-in_err-image-clause-read g c =
    let files = c.args.files.now in
    let named = file_said files.script in
    let asked = option_map disk_named files.disk in
    let p = err_from_is_err_and c.from_residual.result c.from_residual.ensures.1 in
    rw (p.1, p.2) (read_ends (file (images (1024 * files.ram)) files.image.now) (behind_image named asked) contents_of parts_said _ _ c.in_err-image.field-0.0
    c.in_err-image.ensures.read)

pub returns-in_err-script-clause-read : goal.returns-in_err-script-clause-read
returns-in_err-script-clause-read g c =
    let files = c.args.files.now in
    let named = file_said files.script in
    let asked = option_map disk_named files.disk in
    let image = c.in_ok-image.image in
    let end = c.in_err-script.field-0.0 in
    let p = err_from_is_err_and c.from_residual-in_err-script.result c.from_residual-in_err-script.ensures.1 in
    rw (p.1, p.2) (read_then (file (images (1024 * files.ram)) files.image.now) (behind_image named asked) contents_of parts_said _ _ _ image (Err end)
    c.in_ok-image.ensures.read
    (read_ends (if_named (file scripts) [] named) (behind_script asked (contents_of image)) (λ (script : Entries). script) parts_said _ _ end
    c.in_err-script.ensures))

pub returns-in_err-disk-clause-read : goal.returns-in_err-disk-clause-read
returns-in_err-disk-clause-read g c =
    let files = c.args.files.now in
    let named = file_said files.script in
    let asked = option_map disk_named files.disk in
    let image = c.in_ok-image.image in
    let script = c.in_ok-script.script in
    let end = c.in_err-disk.field-0.0 in
    let p = err_from_is_err_and c.from_residual-in_err-disk.result c.from_residual-in_err-disk.ensures.1 in
    rw (p.1, p.2) (read_then (file (images (1024 * files.ram)) files.image.now) (behind_image named asked) contents_of parts_said _ _ _ image (Err end)
    c.in_ok-image.ensures.read
    (read_then (if_named (file scripts) [] named) (behind_script asked (contents_of image)) (λ (s : Entries). s) parts_said _ _ _ script (Err end)
    c.in_ok-script.ensures
    (read_ends (if_named disk_file None asked) (λ disk. gives (provided (contents_of image) script disk)) (λ (d : Option DiskState). d) parts_said _ _ end
    c.in_err-disk.ensures)))

pub returns-clause-read : goal.returns-clause-read
returns-clause-read g c =
    let files = c.args.files.now in
    let named = file_said files.script in
    let asked = option_map disk_named files.disk in
    let image = c.in_ok-image.image in
    let script = c.in_ok-script.script in
    let disk = c.in_ok-disk.disk in
    let parts : Parts = record { image = image; script = script; disk = disk } in
    read_then (file (images (1024 * files.ram)) files.image.now) (behind_image named asked) contents_of parts_said _ _ _ image (Ok parts)
    c.in_ok-image.ensures.read
    (read_then (if_named (file scripts) [] named) (behind_script asked (contents_of image)) (λ (s : Entries). s) parts_said _ _ _ script (Ok parts)
    c.in_ok-script.ensures
    (read_made (if_named disk_file None asked) (provided (contents_of image) script) (λ (d : Option DiskState). d) parts_said _ _ disk parts refl
    c.in_ok-disk.ensures))
