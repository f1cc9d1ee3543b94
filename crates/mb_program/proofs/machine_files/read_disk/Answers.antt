use Rattle.std.proofs.Common.{[], Some, ap}
use Rattle.std.specs.Prelude.{◌*◌}
use Rattle.std.proofs.lemmas.Result.{err_from_is_err_and}
use Rattle.mb_srec.specs.Image.{contents_of}
use Rattle.vm_disk.specs.Disk.{DiskState, opened}
use Rattle.vm_disk.specs.declared.disk.TheConstants.{BLOCK_BYTES}
use Rattle.mb_files.specs.Reading.{file, gives, if_named, images}
use Rattle.mb_program.specs.Said.{disk_named}
use Rattle.mb_files.proofs.ReadingLemmas.{read_ends, read_made}
use Rattle.mb_program.proofs.machine_files.read_disk.Goals as goal

pub returns-in_err-contents : goal.returns-in_err-contents
returns-in_err-contents g c =
    let disk = disk_named c.args.disk.now in
    let p = err_from_is_err_and c.from_residual.result c.from_residual.ensures.1 in
    rw (p.1, p.2) (read_ends (if_named (file (images (BLOCK_BYTES * disk.blocks))) [] disk.contents) (λ contents. gives (Some (opened disk.blocks contents)))
    contents_of (λ (d : DiskState). Some d) _ _ c.in_err-contents.field-0.0 c.in_err-contents.ensures.read)

pub returns : goal.returns
returns g c =
    let disk = disk_named c.args.disk.now in
    read_made (if_named (file (images (BLOCK_BYTES * disk.blocks))) [] disk.contents) (λ contents. Some (opened disk.blocks contents)) contents_of
    (λ (d : DiskState). Some d) _ _
    c.in_ok-contents.contents c.new.result (ap (λ d. Some d) c.new.ensures) c.in_ok-contents.ensures.read
