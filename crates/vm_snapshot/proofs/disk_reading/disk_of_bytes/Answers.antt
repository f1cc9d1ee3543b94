use Rattle.std.proofs.Common.{ap, ◌∙◌}
use Rattle.vm_disk.specs.Disk.{opened}
use Rattle.vm_snapshot.proofs.DiskSteps.{opened_whole}
use Rattle.vm_snapshot.proofs.disk_reading.disk_of_bytes.Goals as goal

pub returns-clause-disk : goal.returns-clause-disk
returns-clause-disk c =
    c.in-Ok.ensures ∙ (ap (opened c.args.blocks) c.in_ok-image.ensures.image ∙ opened_whole c.args.blocks c.args.bytes.items c.requires.whole)
