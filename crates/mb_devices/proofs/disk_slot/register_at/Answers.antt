use Rattle.std.proofs.Common.{◌∙◌, ap, sym}
use Rattle.std.specs.Prelude.{Option}
use Rattle.vm_disk.specs.Disk.{DiskState}
use Rattle.mb_devices.specs.Registers.{disk_register_at}
use Rattle.mb_devices.proofs.disk_slot.register_at.Goals as goal

pub returns-in-Some-clause-register : goal.returns-in-Some-clause-register
returns-in-Some-clause-register c =
    c.of_disk.ensures.register c.in-Some.field-0
    ∙ ap (λ (o : Option DiskState). disk_register_at o c.args.place) (sym c.in-Some.is)
