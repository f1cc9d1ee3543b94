use Rattle.std.proofs.Common.{◌∙◌, Option, ap, sym}
use Rattle.std.specs.Prelude.{◌-◌}
use Rattle.vm_disk.specs.Disk.{DiskState}
use Rattle.mb_devices.specs.Devices.{DeviceState}
use Rattle.vm_slices.specs.Lending.{with_devices_at}
use Rattle.vm_slices.specs.Places.{members_in, members_of, with_member}
use Rattle.mb_program.specs.Saved.{disked}
use Rattle.mb_program.proofs.ResumeLemmas.{disk_attached, none_there, stays_without}
use Rattle.mb_program.proofs.resumed.attach_disk.Goals as goal

pub attach-requires : goal.attach-requires
attach-requires c =
    none_there (c.args.number - 1) c.devices_mut.result.now (members_in c.args.host.now) c.requires.diskless c.devices_mut.ensures.value

pub returns-in-Some-clause-members : goal.returns-in-Some-clause-members
returns-in-Some-clause-members c =
    let k = c.args.number - 1 in
    let host = c.args.host.now in
    ap (λ (devices : DeviceState). members_of (with_devices_at k devices host.guests) host.ram) c.attach.ensures
    ∙ disk_attached k c.in-Some.disk c.devices_mut.result.now host.guests host.ram c.devices_mut.ensures.value
    ∙ ap (λ (disk : Option DiskState). with_member k (disked disk) (members_in host)) (sym c.in-Some.is)

pub returns-in_default-clause-members : goal.returns-in_default-clause-members
returns-in_default-clause-members c =
    let k = c.args.number - 1 in
    stays_without k (members_in c.args.host.now) c.requires.diskless
    ∙ ap (λ (disk : Option DiskState). with_member k (disked disk) (members_in c.args.host.now)) (sym c.in_default.is)
