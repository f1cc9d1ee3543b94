-- A machine with a disk.
use Rattle.std.specs.Prelude.{Option}
use Rattle.vm_disk.specs.Disk.{DiskState}
use Rattle.def_machine.specs.Machine.{Machine, with_devices}

-- a machine with this disk, or with none
abbrev pub with_disk : Option DiskState → Machine → Machine
with_disk disk m = with_devices m (record m.world.devices { disk = disk })
