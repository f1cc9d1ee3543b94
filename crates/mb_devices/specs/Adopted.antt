-- The devices that were saved.
use Rattle.std.specs.Prelude.{◌/◌, ◌%◌, ◌==◌, Option}
use Rattle.vm_disk.specs.Disk.{DiskState}
use Rattle.mb_saved.specs.Saved.{Saved, is_off}
use Rattle.mb_devices.specs.Devices.{DeviceState}

-- by what their registers show, with whatever disk is attached; where the machine is off, the power switch is set
abbrev pub devices_of : Option DiskState → Saved → DeviceState
devices_of disk s = record {
  ram = s.ram;
  queue = s.queue;
  overrun = s.status / 4 % 2 == 1;
  enabled = s.ctrl == 1;
  console = s.console;
  lost = s.lost;
  period = s.period;
  count = s.count;
  pending = s.pending == 1;
  off = is_off s.state;
  disk = disk;
}
