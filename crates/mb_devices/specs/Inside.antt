-- The devices as the code holds them.
use Rattle.std.specs.Prelude.{◌≡◌, ◌<◌, ◌≤◌, length, vec_len, vec_capacity}
use Rattle.mb_devices.specs.declared.devices.Devices.TheInside.{Inside}
use Rattle.mb_devices.specs.Devices.{DeviceState}
use Rattle.mb_devices.specs.declared.devices.TheConstants.{QUEUE_ROOM, CONSOLE_ROOM}

-- what contracts see of them
abbrev pub state_of : Inside → DeviceState
state_of d = record {
  ram = d.ram;
  queue = d.queue.items;
  overrun = d.overrun;
  enabled = d.enabled;
  console = d.console.items;
  lost = d.lost;
  period = d.period;
  count = d.count;
  pending = d.pending;
  off = d.off;
  disk = d.disk;
}

-- what always holds of them: queue and console have their room, and a timer that runs has steps left
pub record IsSound (d : Inside) : Type 0 where
  pub queue_capacity : d.queue.capacity ≡ QUEUE_ROOM
  pub queue : length d.queue.items ≤ QUEUE_ROOM
  pub console : vec_len d.console ≤ CONSOLE_ROOM
  pub console_capacity : CONSOLE_ROOM ≤ vec_capacity d.console
  pub count : d.count ≤ d.period
  pub runs : 0 < d.period → 0 < d.count
