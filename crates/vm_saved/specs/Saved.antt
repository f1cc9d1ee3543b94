-- The machine that was saved, and what is saved of a machine.
use Rattle.std.specs.Prelude.{◌≡◌, ◌%◌, true, [], ◌∷◌, length, Option}
use Rattle.std.specs.Int.{from_bool}
use Rattle.mb_model.specs.Keeping.{list_of}
use Rattle.vm_disk.specs.Disk.{DiskState}
use Rattle.mb_devices.specs.Adopted.{devices_of}
use Rattle.mb_devices.specs.Registers.{status_of}
use Rattle.mb_saved.specs.Lines.{lines_of, ram_by}
use Rattle.mb_saved.specs.Saved.{Saved, is_off, is_stopped}
use Rattle.def_machine.specs.Machine.{Machine, going, takes_steps}

-- ---- the machine that was saved

-- The machine, with whatever disk is attached. It goes on by the rule of guests.
abbrev pub machine_of : Option DiskState → Saved → Machine
machine_of disk s = record {
  cpu = s.cpu;
  world = record {
    ram = ram_by s.ram s.lines;
    mmu = s.mmu;
    devices = devices_of disk s;
    kept = s.kept ∷ [];
  };
  steps = s.steps;
  state = s.state;
}

-- ---- what is saved of a machine

-- What a snapshot tells of a machine by the rule of guests, but for its disk. It has the processor but for whether STOP
-- holds it, which the state says, and the devices but for the power switch, which the state says too.
abbrev pub saved_of : Machine → Saved
saved_of m = record {
  ram = length m.world.ram;
  cpu = record m.cpu { stopped = is_stopped m.state };
  mmu = m.world.mmu;
  kept = list_of 0 m.world.kept;
  steps = m.steps;
  state = m.state;
  lines = lines_of m.world.ram;
  console = m.world.devices.console;
  lost = m.world.devices.lost;
  queue = m.world.devices.queue;
  ctrl = from_bool m.world.devices.enabled;
  status = status_of m.world.devices;
  period = m.world.devices.period;
  count = m.world.devices.count;
  pending = from_bool m.world.devices.pending;
}

-- A machine that a snapshot can tell of: one list of what is kept, RAM of whole lines whose size the devices show, and
-- a state that says what processor and devices say, where it takes steps.
pub record CanBeSaved (m : Machine) : Type 0 where
  pub one_list : m.world.kept ≡ list_of 0 m.world.kept ∷ []
  pub whole : length m.world.ram % 16 ≡ 0
  pub shown : m.world.devices.ram ≡ length m.world.ram
  pub goes : takes_steps m.state ≡ true → m.state ≡ going m.cpu m.world.devices

-- the machine as a snapshot tells of it: where it takes no more steps, neither STOP nor the power switch counts
abbrev pub as_told : Machine → Machine
as_told m = record m {
  cpu = record m.cpu { stopped = is_stopped m.state };
  world = record m.world { devices = record m.world.devices { off = is_off m.state } };
}

-- With its disk it is told whole, but for that,
abbrev pub SavedIsGivenBack : Type 0
SavedIsGivenBack = (m : Machine) → CanBeSaved m → machine_of m.world.devices.disk (saved_of m) ≡ as_told m

-- and one that takes steps is told whole.
abbrev pub GoingIsGivenBack : Type 0
GoingIsGivenBack = (m : Machine) → CanBeSaved m → takes_steps m.state ≡ true
    → machine_of m.world.devices.disk (saved_of m) ≡ m
