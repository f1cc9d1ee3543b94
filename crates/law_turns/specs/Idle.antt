-- Steps at which STOP holds a guest's processor: nothing happens at them but the ticks of the timer, so as many as are
-- quiet may be taken at once.
use Rattle.std.specs.Prelude.{◌≡◌, ℕ, suc, ◌+◌, ◌<◌, ◌≤◌, false, true, List}
use Rattle.mb_devices.specs.Devices.{DeviceState, passed, IsNotDue}
use Rattle.def_processor.specs.Step.{interrupt_mask, rank}
use Rattle.def_machine.specs.Machine.{Entries, asked_of, going, takes_steps}
use Rattle.def_runs.specs.Batches.{NothingArrives}
use Rattle.def_runs.specs.Native.{NativeState}
use Rattle.def_guests.specs.Turns.{Guested, Turned, guest_begun, turn_of}
use Rattle.def_guests.specs.Seats.{Seat, guested_on, IsSeated, Takes}

-- STOP holds the guest, which takes steps, and once its next step has begun no interrupt above its mask is asked for.
pub record IsIdle (script : Entries) (g : Guested) : Type 0 where
  pub goes : takes_steps g.machine.state ≡ true
  pub stopped : g.machine.cpu.stopped ≡ true
  pub masked : rank (asked_of script (guest_begun script g).machine) ≤ interrupt_mask g.machine.cpu

-- ---- of a guest by itself

-- a guest behind so many idle steps, with its devices then
abbrev pub idle_guest : ℕ → DeviceState → Guested → Guested
idle_guest k d g = record g {
  machine = record g.machine {
    world = record g.machine.world { devices = d };
    steps = g.machine.steps + k;
    state = going g.machine.cpu d;
  };
}

-- and what was counted
abbrev pub idle_turned : ℕ → DeviceState → Turned → Turned
idle_turned k d t = record t {
  guest = idle_guest k d t.guest;
  tally = record t.tally { idle = t.tally.idle + k };
}

-- Where a guest's next step is idle, and behind its beginning so many steps are quiet, they are all idle, and the timer
-- has counted them. One that is switched off takes none behind it.
abbrev pub QuietStepsAreIdle : Type 0
QuietStepsAreIdle = (script : Entries) (n : ℕ) (t : Turned) → IsIdle script t.guest
    → (0 < n → t.guest.machine.world.devices.off ≡ false) → NothingArrives script (t.guest.machine.steps + 1) n
    → let d = (guest_begun script t.guest).machine.world.devices in IsNotDue n d
    → turn_of script (suc n) t ≡ idle_turned (suc n) (passed n d) t

-- ---- of a seated guest

-- a guest behind so many more steps, and so many more that are idle, with its devices then
abbrev pub idle_seat : Seat → (more idle : ℕ) → DeviceState → Seat
idle_seat g more k d = record g {
  devices = d;
  steps = g.steps + more;
  state = going g.cpu d;
  tally = record g.tally { idle = g.tally.idle + k };
}

-- So the monitor takes them at once, and no board has a part in them.
abbrev pub IdleStepsTake : Type 0
IdleStepsTake = (g : Seat) (ram : List ℕ) (native : NativeState) (n : ℕ) → IsSeated g ram
    → IsIdle g.script (guested_on g ram) → (0 < n → g.devices.off ≡ false) → NothingArrives g.script (g.steps + 1) n
    → let d = (guest_begun g.script (guested_on g ram)).machine.world.devices in IsNotDue n d
    → Takes (suc n) (record { guest = g; ram = ram; native = native })
    (record { guest = idle_seat g (suc n) (suc n) (passed n d); ram = ram; native = native })
