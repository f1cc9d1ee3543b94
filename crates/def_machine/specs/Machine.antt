-- The machine, its start, its steps and its runs, by a rule of keeping.
use Rattle.std.specs.Prelude.{ℕ, zero, suc, ◌+◌, ◌==◌, ◌&&◌, ◌||◌, Bool, true, false, if◌then◌else◌}
use Rattle.std.specs.Prelude.{List, [], ◌∷◌, replicate, Option, None}
use Rattle.std.specs.Int.{from_bool}
use Rattle.mb_port.specs.Routine.{run}
use Rattle.mb_model.specs.declared.processor.Cpu.{Cpu}
use Rattle.mb_model.specs.declared.status.TheConstants.{NON_MASKABLE}
use Rattle.mb_model.specs.declared.outcome.RunState.{RunState}
use Rattle.mb_model.specs.declared.outcome.RunState.TheVariants.{Running, Stopped, Halted, Off}
use Rattle.mb_model.specs.Keeping.{Rule, nothing_kept}
use Rattle.mb_model.specs.Reset.{at_reset, mmu_at_reset}
use Rattle.mb_model.specs.Seen.{Seen}
use Rattle.def_processor.specs.declared.Finish.{Finish}
use Rattle.def_processor.specs.declared.StepEnd.{StepEnd}
use Rattle.def_processor.specs.declared.StepEnd.TheVariants as step
use Rattle.def_processor.specs.Raise.{Stepped, step_end}
use Rattle.def_processor.specs.Step.{step_of}
use Rattle.mb_devices.specs.Devices.{DeviceState, idle, level_of, received, ticked}
use Rattle.mb_devices.specs.Registers.{status_of}
use Rattle.vm_disk.specs.Disk.{DiskState}
use Rattle.mb_script.specs.declared.input.Input.{Input}
use Rattle.mb_script.specs.declared.input.Input.TheVariants as input
use Rattle.mb_script.specs.Script as scripts
use Rattle.mb_walk.specs.Memory.{Contents, number_at, with_contents}
use Rattle.def_machine.specs.World.{World}
use Rattle.def_machine.specs.Bus.{bus_of}

pub record Machine : Type 0 where
  pub cpu : Cpu
  -- what its bus reads and changes
  pub world : World
  pub steps : ℕ
  pub state : RunState

-- ---- its start

-- what a machine opens with: its image, and its disk, where it has one
pub record Opening : Type 0 where
  pub image : Contents
  pub disk : Option DiskState

-- an image without a disk
abbrev pub diskless : Contents → Opening
diskless image = record { image = image; disk = None }

-- idle devices of so many bytes of RAM, with the disk
abbrev pub opening_devices : (size : ℕ) → Option DiskState → DeviceState
opening_devices size disk = record (idle size) { disk = disk }

abbrev pub world_at_reset : Rule → DeviceState → List ℕ → World
world_at_reset rule devices ram =
    record { ram = ram; mmu = mmu_at_reset; devices = devices; kept = nothing_kept rule }

-- A machine with this memory and these devices after reset: ISP is the long at 0, PC the long at 4, nothing is kept by
-- the rule, and no step is taken.
unfoldable pub reset_with : Rule → DeviceState → List ℕ → Machine
reset_with rule devices ram = record {
  cpu = at_reset (number_at ram 0 4) (number_at ram 4 4);
  world = world_at_reset rule devices ram;
  steps = 0;
  state = Running;
}

-- the start of a machine with so many bytes of RAM: 0 where the image gives nothing
abbrev pub start : Rule → Opening → (size : ℕ) → Machine
start rule opening size =
    reset_with rule (opening_devices size opening.disk) (with_contents (replicate size 0) opening.image)

-- a machine with other memory, or with other devices
abbrev pub with_ram : Machine → List ℕ → Machine
with_ram m ram = record m { world = record m.world { ram = ram } }

abbrev pub with_devices : Machine → DeviceState → Machine
with_devices m devices = record m { world = record m.world { devices = devices } }

-- ---- a step

-- the entries of a script
abbrev pub Entries : Type 0
Entries = scripts.Entries

-- the devices once they have received this: an abort is none of theirs
abbrev pub taken_in : Input → DeviceState → DeviceState
taken_in (input.Byte byte) d = received byte d
taken_in input.Abort d = d

-- the devices once they have received, in order, what arrives at a step
abbrev pub arrived : ℕ → Entries → DeviceState → DeviceState
arrived step [] d = d
arrived step (entry ∷ script) d = arrived step script (if entry.step == step then taken_in entry.input d else d)

abbrev pub is_abort : Input → Bool
is_abort (input.Byte byte) = false
is_abort input.Abort = true

-- an abort arrives at a step
abbrev pub aborts : ℕ → Entries → Bool
aborts step [] = false
aborts step (entry ∷ script) = ((entry.step == step) && is_abort entry.input) || aborts step script

-- the interrupt level that the step of this number is asked for, with such devices once it has begun: an abort asks for
-- level 7, in that step alone
abbrev pub asked : Entries → (step : ℕ) → DeviceState → ℕ
asked script step d = if aborts step script then NON_MASKABLE else level_of d

-- a step begins: what is due at its number is received, and the timer ticks. The first step has number 1
abbrev pub begun : Entries → Machine → Machine
begun script m = with_devices m (ticked (arrived (m.steps + 1) script m.world.devices))

-- the interrupt level that a step is asked for that has begun so
abbrev pub asked_of : Entries → Machine → ℕ
asked_of script m = asked script (m.steps + 1) m.world.devices

-- the processor's part of it, at the interrupt level that it is asked for
abbrev pub processed : Rule → Entries → Machine → Stepped × World
processed rule script m = run (bus_of rule) (step_of (asked_of script m) m.cpu) m.world

-- off, stopped or running
abbrev pub going : Cpu → DeviceState → RunState
going cpu d = if d.off then Off else if cpu.stopped then Stopped else Running

-- the state after a step that ended so: a step that halts leaves it halted, also where it switches off
abbrev pub state_after : StepEnd → Cpu → DeviceState → RunState
state_after step.Halted cpu d = Halted
state_after _ cpu d = going cpu d

-- the machine one step later, with the processor and the world that the step left
abbrev pub one_later : Machine → Finish → Cpu → World → Machine
one_later m ended cpu w =
    record { cpu = cpu; world = w; steps = m.steps + 1; state = state_after (step_end ended) cpu w.devices }

abbrev pub with_finish : Machine → Stepped × World → Finish × Machine
with_finish m ((ended, cpu), w) = (ended, one_later m ended cpu w)

-- one step: how it ended, and the machine after it
abbrev pub stepping : Rule → Entries → Machine → Finish × Machine
stepping rule script m = with_finish m (processed rule script (begun script m))

-- the machine after one step
abbrev pub stepped : Rule → Entries → Machine → Machine
stepped rule script m = let (_, after) = stepping rule script m in after

-- halted and switched-off machines take no step
abbrev pub takes_steps : RunState → Bool
takes_steps Running = true
takes_steps Stopped = true
takes_steps Halted = false
takes_steps Off = false

-- a machine with another processor: one that takes steps is stopped exactly where STOP holds that
abbrev pub state_with : Cpu → RunState → RunState
state_with cpu state = if takes_steps state then (if cpu.stopped then Stopped else Running) else state

abbrev pub with_cpu : Machine → Cpu → Machine
with_cpu m cpu = record m { cpu = cpu; state = state_with cpu m.state }

-- the machine after so many steps, or fewer where it is halted or off
unfoldable pub run_of : Rule → Entries → ℕ → Machine → Machine
run_of rule script zero m = m
run_of rule script (suc n) m = if takes_steps m.state then run_of rule script n (stepped rule script m) else m

-- ---- its outcome

-- what is seen of it, but for a disk
abbrev pub seen_machine : Machine → Seen
seen_machine m = record {
  cpu = m.cpu;
  mmu = m.world.mmu;
  console = m.world.devices.console;
  lost = m.world.devices.lost;
  queue = m.world.devices.queue;
  ctrl = from_bool m.world.devices.enabled;
  status = status_of m.world.devices;
  period = m.world.devices.period;
  count = m.world.devices.count;
  pending = from_bool m.world.devices.pending;
  steps = m.steps;
  state = m.state;
  ram = m.world.ram;
}

-- what its outcome shows: that, and its disk, where one is attached
pub record Outcome : Type 0 where
  pub seen : Seen
  pub disk : Option DiskState

abbrev pub outcome_of : Machine → Outcome
outcome_of m = record { seen = seen_machine m; disk = m.world.devices.disk }
