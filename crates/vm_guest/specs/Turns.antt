-- A guest's steps and turns in code.
use Rattle.std.specs.Prelude.{◌≡◌, ℕ, ◌+◌, ◌*◌, ◌≤◌, List}
use Rattle.mb_model.specs.Keeping.{rule_a, rule_k}
use Rattle.mb_model.specs.declared.outcome.RunState.{RunState}
use Rattle.mb_model.specs.declared.outcome.RunState.TheVariants as state
use Rattle.mb_devices.specs.Devices.{DeviceState, ticked, restarted}
use Rattle.def_processor.specs.Raise.{Stepped, step_end}
use Rattle.def_machine.specs.Machine.{Opening, Entries, Machine, arrived, reset_with, run_of, start, asked}
use Rattle.def_machine.specs.Machine.{state_after}
use Rattle.mb_board.specs.State.{BoardState, board_at_reset}
use Rattle.def_runs.specs.Free.{rule_free, FreeRun, Within}
use Rattle.def_runs.specs.Native.{NativeState}
use Rattle.def_guests.specs.Guests.{Guest}
use Rattle.def_guests.specs.Turns.{Guested}
use Rattle.def_guests.specs.Seats.{Seat, Scene}
use Rattle.vm_guest.specs.declared.turn_end.TurnEnd.{TurnEnd}
use Rattle.vm_guest.specs.declared.turn_end.TurnEnd.TheVariants.{Counted, Halted, Off}

-- how a turn ends that leaves a guest in this state
abbrev pub end_by : RunState → TurnEnd
end_by state.Running = Counted
end_by state.Stopped = Counted
end_by state.Halted = Halted
end_by state.Off = Off

-- A guest whose step has begun: what it was before, of those that take steps, has no part in it.
abbrev pub begun_seat : Seat → Seat
begun_seat g = record g {
  devices = ticked (arrived (g.steps + 1) g.script g.devices);
  steps = g.steps + 1;
  state = state.Running;
}

-- The interrupt level that a step is asked for that has begun so.
abbrev pub level_on : Seat → ℕ
level_on b = asked b.script b.steps b.devices

-- A guest with what the processor's part of a step changes: its processor, and what its bus has.
abbrev pub processed : Seat → Seat → Seat
processed g h =
    record g { cpu = h.cpu; mmu = h.mmu; devices = h.devices; kept = h.kept; slots = h.slots }

-- A guest once the processor's part of a step has ended so, with so many steps taken.
abbrev pub ended_at : ℕ → Stepped × Guest → Guested
ended_at steps ((ended, cpu), after) = record {
  machine = record {
    cpu = cpu;
    world = after.world;
    steps = steps;
    state = state_after (step_end ended) cpu after.world.devices;
  };
  shadow = after.shadow;
}

-- a guest, a board's memory, and what boards have counted
abbrev pub scene : Seat → List ℕ → NativeState → Scene
scene g ram native = record { guest = g; ram = ram; native = native }

-- ---- what a turn counts and leaves

-- Counted is no more than one retired step, and no more than 32 exceptions, for each step from the first count on.
abbrev pub RisesByAtMost : (steps_before steps : ℕ) → NativeState → NativeState → Type 0
RisesByAtMost steps_before steps old new = (new.retired + steps_before ≤ old.retired + steps)
    × (new.exceptions + 32 * steps_before ≤ old.exceptions + 32 * steps)

-- a board as it is after a reset, whatever it was before
abbrev pub IsReset : BoardState → Type 0
IsReset b = (before : DeviceState) × (b ≡ board_at_reset (reset_with rule_a (restarted before) b.world.ram))

-- ---- turns as free runs

-- Some free run of so many steps from an image's start comes to this machine, but for what is kept, and each entry that
-- the machine keeps stands in that run's.
abbrev pub ComesFreely : Opening → Entries → (size n : ℕ) → Machine → Type 0
ComesFreely opening script size n m =
    (end : Machine) × FreeRun script n (start rule_free opening size) end × Within m end

-- Whatever image, RAM and number of steps lead to the machine before a turn, by the rule of guests, a free run of that
-- image, of those steps and the turn's, leads to the machine after it.
abbrev pub GoesOnFreely : Entries → (limit : ℕ) → (before after : Machine) → Type 0
GoesOnFreely script limit before after = (opening : Opening) (size n : ℕ)
    → before ≡ run_of rule_k script n (start rule_k opening size)
    → ComesFreely opening script size (n + limit) after
