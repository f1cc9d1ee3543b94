-- The board as it carries out a guest's instructions.
use Rattle.std.specs.Prelude.{◌≡◌, ℕ, ◌+◌, ◌-◌, ◌*◌, ◌≤◌, false, List, length, replicate, slice_range, Some}
use Rattle.mb_port.specs.Routine.{run}
use Rattle.mb_instr.specs.declared.status.TheConstants.{I, LEVELS}
use Rattle.mb_frames.specs.declared.frame.Frame.{Frame}
use Rattle.mb_frames.specs.Reading.{frame_in}
use Rattle.mb_model.specs.declared.processor.Cpu.{Cpu}
use Rattle.mb_model.specs.declared.outcome.RunState.TheVariants.{Running}
use Rattle.mb_model.specs.Keeping.{rule_a, nothing_kept}
use Rattle.mb_devices.specs.Devices.{DeviceState, level_of, restarted}
use Rattle.def_machine.specs.World.{World}
use Rattle.mb_board.specs.State.{BoardState}
use Rattle.def_runs.specs.Native.{NativeState, Ran, about_to_run, user_run}
use Rattle.law_mirror.specs.Ready.{native_mmu}
use Rattle.def_guests.specs.Bus.{guest_bus}
use Rattle.def_guests.specs.Exits.{frame_access, handed_by, rest_by_frame}
use Rattle.def_guests.specs.Turns.{Guested, bus_side}
use Rattle.def_guests.specs.Seats.{Seat, guested_on}
use Rattle.def_guests.specs.declared.limits.TheConstants.{MONITOR_BYTES}
use Rattle.law_turns.specs.Lawful.{LeavesLawful}
use Rattle.law_turns.specs.Turn.{ready_for}
use Rattle.vm_guest.specs.Turns.{ended_at}
use Rattle.mb_frames.specs.declared.places.TheConstants.{LONGEST}

-- the processor with which it does: user mode with all interrupts masked and no trace, vectors at 0, the stack for its
-- frames at the top of the monitor's bytes
abbrev pub native_cpu : Cpu
native_cpu = record {
  regs = record {
    d = replicate 8 0;
    a = replicate 7 0;
    usp = 0;
    isp = MONITOR_BYTES;
    msp = 0;
    pc = 0;
    sr = (LEVELS - 1) * I;
  };
  vbr = 0;
  sfc = 0;
  dfc = 0;
  cacr = 0;
  stopped = false;
}

-- The board's world with the tables of this root, as it is after a reset else, with such devices before it.
abbrev pub native_world : (root : ℕ) → DeviceState → List ℕ → World
native_world root devices ram =
    record { ram = ram; mmu = native_mmu root; devices = restarted devices; kept = nothing_kept rule_a }

-- this board with a guest's registers, and with what was counted before
abbrev pub start_on : Seat → BoardState → NativeState → Ran
start_on g b native =
    about_to_run (ready_for native_cpu b.world b.steps Running (guested_on g b.world.ram)) native b.before

-- its run of so many steps
abbrev pub run_on : Seat → BoardState → NativeState → ℕ → Ran
run_on g b native k = user_run k (start_on g b native)

-- ---- what the board left

-- the frame that the board stacked
abbrev pub IsFrameOf : BoardState → Frame → Type 0
IsFrameOf b f = let at = b.cpu.regs.isp in frame_in (slice_range b.world.ram at (at + LONGEST)) ≡ Some f

-- It has stacked one, in memory, which leaves what buses may be asked for.
pub record HasFrame (b : BoardState) : Type 0 where
  pub room : b.cpu.regs.isp + LONGEST ≤ length b.world.ram
  pub frame : Frame
  pub stands : IsFrameOf b frame
  pub lawful : LeavesLawful (frame_access frame)

-- What is left of a guest's step is carried out over its own bus, by the vector and the frame.
abbrev pub finished_by_frame : (vector : ℕ) → Frame → BoardState → Seat → Guested
finished_by_frame vector frame b g = ended_at g.steps
    (run guest_bus (rest_by_frame vector (frame_access frame) (level_of g.devices) g.cpu (handed_by b.cpu.regs frame))
    (bus_side (guested_on g b.world.ram)))
