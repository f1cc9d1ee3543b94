-- A guest's step that the board left, and that may begin again.
use Rattle.std.specs.Prelude.{◌≡◌, ◌⊎◌, ℕ, suc, ◌+◌, ◌-◌, ◌<◌, true, List, Some, None}
use Rattle.mb_port.specs.Routine.{run}
use Rattle.mb_model.specs.declared.outcome.RunState.TheVariants.{Running}
use Rattle.mb_model.specs.Status.{space_of}
use Rattle.mb_devices.specs.Devices.{level_of, IsNotDue}
use Rattle.def_processor.specs.Step.{step_of}
use Rattle.mb_frames.specs.declared.frame.Frame.{Frame}
use Rattle.def_machine.specs.Machine.{takes_steps}
use Rattle.mb_board.specs.State.{BoardState}
use Rattle.def_runs.specs.Native.{NativeState}
use Rattle.def_guests.specs.Guests.{Guest}
use Rattle.def_guests.specs.Bus.{guest_bus}
use Rattle.def_guests.specs.Refills.{refilled_at, begun_again}
use Rattle.def_guests.specs.declared.limits.TheConstants.{MOST_REFILLS}
use Rattle.def_guests.specs.Classes.{class_at_first}
use Rattle.def_guests.specs.Exits.{class_of_vector, frame_access, handed_by, rest_by_frame}
use Rattle.def_guests.specs.Turns.{tallied, bus_side}
use Rattle.def_guests.specs.Seats.{Seat, end_of, guested_on, shadow_on, IsSame, IsSeated, Takes}
use Rattle.law_held.specs.Truth.{Fine}
use Rattle.law_turns.specs.Reads.{read_by_frame}
use Rattle.law_turns.specs.Turn.{IsSetFor}
use Rattle.law_turns.specs.Taking.{site_of}
use Rattle.law_turns.specs.Again.{Midway}
use Rattle.vm_guest.specs.Memory.{OnlyBetween}
use Rattle.vm_guest.specs.Native.{finished_by_frame, HasFrame, IsFrameOf}
use Rattle.vm_guest.specs.Turns.{scene}

-- a guest once a read is filled and put
abbrev pub with_bus_of : Seat → Seat → Seat
with_bus_of g h = record g { mmu = h.mmu; devices = h.devices; kept = h.kept; slots = h.slots }

-- a guest whose step has begun, before that step is counted
abbrev pub uncounted : Seat → Seat
uncounted s = record s { steps = s.steps - 1 }

-- With the guest's registers the board runs it.
pub record IsReady (s : Seat) (b : BoardState) : Type 0 where
  pub set : IsSetFor (site_of s) b.world
  pub goes : takes_steps b.state ≡ true

-- The shadow and the space of a guest are as they were: a board that is ready for it stays so.
pub record StaysReady (s t : Seat) (ram next : List ℕ) : Type 0 where
  pub shadow : shadow_on t next ≡ shadow_on s ram
  pub space : space_of t.cpu ≡ space_of s.cpu

-- A guest whose step has begun and may be the board's.
pub record IsUnderway (s : Seat) : Type 0 where
  pub begun : 0 < s.steps
  pub running : s.state ≡ Running
  pub due : IsNotDue 0 s.devices

-- Of a guest's turn so many steps are taken, the next has begun again so often, and the board has left it by this
-- vector. Where the read that it was denied is refilled, that is the middle of a step that begins again, and what the
-- frame leaves is the whole step. Where it does not begin once more, whoever carries out what the frame leaves has
-- taken the step.
pub record IsStopped (g : Seat) (ram : List ℕ) (native : NativeState) (k n : ℕ) (s : Seat) (b : BoardState)
    (counts : NativeState) (vector : ℕ) : Type 0 where
  pub underway : IsUnderway s
  pub frame : HasFrame b
  pub seated : IsSeated s b.world.ram
  pub ready : IsReady s b
  pub again : (f : Frame) → IsFrameOf b f → let w = bus_side (guested_on s b.world.ram) in
      let level = level_of s.devices in
      Fine s.size w → (h : Guest) → refilled_at w (read_by_frame (space_of s.cpu) f) ≡ Some h
      → Midway g ram native k n (suc n) (uncounted s) b.world.ram counts × (begun_again s.cpu w ≡ Some h)
      × (class_of_vector vector ≡ class_at_first level s.cpu w)
      × (run guest_bus (rest_by_frame vector (frame_access f) level s.cpu (handed_by b.cpu.regs f)) w
      ≡ run guest_bus (step_of level s.cpu) w)
  pub turn : (f : Frame) → IsFrameOf b f → let w = bus_side (guested_on s b.world.ram) in
      (n ≡ MOST_REFILLS) ⊎ (refilled_at w (read_by_frame (space_of s.cpu) f) ≡ None) → (seat : Seat) (next : List ℕ)
      → guested_on seat next ≡ finished_by_frame vector f b s → seat.tally ≡ tallied (class_of_vector vector) s.tally
      → IsSame s seat → IsSeated seat next → OnlyBetween s.base (end_of s) b.world.ram next
      → Takes (k + 1) (scene g ram native) (scene seat next counts)

-- of some turn, where it has not begun again yet
pub record Stopped (s : Seat) (b : BoardState) (counts : NativeState) (vector : ℕ) : Type 0 where
  pub guest : Seat
  pub ram : List ℕ
  pub native : NativeState
  pub taken : ℕ
  pub is : IsStopped guest ram native taken 0 s b counts vector

-- Of some turn so many steps are taken, and the next has begun again, so often.
pub record BeginsAgain (s : Seat) (b : BoardState) (counts : NativeState) : Type 0 where
  pub guest : Seat
  pub ram : List ℕ
  pub native : NativeState
  pub taken : ℕ
  pub refills : ℕ
  pub underway : IsUnderway s
  pub seated : IsSeated s b.world.ram
  pub ready : IsReady s b
  pub midway : Midway guest ram native taken (suc refills) (suc refills) (uncounted s) b.world.ram counts
