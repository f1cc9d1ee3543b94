-- A turn of a guest that is seated on a board, by a run of the board.
use Rattle.std.specs.Prelude.{◌≡◌, ℕ, suc, ◌+◌, ◌^◌, ◌<◌, ◌≤◌, false, true, Some, None, List, length, drop}
use Rattle.std.specs.Prelude.{slice_range}
use Rattle.mb_instr.specs.declared.registers.Plain.{Plain}
use Rattle.mb_instr.specs.Registers.{plain_of}
use Rattle.mb_model.specs.declared.processor.Cpu.{Cpu}
use Rattle.mb_model.specs.declared.outcome.RunState.{RunState}
use Rattle.mb_model.specs.declared.outcome.RunState.TheVariants.{Running}
use Rattle.mb_model.specs.Status.{space_of}
use Rattle.mb_walk.specs.Memory.{AreBytes}
use Rattle.mb_devices.specs.Devices.{DeviceState, level_of}
use Rattle.def_machine.specs.World.{World}
use Rattle.def_machine.specs.Machine.{going, takes_steps}
use Rattle.def_processor.specs.SystemEnds.{with_registers}
use Rattle.def_processor.specs.Step.{step_of}
use Rattle.mb_port.specs.Routine.{run}
use Rattle.mb_frames.specs.declared.frame.Frame.{Frame}
use Rattle.mb_frames.specs.Layout.{IsFrame, BeginsWith}
use Rattle.mb_frames.specs.Reading.{frame_in}
use Rattle.def_guests.specs.Bus.{guest_bus}
use Rattle.def_machine.specs.declared.reference.Reference.{Reference}
use Rattle.def_guests.specs.Guests.{Guest}
use Rattle.def_guests.specs.Refills.{refilled_at, begun_again}
use Rattle.law_held.specs.Truth.{Fine}
use Rattle.def_guests.specs.Classes.{class_at_first}
use Rattle.law_mirror.specs.Related.{Site}
use Rattle.def_guests.specs.Turns.{bus_side, guest_begun, guest_later, tallied, step_class_at_first}
use Rattle.def_guests.specs.Exits.{class_of_vector, frame_access, handed_by, rest_by_frame}
use Rattle.def_runs.specs.declared.RunEnd.TheVariants.{Counted, Exit}
use Rattle.def_runs.specs.Native.{NativeState, Ran, about_to_run, user_run}
use Rattle.def_guests.specs.Seats.{Seat, guested_on, IsSeated, IsSame, OnlyWithin, Takes}
use Rattle.def_guests.specs.declared.limits.TheConstants.{MONITOR_BYTES}
use Rattle.law_turns.specs.Reads.{read_by_frame}
use Rattle.law_turns.specs.Again.{Midway}
use Rattle.law_turns.specs.Lawful.{LeavesLawful}
use Rattle.law_turns.specs.Batch.{AllRetired, IsStretch, stepped_by}
use Rattle.law_turns.specs.Turn.{IsNativeCpu, IsSetFor, ready_for}
use Rattle.mb_frames.specs.declared.places.TheConstants.{LONGEST}

abbrev pub site_of : Seat → Site
site_of g = record { base = g.base; size = g.size; slots = g.slots; space = space_of g.cpu }

-- The guest behind so many more steps, and so many more that are retired, with the board's registers. These devices are
-- those that it has then, or those that its next step begins with.
abbrev pub retired_seat : Seat → (more retired : ℕ) → Plain → DeviceState → Seat
retired_seat g more k p d = record g {
  cpu = with_registers p g.cpu;
  devices = d;
  steps = g.steps + more;
  tally = record g.tally { retired = g.tally.retired + k };
}

-- its state where its last step has not halted it
abbrev pub settled : Seat → Seat
settled g = record g { state = going g.cpu g.devices }

-- the run of the board that is made ready for it
abbrev pub run_for : Seat → Cpu → World → ℕ → RunState → NativeState → Plain → ℕ → Ran
run_for g c world steps state native before k =
    user_run k (about_to_run (ready_for c world steps state (guested_on g world.ram)) native before)

-- What the monitor has then is a turn of so many steps: one or more, and one where the guest is switched off.
abbrev pub BatchesTake : Type 0
BatchesTake = (g : Seat) (c : Cpu) (world : World) (steps : ℕ) (state : RunState) (native : NativeState)
    (before : Plain) (n : ℕ) → let ram = world.ram in let k = suc n in
    IsSeated g ram → AreBytes ram → length ram ≤ 2 ^ 32 → g.state ≡ Running → (0 < n → g.devices.off ≡ false)
    → length g.cpu.regs.a ≡ 7
    → IsNativeCpu (site_of g) c → IsSetFor (site_of g) world → IsStretch g.script k (guested_on g ram)
    → let after = run_for g c world steps state native before k in after.end ≡ Counted
    → length after.machine.cpu.regs.a ≡ 7
    → Takes k (record { guest = g; ram = ram; native = native })
    (record {
      guest = settled (retired_seat g k k (plain_of after.machine.cpu.regs)
          (stepped_by g.script k (guested_on g ram)).machine.world.devices);
      ram = after.machine.world.ram;
      native = after.native;
    })

-- ---- a run that the board left

-- What the monitor has when the board left the guest's step behind `retired` others: a seated guest in the middle of
-- its step, and what is to be carried out of it. Where no read is refilled, that is a turn once it is done over the
-- guest's own bus, with the class by the vector.
pub record IsLeft (g : Seat) (ram : List ℕ) (native : NativeState) (k : ℕ) (after : Ran) : Type 0 where
  pub retired : ℕ
  pub few : retired < k
  pub all : AllRetired g.script retired (guested_on g ram)
  pub vector : ℕ
  pub end : after.end ≡ Exit vector
  pub frame : Frame
  pub stands : BeginsWith (drop after.machine.cpu.regs.isp after.machine.world.ram) frame
  -- RAM has 60 bytes there, and whoever reads so many, or more, reads this frame: each of its fields fits
  pub room : after.machine.cpu.regs.isp + LONGEST ≤ length after.machine.world.ram
  pub fits : IsFrame frame
  pub read_back : (n : ℕ) → LONGEST ≤ n → let isp = after.machine.cpu.regs.isp in
      frame_in (slice_range after.machine.world.ram isp (isp + n)) ≡ Some frame
  -- what it leaves may be asked of buses
  pub lawful : LeavesLawful (frame_access frame)
  pub begun : DeviceState
  -- the guest's begin of this step
  pub begins : begun ≡ (guest_begun g.script (stepped_by g.script retired (guested_on g ram))).machine.world.devices
  pub counts : after.native.retired ≡ native.retired + retired
  pub exceptions : after.native.exceptions ≡ native.exceptions + 1
  -- its registers, and the class of its first attempt
  pub cpu : (retired_seat g retired retired after.before begun).cpu
      ≡ (stepped_by g.script retired (guested_on g ram)).machine.cpu
  pub class : class_of_vector vector ≡ step_class_at_first g.script (stepped_by g.script retired (guested_on g ram))
  -- the read that is refilled, where there is one, is that of this attempt
  pub read : let mid = retired_seat g retired retired after.before begun in
      let b = guest_begun g.script (stepped_by g.script retired (guested_on g ram)) in
      refilled_at (bus_side (guested_on mid after.machine.world.ram)) (read_by_frame (space_of mid.cpu) frame)
      ≡ begun_again b.machine.cpu (bus_side b)
  -- where the frame tells a read, nothing of the guest has changed
  pub still : let mid = retired_seat g retired retired after.before begun in (r : Reference)
      → read_by_frame (space_of mid.cpu) frame ≡ Some r
      → bus_side (guested_on mid after.machine.world.ram)
      ≡ bus_side (guest_begun g.script (stepped_by g.script retired (guested_on g ram)))
  pub seated : IsSeated (retired_seat g retired retired after.before begun) after.machine.world.ram
  pub within : OnlyWithin g ram after.machine.world.ram
  -- the board stands for a run of it
  pub goes : takes_steps after.machine.state ≡ true
  pub set : IsSetFor (site_of (retired_seat g retired retired after.before begun)) after.machine.world
  -- where the read that it was denied is refilled, that is the middle of a step that begins again; else what the frame
  -- leaves is the whole step once more
  pub again : let mid = retired_seat g retired retired after.before begun in
      let w = bus_side (guested_on mid after.machine.world.ram) in
      Fine g.size w → (h : Guest) → refilled_at w (read_by_frame (space_of mid.cpu) frame) ≡ Some h
      → Midway g ram native retired 0 1 mid after.machine.world.ram after.native × (begun_again mid.cpu w ≡ Some h)
      × (class_of_vector vector ≡ class_at_first (level_of begun) mid.cpu w)
      × (run guest_bus (rest_by_frame vector (frame_access frame) (level_of begun) mid.cpu
      (handed_by after.machine.cpu.regs frame)) w ≡ run guest_bus (step_of (level_of begun) mid.cpu) w)
  pub turn : (seat : Seat) (next : List ℕ) → let mid = retired_seat g retired retired after.before begun in
      let b = guested_on mid after.machine.world.ram in
      refilled_at (bus_side b) (read_by_frame (space_of mid.cpu) frame) ≡ None
      → guested_on seat next ≡ guest_later b.machine
      (run guest_bus (rest_by_frame vector (frame_access frame) (level_of begun) mid.cpu
      (handed_by after.machine.cpu.regs frame)) (bus_side b))
      → seat.tally ≡ tallied (class_of_vector vector) mid.tally → IsSame mid seat → IsSeated seat next
      → OnlyWithin mid after.machine.world.ram next
      → Takes (retired + 1) (record { guest = g; ram = ram; native = native })
      (record { guest = seat; ram = next; native = after.native })

abbrev pub ExitsTake : Type 0
ExitsTake = (g : Seat) (c : Cpu) (world : World) (steps : ℕ) (state : RunState) (native : NativeState) (before : Plain)
    (k v : ℕ) → let ram = world.ram in
    IsSeated g ram → AreBytes ram → length ram ≤ 2 ^ 32 → g.state ≡ Running → (1 < k → g.devices.off ≡ false)
    → length g.cpu.regs.a ≡ 7
    → IsNativeCpu (site_of g) c → c.regs.isp ≤ MONITOR_BYTES → IsSetFor (site_of g) world
    → IsStretch g.script k (guested_on g ram)
    → let after = run_for g c world steps state native before k in after.end ≡ Exit v
    → length after.machine.cpu.regs.a ≡ 7 → IsLeft g ram native k after
