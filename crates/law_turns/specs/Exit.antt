-- A step of a guest that the board leaves by an exception.
use Rattle.std.specs.Prelude.{◌≡◌, ℕ, ◌+◌, ◌-◌, ◌^◌, ◌<◌, ◌≤◌, true, false, Some, List, length, take, drop, slice_range}
use Rattle.mb_port.specs.Routine.{run}
use Rattle.mb_instr.specs.Registers.{is_master, plain_of}
use Rattle.mb_frames.specs.declared.frame.Frame.{Frame}
use Rattle.mb_frames.specs.Layout.{IsFrame, BeginsWith}
use Rattle.mb_frames.specs.Reading.{frame_in}
use Rattle.def_processor.specs.declared.Finish.{Finish}
use Rattle.def_processor.specs.declared.Finish.TheVariants as finish
use Rattle.def_machine.specs.Machine.{Machine, Entries, takes_steps, asked_of}
use Rattle.mb_walk.specs.Memory.{part}
use Rattle.def_machine.specs.declared.reference.Reference.{Reference}
use Rattle.def_guests.specs.Exits.{class_of_vector, handed_by, frame_access, rest_by_frame}
use Rattle.vm_shadow.specs.Mapped.{root_of}
use Rattle.def_guests.specs.Guests.{Guest}
use Rattle.def_guests.specs.Bus.{guest_bus}
use Rattle.def_guests.specs.Refills.{refilled_at, begun_again}
use Rattle.law_mirror.specs.Related.{Site, Related}
use Rattle.law_mirror.specs.Ready.{native_mmu}
use Rattle.def_guests.specs.declared.class.Class.{Class}
use Rattle.def_guests.specs.declared.class.Class.TheVariants.{Privileged, Denied, Trapped}
use Rattle.def_guests.specs.Turns.{Guested, bus_side, guest_begun, guest_processed, step_class_at_first}
use Rattle.def_runs.specs.Native.{user_step}
use Rattle.law_turns.specs.Retire.{Boarded, HasRegisters}
use Rattle.law_turns.specs.Reads.{read_by_frame}
use Rattle.law_turns.specs.Lawful.{LeavesLawful}
use Rattle.mb_frames.specs.declared.places.TheConstants.{LONGEST}

-- What the monitor sets besides: the translation for the guest's space, vectors at 0, and a stack below the guest that
-- has room for a frame. SR is a word.
pub record Furnished (x : Site) (m : Machine) : Type 0 where
  pub mmu : m.world.mmu ≡ native_mmu (root_of x.slots.area x.space)
  pub status : m.cpu.regs.sr < 2 ^ 16
  pub master : is_master m.cpu.regs.sr ≡ false
  pub vectors : m.cpu.vbr ≡ 0
  pub stack : LONGEST ≤ m.cpu.regs.isp
  pub below : m.cpu.regs.isp ≤ x.base
  pub table : 1024 ≤ x.base
  pub small : length m.world.ram ≤ 2 ^ 32

-- The guest once the board has left it: as it began the step, with the bytes that its part of the board's memory has
-- now.
abbrev pub left_guest : Site → List ℕ → Guest → Guest
left_guest x ram g = record g { world = record g.world { ram = part ram x.base x.size } }

-- The board entered this vector, which tells the class of the step, and has a frame on its stack. The guest's own step
-- is the rest that the frame names, from the guest as the board has left it. And the board is related to that.
pub record LeavesAfter (x : Site) (script : Entries) (m : Machine) (g : Guested) (ended : Finish) (after : Machine)
    : Type 0 where
  pub vector : ℕ
  pub entered : ended ≡ finish.Entered vector
  pub class : class_of_vector vector ≡ step_class_at_first script g
  pub running : takes_steps after.state ≡ true
  pub frame : Frame
  pub stands : BeginsWith (drop after.cpu.regs.isp after.world.ram) frame
  -- RAM has 60 bytes there, and whoever reads so many, or more, reads this frame: each of its fields fits
  pub room : after.cpu.regs.isp + LONGEST ≤ length after.world.ram
  pub fits : IsFrame frame
  pub read_back : (n : ℕ) → LONGEST ≤ n → let isp = after.cpu.regs.isp in
      frame_in (slice_range after.world.ram isp (isp + n)) ≡ Some frame
  -- what it leaves may be asked of buses
  pub lawful : LeavesLawful (frame_access frame)
  -- a processor has seven address registers beside its stacks
  pub rest : length after.cpu.regs.a ≡ 7 → let b = guest_begun script g in let h =
      left_guest x after.world.ram (bus_side b) in
      guest_processed script b ≡ run guest_bus (rest_by_frame vector (frame_access frame) (asked_of script b.machine)
      b.machine.cpu (handed_by after.cpu.regs frame)) h
  -- where the frame tells a read, nothing of the guest has changed, and it begins again where that read is refilled
  pub still : (r : Reference) → read_by_frame x.space frame ≡ Some r
      → left_guest x after.world.ram (bus_side (guest_begun script g)) ≡ bus_side (guest_begun script g)
  pub again : let b = guest_begun script g in
      refilled_at (left_guest x after.world.ram (bus_side b)) (read_by_frame x.space frame)
      ≡ begun_again b.machine.cpu (bus_side b)
  pub related : Related x after.world (left_guest x after.world.ram (bus_side (guest_begun script g)))
  -- it translates as before, and its devices are on
  pub mmu : after.world.mmu ≡ m.world.mmu
  pub on : after.world.devices.off ≡ false
  -- of the board's memory nothing has changed but the guest's RAM and what is below the top of the stack
  pub count : length after.world.ram ≡ length m.world.ram
  pub between : (n : ℕ) → m.cpu.regs.isp ≤ n → n ≤ x.base
      → take (x.base - n) (drop n after.world.ram) ≡ take (x.base - n) (drop n m.world.ram)
  pub above : drop (x.base + x.size) after.world.ram ≡ drop (x.base + x.size) m.world.ram

-- the same of what a step came to
abbrev pub Leaves : Site → Entries → Machine → Guested → Finish × Machine → Type 0
Leaves x script m g (ended, after) = LeavesAfter x script m g ended after

abbrev pub IsExitClass : Class → Type 0
IsExitClass Privileged = Unit {0}
IsExitClass Trapped = Unit {0}
IsExitClass Denied = Unit {0}
IsExitClass _ = ⊥

-- Every step that the board attempts and does not carry out.
abbrev pub LeftSteps : Type 0
LeftSteps = (x : Site) (script : Entries) (m : Machine) (g : Guested) → Boarded x m g → Furnished x m
    → HasRegisters (plain_of g.machine.cpu.regs) → length g.machine.cpu.regs.a ≡ 7
    → IsExitClass (step_class_at_first script g) → Leaves x script m g (user_step m)
