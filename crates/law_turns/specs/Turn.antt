-- A turn of a guest by parts: steps over its own bus, runs of the board, and what the board left.
use Rattle.std.specs.Prelude.{◌≡◌, ℕ, ◌+◌, ◌-◌, ◌*◌, ◌%◌, ◌^◌, ◌≤◌, Bool, false, List, length, Some, None}
use Rattle.mb_port.specs.Routine.{run}
use Rattle.mb_instr.specs.declared.status.TheConstants.{I, LEVELS}
use Rattle.mb_instr.specs.Registers.{plain_of}
use Rattle.mb_model.specs.declared.processor.Cpu.{Cpu}
use Rattle.mb_model.specs.declared.outcome.RunState.{RunState}
use Rattle.mb_model.specs.Status.{space_of}
use Rattle.mb_model.specs.Keeping.{rule_a, nothing_kept}
use Rattle.mb_walk.specs.Memory.{AreBytes, part}
use Rattle.mb_devices.specs.Devices.{DeviceState}
use Rattle.def_processor.specs.declared.Finish.TheVariants as finish
use Rattle.def_processor.specs.SystemEnds.{with_registers}
use Rattle.def_machine.specs.World.{World}
use Rattle.def_machine.specs.Machine.{Machine, Entries, asked_of}
use Rattle.vm_shadow.specs.Mapped.{root_of, shadowed}
use Rattle.vm_shadow.specs.Area.{Maps}
use Rattle.def_guests.specs.Guests.{Guest, Truthful}
use Rattle.def_guests.specs.Bus.{guest_bus}
use Rattle.def_guests.specs.Refills.{begun_again}
use Rattle.law_mirror.specs.Related.{Site, AllAgree, mapping}
use Rattle.def_guests.specs.Seats.{on_board}
use Rattle.law_mirror.specs.Ready.{native_mmu}
use Rattle.def_guests.specs.Turns.{Guested, Turned, bus_side, guest_begun, guest_later, by_class, advanced}
use Rattle.law_turns.specs.Retire.{Boarded}
use Rattle.law_turns.specs.Exit.{Furnished, left_guest, Leaves}
use Rattle.def_guests.specs.Exits.{class_of_vector, handed_by, frame_access, rest_by_frame}
use Rattle.mb_model.specs.declared.pages.TheConstants.{PAGE_SIZE}
use Rattle.mb_frames.specs.declared.places.TheConstants.{LONGEST}

-- ---- the board is made ready again

-- the monitor's processor: user mode with all interrupts masked and no trace, vectors at 0, and a stack
pub record IsNativeCpu (x : Site) (c : Cpu) : Type 0 where
  pub status : c.regs.sr ≡ (LEVELS - 1) * I
  pub awake : c.stopped ≡ false
  pub vectors : c.vbr ≡ 0
  pub stack : LONGEST ≤ c.regs.isp
  pub below : c.regs.isp ≤ x.base

-- the board as the monitor makes it ready for the guest's next step: with its registers
abbrev pub ready_for : Cpu → World → ℕ → RunState → Guested → Machine
ready_for c world steps state g = record {
  cpu = with_registers (plain_of g.machine.cpu.regs) c;
  world = world;
  steps = steps;
  state = state;
}

-- All but memory stands as a run of this guest wants it: it translates by the guest's tables, and nothing that is kept
-- says anything else. The devices are on.
pub record IsSetFor (x : Site) (world : World) : Type 0 where
  pub mmu : world.mmu ≡ native_mmu (root_of x.slots.area x.space)
  pub on : world.devices.off ≡ false
  pub kept : AllAgree (mapping x world.ram) world.kept

-- with nothing kept
abbrev pub flushed : Site → List ℕ → DeviceState → World
flushed x ram devices = record {
  ram = ram;
  mmu = native_mmu (root_of x.slots.area x.space);
  devices = devices;
  kept = nothing_kept rule_a;
}

abbrev pub FlushedIsSet : Type 0
FlushedIsSet = (x : Site) (ram : List ℕ) (d : DeviceState) → d.off ≡ false → IsSetFor x (flushed x ram d)

-- It stays so in a memory whose tables map all that they mapped.
abbrev pub MoreStaysSet : Type 0
MoreStaysSet = (x y : Site) (world : World) (ram : List ℕ) → y.slots.area ≡ x.slots.area → y.space ≡ x.space
    → ((page : ℕ) (entry : ℕ × Bool) → mapping x world.ram page ≡ Some entry → mapping y ram page ≡ Some entry)
    → IsSetFor x world → IsSetFor y (record world { ram = ram })

-- what stands in the board's memory for a guest
pub record Stands (x : Site) (ram : List ℕ) (g : Guest) : Type 0 where
  pub bytes : AreBytes ram
  pub maps : Maps x.slots ram
  pub under : x.base + x.size ≤ x.slots.area
  pub whole : x.base % PAGE_SIZE ≡ 0
  pub ram_is : part ram x.base x.size ≡ g.world.ram
  pub shadow : shadowed x.slots ram ≡ on_board x.base g.shadow
  pub truthful : Truthful x.size g
  pub table : 1024 ≤ x.base
  pub small : length ram ≤ 2 ^ 32

-- Once its registers are set, the board is ready.
abbrev pub BoardsAreReady : Type 0
BoardsAreReady = (x : Site) (c : Cpu) (world : World) (steps : ℕ) (state : RunState) (g : Guested)
    → IsNativeCpu x c → IsSetFor x world → space_of g.machine.cpu ≡ x.space → length g.machine.cpu.regs.a ≡ 7
    → Stands x world.ram (bus_side g)
    → Boarded x (ready_for c world steps state g) g × Furnished x (ready_for c world steps state g)

-- ---- a turn

-- A step that the board left, and that does not begin again, is one step of the turn: its class by the vector, and
-- machine and shadow by the rest.
abbrev pub ExitsAdvance : Type 0
ExitsAdvance = (x : Site) (script : Entries) (u : Turned) (v : ℕ) (m after : Machine)
    → (l : Leaves x script m u.guest (finish.Entered v, after))
    → length after.cpu.regs.a ≡ 7 → let b = guest_begun script u.guest in
    begun_again b.machine.cpu (bus_side b) ≡ None
    → advanced script u ≡ by_class (class_of_vector v) 0 (guest_later b.machine
    (run guest_bus (rest_by_frame v (frame_access l.frame) (asked_of script b.machine) b.machine.cpu
    (handed_by after.cpu.regs l.frame))
    (left_guest x after.world.ram (bus_side b)))) u
