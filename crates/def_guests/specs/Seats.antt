-- A guest on a board: the machine and the shadow that both make together, and what a turn promises of them.
use Rattle.std.specs.Prelude.{◌≡◌, ℕ, ◌+◌, ◌-◌, ◌%◌, ◌≤◌, Bool, List, [], ◌∷◌, length, drop, Option, Some, None}
use Rattle.mb_port.specs.declared.types.Mmu.{Mmu}
use Rattle.mb_instr.specs.declared.registers.Plain.{Plain}
use Rattle.mb_model.specs.declared.kept.Kept.{Kept}
use Rattle.mb_model.specs.declared.processor.Cpu.{Cpu}
use Rattle.mb_model.specs.declared.outcome.RunState.{RunState}
use Rattle.mb_model.specs.Pages.{page_of}
use Rattle.mb_walk.specs.Memory.{part}
use Rattle.mb_devices.specs.Devices.{DeviceState}
use Rattle.def_machine.specs.Machine.{Machine, Entries}
use Rattle.def_runs.specs.Marks.{trail}
use Rattle.def_runs.specs.Native.{NativeState}
use Rattle.vm_shadow.specs.Slots.{Slots}
use Rattle.vm_shadow.specs.Shadows.{Shadowed}
use Rattle.vm_shadow.specs.Mapped.{shadowed}
use Rattle.vm_shadow.specs.declared.area.TheConstants.{AREA_BYTES}
use Rattle.vm_shadow.specs.Area.{Maps}
use Rattle.def_guests.specs.Guests.{Truthful}
use Rattle.def_guests.specs.Turns.{Guested, Tally, Turned, bus_side, turn_of}
use Rattle.def_guests.specs.declared.limits.TheConstants.{MONITOR_BYTES}

-- ---- frames of the guest and of the board

-- an entry with the board's frame for the guest's, whose RAM begins at a place
abbrev pub board_entry : ℕ → Option (ℕ × Bool) → Option (ℕ × Bool)
board_entry base None = None
board_entry base (Some (frame, writable)) = Some (page_of base + frame, writable)

-- a guest's shadow with the board's frames
abbrev pub on_board : ℕ → Shadowed → Shadowed
on_board base shadow =
    record { entries = λ space page. board_entry base (shadow.entries space page); tables = shadow.tables }

-- an entry with the guest's frame for the board's
abbrev pub own_entry : ℕ → Option (ℕ × Bool) → Option (ℕ × Bool)
own_entry base None = None
own_entry base (Some (frame, writable)) = Some (frame - page_of base, writable)

-- a shadow with the guest's own frames
abbrev pub own : ℕ → Shadowed → Shadowed
own base shadow =
    record { entries = λ space page. own_entry base (shadow.entries space page); tables = shadow.tables }

-- ---- a guest

-- A guest, but for its RAM and its tables, which stand on a board.
pub record Seat : Type 0 where
  pub cpu : Cpu
  pub mmu : Mmu
  pub devices : DeviceState
  -- the one list of what it keeps
  pub kept : List Kept
  -- the slots of its tables, whose area is behind its RAM
  pub slots : Slots
  pub script : Entries
  pub steps : ℕ
  pub state : RunState
  pub tally : Tally
  -- where its RAM begins, and its bytes
  pub base : ℕ
  pub size : ℕ

-- where its area on the board ends, with RAM and tables
abbrev pub end_of : Seat → ℕ
end_of g = g.base + g.size + AREA_BYTES

-- The machine that a guest and a board's memory make together.
abbrev pub machine_on : Seat → List ℕ → Machine
machine_on g ram = record {
  cpu = g.cpu;
  world = record { ram = part ram g.base g.size; mmu = g.mmu; devices = g.devices; kept = g.kept ∷ [] };
  steps = g.steps;
  state = g.state;
}

-- The shadow, as the tables in a board's memory have it.
abbrev pub shadow_on : Seat → List ℕ → Shadowed
shadow_on g ram = own g.base (shadowed g.slots ram)

-- both
abbrev pub guested_on : Seat → List ℕ → Guested
guested_on g ram = record { machine = machine_on g ram; shadow = shadow_on g ram }

-- with its counts, and with such marks and so many exceptions
abbrev pub turned_on : Seat → List ℕ → List Plain → (exceptions : ℕ) → Turned
turned_on g ram marks exceptions =
    record { guest = guested_on g ram; tally = g.tally; marks = marks; exceptions = exceptions }

-- ---- where it stands

-- The guest's RAM and area lie on the board behind the monitor's bytes, and its tables map its shadow.
pub record IsSeated (g : Seat) (ram : List ℕ) : Type 0 where
  pub aligned : g.base % AREA_BYTES ≡ 0
  pub whole : g.size % AREA_BYTES ≡ 0
  pub behind : MONITOR_BYTES ≤ g.base
  pub inside : end_of g ≤ length ram
  pub area : g.slots.area ≡ g.base + g.size
  pub maps : Maps g.slots ram
  -- for each root exactly the shadow's entries, each to its frame in the guest's RAM
  pub tables : shadowed g.slots ram ≡ on_board g.base (shadow_on g ram)
  -- and that says what its translation does now
  pub truthful : Truthful g.size (bus_side (guested_on g ram))

-- Of a board's memory nothing changes but the guest's RAM and area, and the monitor's bytes.
pub record OnlyWithin (g : Seat) (before after : List ℕ) : Type 0 where
  pub count : length after ≡ length before
  pub below : part after MONITOR_BYTES (g.base - MONITOR_BYTES) ≡ part before MONITOR_BYTES (g.base - MONITOR_BYTES)
  pub above : drop (end_of g) after ≡ drop (end_of g) before

-- What a guest is for good.
pub record IsSame (before after : Seat) : Type 0 where
  pub script : after.script ≡ before.script
  pub base : after.base ≡ before.base
  pub size : after.size ≡ before.size
  pub area : after.slots.area ≡ before.slots.area

-- ---- a turn

-- a guest, a board's memory, and what boards have counted
pub record Scene : Type 0 where
  pub guest : Seat
  pub ram : List ℕ
  pub native : NativeState

-- What a turn of so many steps promises. The board's processor, its caches and the monitor's bytes before it have no
-- part in it.
pub record Takes (n : ℕ) (s t : Scene) : Type 0 where
  -- the marks of the steps that it took, and the exceptions by which a board leaves them
  pub marks : List Plain
  pub left_times : ℕ
  -- machine, shadow and counts are those after so many steps
  pub turned : turned_on t.guest t.ram marks left_times ≡ turn_of s.guest.script n (turned_on s.guest s.ram [] 0)
  pub same : IsSame s.guest t.guest
  pub seated : IsSeated t.guest t.ram
  -- nothing of another guest has changed
  pub within : OnlyWithin s.guest s.ram t.ram
  -- boards have carried out the retired steps, each from the guest's own registers to the guest's own registers
  pub retired : t.native.retired + s.guest.tally.retired ≡ s.native.retired + t.guest.tally.retired
  pub trail : t.native.trail ≡ trail s.native.trail marks
  -- and left steps by so many exceptions
  pub exceptions : t.native.exceptions ≡ s.native.exceptions + left_times
