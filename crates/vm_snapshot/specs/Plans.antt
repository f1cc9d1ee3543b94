-- What a snapshot says: the board, the turn, and the guests to go on with.
use Rattle.std.specs.Prelude.{◌≡◌, ℕ, ◌*◌, ◌==◌, Bool, List, map, slice_index, Option, option_map, Result, Ok, Err}
use Rattle.mb_port.specs.declared.types.Mmu.{Mmu}
use Rattle.mb_model.specs.declared.processor.Cpu.{Cpu}
use Rattle.mb_saved.specs.Lines.{contents_of}
use Rattle.mb_saved.specs.Saved.{Saved, is_stopped}
use Rattle.mb_spelling.specs.Places.{IsFirstFault}
use Rattle.vm_disk.specs.Disk.{DiskState, opened}
use Rattle.vm_snapshot.specs.Guests.{Disk, Guest, Registers, Snapshot, snapshot}
use Rattle.vm_snapshot.specs.Runs.{entries_of}
use Rattle.vm_snapshot.specs.declared.plan.SnapFault.{SnapFault}
use Rattle.vm_snapshot.specs.declared.plan.SnapFault.TheVariants.{Memory, Line}
use Rattle.vm_snapshot.specs.declared.plan.SnapGuest.{SnapGuest}
use Rattle.vm_snapshot.specs.declared.plan.SnapPlan.{SnapPlan}

-- the processor of such registers; STOP holds it or not
abbrev pub cpu_of : (stopped : Bool) → Registers → Cpu
cpu_of stopped r = record {
  regs = record {
    d = r.data_values;
    a = r.address_values;
    usp = slice_index r.control_values 0;
    isp = slice_index r.control_values 1;
    msp = slice_index r.control_values 2;
    pc = slice_index r.control_values 3;
    sr = slice_index r.control_values 4;
  };
  vbr = slice_index r.control_values 5;
  sfc = slice_index r.control_values 6;
  dfc = slice_index r.control_values 7;
  cacr = slice_index r.control_values 8;
  stopped = stopped;
}

abbrev pub mmu_of : Registers → Mmu
mmu_of r = record {
  tc = slice_index r.translation_values 0;
  itt0 = slice_index r.translation_values 1;
  itt1 = slice_index r.translation_values 2;
  dtt0 = slice_index r.translation_values 3;
  dtt1 = slice_index r.translation_values 4;
  mmusr = slice_index r.translation_values 5;
  urp = slice_index r.translation_values 6;
  srp = slice_index r.translation_values 7;
}

-- what is saved of the guest's machine
abbrev pub saved_of : Guest → Saved
saved_of g = record {
  ram = 1024 * g.front.ram;
  cpu = cpu_of (is_stopped g.progress.state) g.registers;
  mmu = mmu_of g.registers;
  kept = g.front.kept;
  steps = g.progress.steps;
  state = g.progress.state;
  lines = g.lines;
  console = g.progress.console;
  lost = g.progress.lost;
  queue = g.progress.queue;
  ctrl = g.devices.ctrl;
  status = g.devices.status;
  period = g.devices.period;
  count = g.devices.count;
  pending = g.devices.pending;
}

-- The blocks are zero but for the lines.
abbrev pub state_of : Disk → DiskState
state_of d = record (opened d.blocks (contents_of d.lines)) {
  block = d.block;
  refused = d.outcome == 1;
  position = d.position;
  buffer = d.buffer;
}

-- a guest, with its disk if it has one
abbrev pub guest_of : Guest × Option Disk → SnapGuest
guest_of v = record {
  saved = saved_of (v.0);
  script = entries_of (v.0).front.input;
  disk = option_map state_of (v.1);
}

-- The board in KiB, the steps of a turn, and the guests.
pub record Plan : Type 0 where
  pub board : ℕ
  pub slice : ℕ
  pub guests : List SnapGuest

abbrev pub plan_of : Snapshot → Plan
plan_of s = record { board = s.board; slice = s.slice; guests = map guest_of s.guests }

abbrev pub plan_seen : SnapPlan → Plan
plan_seen plan = record { board = plan.board; slice = plan.slice; guests = plan.guests.items }

-- The text is what is written for a lawful snapshot, and this is its plan.
pub record IsRead (text : List ℕ) (plan : Plan) : Type 0 where
  pub says : Snapshot
  pub lawful : snapshot.IsLawful says
  pub written : snapshot.write says ≡ text
  pub is_plan : plan_of says ≡ plan

-- A text is read, or its first fault is told, unless memory ran out.
abbrev pub IsAnswer : List ℕ → Result SnapPlan SnapFault → Type 0
IsAnswer text (Ok plan) = IsRead text (plan_seen plan)
IsAnswer text (Err Memory) = Unit {0}
IsAnswer text (Err (Line number)) = IsFirstFault snapshot number text
