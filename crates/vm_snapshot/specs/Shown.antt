-- Guests as they are shown, the snapshot that is written of them, and what it says.
use Rattle.std.specs.Prelude.{◌≡◌, ℕ, ◌+◌, ◌/◌, ◌%◌, ◌<◌, ◌≤◌, ◌^◌, All, List, [], ◌∷◌, ◌++◌, length, map, codes, IfOk, IfErr}
use Rattle.std.specs.Prelude.{IfSome, Option, Result}
use Rattle.mb_model.specs.declared.kept.Kept.{Kept}
use Rattle.mb_model.specs.Seen.{Seen}
use Rattle.mb_report.specs.Text.{count_line}
use Rattle.mb_saved.specs.Saved.{IsLawful, Saved, is_stopped}
use Rattle.mb_script.specs.declared.entry.Entry.{Entry}
use Rattle.mb_script.specs.declared.input.Input.{Input}
use Rattle.mb_script.specs.declared.input.Input.TheVariants as input
use Rattle.mb_script.specs.Script.{Entries, IsScript}
use Rattle.mb_walk.specs.Memory.{AreBytes}
use Rattle.vm_disk.specs.Disk.{DiskState, IsDisk}
use Rattle.vm_snapshot.specs.Inputs.{MOST}
use Rattle.vm_snapshot.specs.Outcomes.{registers_of}
use Rattle.vm_snapshot.specs.Plans.{IsAnswer, IsRead, Plan, plan_seen}
use Rattle.mb_saved.specs.Lines.{lines_of}
use Rattle.vm_snapshot.specs.Texts.{above, guest_text}
use Rattle.vm_snapshot.specs.declared.plan.SnapFault.{SnapFault}
use Rattle.vm_snapshot.specs.declared.plan.SnapFault.TheVariants.{Memory}
use Rattle.vm_snapshot.specs.declared.plan.SnapGuest.{SnapGuest}
use Rattle.vm_snapshot.specs.declared.plan.SnapPlan.{SnapPlan}

-- A guest: what is kept, its script, what its outcome shows, and its disk, where it has one.
pub record ShownGuest : Type 0 where
  pub kept : List Kept
  pub script : Entries
  pub seen : Seen
  pub disk : Option DiskState

-- ---- what its lines say

-- What is saved of its machine. Whether STOP holds the processor is told by the state alone.
abbrev pub saved_in : List Kept → Seen → Saved
saved_in kept seen = record {
  ram = length seen.ram;
  cpu = record seen.cpu { stopped = is_stopped seen.state };
  mmu = seen.mmu;
  kept = kept;
  steps = seen.steps;
  state = seen.state;
  lines = lines_of seen.ram;
  console = seen.console;
  lost = seen.lost;
  queue = seen.queue;
  ctrl = seen.ctrl;
  status = seen.status;
  period = seen.period;
  count = seen.count;
  pending = seen.pending;
}

-- The guest that goes on: of its script there is what is still to come.
abbrev pub told : ShownGuest → SnapGuest
told g = record { saved = saved_in g.kept g.seen; script = above g.seen.steps g.script; disk = g.disk }

-- ---- the text

-- the lines before all guests
abbrev pub head_text : (board slice count : ℕ) → List ℕ
head_text board slice count =
    codes "snapshot 1\n"
    ++ count_line (codes "board") board ++ count_line (codes "slice") slice ++ count_line (codes "guests") count

-- those of guests that are numbered from here on
abbrev pub guests_text : (number : ℕ) → List ShownGuest → List ℕ
guests_text number [] = []
guests_text number (g ∷ guests) =
    guest_text number (length g.seen.ram / 1024) g.kept g.script g.seen g.disk ++ guests_text (number + 1) guests

-- of a board of so many KiB, with so many steps a turn
abbrev pub snapshot_text : (board slice : ℕ) → List ShownGuest → List ℕ
snapshot_text board slice guests = head_text board slice (length guests) ++ guests_text 1 guests

-- ---- of which guests it is one

abbrev pub AreLongs : List ℕ → Type 0
AreLongs values = All (λ value. value < 2 ^ 32) values

-- What an outcome shows is of the widths of its lines.
pub record HasWidths (seen : Seen) : Type 0 where
  pub data_count : length seen.cpu.regs.d ≡ 8
  pub address_count : length seen.cpu.regs.a ≡ 7
  pub data_registers : AreLongs seen.cpu.regs.d
  pub address_registers : AreLongs seen.cpu.regs.a
  pub control_registers : AreLongs (registers_of seen).control_values
  pub translation_registers : AreLongs (registers_of seen).translation_values
  pub steps : seen.steps < 2 ^ 32
  pub lost : seen.lost < 2 ^ 64
  pub period : seen.period < 2 ^ 32
  pub console : AreBytes seen.console
  pub queue : AreBytes seen.queue
  pub ram : AreBytes seen.ram

abbrev pub IsInputOfBytes : Input → Type 0
IsInputOfBytes (input.Byte byte) = byte < 2 ^ 8
IsInputOfBytes input.Abort = Unit {0}

-- An entry has a step of 32 bits, and a byte where it has one.
abbrev pub IsEntry : Entry → Type 0
IsEntry entry = (entry.step < 2 ^ 32) × IsInputOfBytes entry.input

pub record HasEntries (script : Entries) : Type 0 where
  pub lawful : IsScript script
  pub entries : All IsEntry script

-- A disk has a block's number of 32 bits, and bytes.
pub record HasBlocks (d : DiskState) : Type 0 where
  pub disk : IsDisk d
  pub block : d.block < 2 ^ 32
  pub bytes : AreBytes d.bytes
  pub buffer : AreBytes d.buffer

-- A guest of which a snapshot can be written: what is saved of it is lawful, and all is of its width.
pub record CanBeTold (g : ShownGuest) : Type 0 where
  pub lawful : IsLawful (saved_in g.kept g.seen)
  pub widths : HasWidths g.seen
  pub script : HasEntries g.script
  pub disk : IfSome g.disk HasBlocks

-- 1 to 16 such guests of a board of 128 to 65,536 KiB, a multiple of 64
pub record IsSnapshot (board slice : ℕ) (guests : List ShownGuest) : Type 0 where
  pub least : 128 ≤ board
  pub most : board ≤ 65536
  pub units : board % 64 ≡ 0
  pub turns : 1 ≤ slice
  pub few : slice ≤ MOST
  pub some : 1 ≤ length guests
  pub seats : length guests ≤ 16
  pub told : All CanBeTold guests

-- ---- laws

abbrev pub plan_told : (board slice : ℕ) → List ShownGuest → Plan
plan_told board slice guests = record { board = board; slice = slice; guests = map told guests }

-- What is written of such guests is a snapshot, and says just these,
abbrev pub GuestsAreTold : Type 0
GuestsAreTold = (board slice : ℕ) (guests : List ShownGuest) → IsSnapshot board slice guests
    → IsRead (snapshot_text board slice guests) (plan_told board slice guests)

-- A text says one plan, and no other answer is given for it but want of memory.
abbrev pub AnswersThat : Plan → Result SnapPlan SnapFault → Type 0
AnswersThat plan answer = IfOk answer (λ given. plan_seen given ≡ plan) × IfErr answer (λ fault. fault ≡ Memory)

abbrev pub TextsSayOnePlan : Type 0
TextsSayOnePlan = (text : List ℕ) (plan : Plan) (answer : Result SnapPlan SnapFault)
    → IsRead text plan → IsAnswer text answer → AnswersThat plan answer
