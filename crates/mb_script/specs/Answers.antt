-- How an answer of the code stands to what a definition gives.
use Rattle.std.specs.Prelude.{◌≡◌, ℕ, List, [], ◌∷◌, ◌++◌, length, map, option_map, string_bytes, Result, Ok, Err}
use denote.Ref.{Bor}
use Rattle.mb_script.specs.declared.fault.LineFault.{LineFault}
use Rattle.mb_script.specs.declared.fault.LineFault.TheVariants.{Memory, Line}
use Rattle.mb_script.specs.declared.fault.LineWhy.{LineWhy}
use Rattle.mb_script.specs.declared.fault.Refusal.{Refusal}
use Rattle.mb_script.specs.declared.fault.Refusal.TheVariants as refusal
use Rattle.mb_script.specs.declared.arrival.Due.{Due}
use Rattle.mb_script.specs.declared.arrival.Due.TheVariants as due
use Rattle.mb_script.specs.declared.arrival.Arrival.{Arrival}
use Rattle.mb_script.specs.declared.input.Input.{Input}
use Rattle.mb_script.specs.declared.input.Input.TheVariants as input
use Rattle.mb_script.specs.declared.script_line.Parts.{Parts}
use Rattle.mb_script.specs.declared.script_line.Written.{Written}
use Rattle.mb_script.specs.declared.script_line.Written.TheVariants as written
use Rattle.mb_script.specs.declared.plan.DiskPlan.{DiskPlan}
use Rattle.mb_script.specs.declared.plan.GuestPlan.{GuestPlan}
use Rattle.mb_script.specs.declared.plan.SessionPlan.{SessionPlan}
use Rattle.mb_script.specs.declared.session_line.Fields.{Fields}
use Rattle.mb_script.specs.Faults.{Fault}
use Rattle.mb_script.specs.Plan.{Disk, Guest, Plan}
use Rattle.mb_script.specs.Scripts as scripts
use Rattle.mb_script.specs.Sessions as sessions

-- a fault is the one that is given, unless memory ran out
abbrev pub Faults : {Y : Type 0} → LineFault → Result Y Fault → Type 0
Faults Memory given = Unit {0}
Faults (Line number why) given = given ≡ Err (record { number = number; why = why })

-- the answer, seen by view, is what is given, unless memory ran out
abbrev pub Gives : {X Y : Type 0} → (X → Y) → Result X LineFault → Result Y Fault → Type 0
Gives view (Ok x) given = given ≡ Ok (view x)
Gives view (Err fault) given = Faults fault given

-- the same for what one line says by itself
abbrev pub FaultsAlone : {Y : Type 0} → Refusal → Result Y LineWhy → Type 0
FaultsAlone refusal.Memory given = Unit {0}
FaultsAlone (refusal.Why why) given = given ≡ Err why

abbrev pub GivesAlone : {X Y : Type 0} → (X → Y) → Result X Refusal → Result Y LineWhy → Type 0
GivesAlone view (Ok x) given = given ≡ Ok (view x)
GivesAlone view (Err fault) given = FaultsAlone fault given

-- the fault of a line with its number
abbrev pub fault_at : ℕ → Refusal → LineFault
fault_at number refusal.Memory = Memory
fault_at number (refusal.Why why) = Line number why

abbrev pub cut_said : Bor (List ℕ) × Bor (List ℕ) → List ℕ × List ℕ
cut_said (first, behind) = (first.now, behind.now)

abbrev pub three_said : Bor (List ℕ) × Bor (List ℕ) × Bor (List ℕ) → List ℕ × List ℕ × List ℕ
three_said (first, second, third) = (first.now, second.now, third.now)

abbrev pub written_said : Written → scripts.Written
written_said (written.Hex digits) = scripts.Hex digits.now
written_said (written.Text text) = scripts.Text text.now
written_said (written.WithLineFeed text) = scripts.WithLineFeed text.now
written_said written.Abort = scripts.Abort

-- how many characters write the bytes
abbrev pub written_len : Written → ℕ
written_len (written.Hex digits) = length digits.now
written_len (written.Text text) = length text.now
written_len (written.WithLineFeed text) = length text.now
written_len written.Abort = 0

abbrev pub parts_said : Parts → scripts.Parts
parts_said parts = record { step = parts.step.now; written = written_said parts.written }

-- what is due, as inputs
abbrev pub due_said : Due → List Input
due_said (due.Spelled bytes) = scripts.typed bytes.items
due_said (due.Text text) = scripts.typed text.now
due_said (due.WithLineFeed text) = scripts.typed (text.now ++ 10 ∷ [])
due_said due.Abort = input.Abort ∷ []

abbrev pub arrival_said : Arrival → scripts.Arrival
arrival_said arrival = record { step = arrival.step; inputs = due_said arrival.due }

abbrev pub bytes_said : Bor (List ℕ) → List ℕ
bytes_said word = word.now

abbrev pub fields_said : Fields → sessions.Fields
fields_said fields = record {
  ram = fields.ram.now;
  steps = fields.steps.now;
  image = fields.image.now;
  script = fields.script.now;
}

abbrev pub disk_said : DiskPlan → Disk
disk_said disk = record { blocks = disk.blocks; contents = option_map string_bytes disk.contents }

-- a disk with the number of its guest
abbrev pub disk_given : ℕ × DiskPlan → ℕ × Disk
disk_given (guest, disk) = (guest, disk_said disk)

abbrev pub guest_said : GuestPlan → Guest
guest_said guest = record {
  ram = guest.ram;
  steps = guest.steps;
  image = string_bytes guest.image;
  script = option_map string_bytes guest.script;
  disk = option_map disk_said guest.disk;
}

abbrev pub plan_said : SessionPlan → Plan
plan_said plan = record {
  board = plan.board;
  slice = plan.slice;
  guests = map guest_said plan.guests.items;
  order = plan.order.items;
}
