-- What holds of a guest's steps, turns and rounds.
use Rattle.std.specs.Prelude.{◌≡◌, ◌≢◌, ℕ, ◌+◌, ◌*◌, ◌≤◌, false, true, List, [], ◌++◌, length, Some, slice_get}
use Rattle.std.specs.Prelude.{slice_set}
use Rattle.mb_port.specs.Routine.{run}
use Rattle.mb_instr.specs.declared.registers.Plain.{Plain}
use Rattle.mb_instr.specs.Registers.{plain_of}
use Rattle.law_routines.specs.Tree.{Tree, routine_of}
use Rattle.law_routines.specs.Until.{Until, run_until, finish, AtRefused}
use Rattle.mb_model.specs.declared.processor.Cpu.{Cpu}
use Rattle.mb_model.specs.Keeping.{rule_k}
use Rattle.mb_model.specs.Status.{space_of}
use Rattle.def_instructions.specs.Ends.{Performed}
use Rattle.def_instructions.specs.Attempt.{attempt_of}
use Rattle.def_machine.specs.declared.reference.Reference.{Reference}
use Rattle.def_machine.specs.Access.{translated}
use Rattle.def_machine.specs.Bus.{bus_of}
use Rattle.def_machine.specs.Machine.{Opening, Entries, start, stepped, takes_steps, run_of}
use Rattle.def_runs.specs.Marks.{trail}
use Rattle.def_guests.specs.Guests.{Guest, IsReference, Truthful, allows, may}
use Rattle.def_guests.specs.Bus.{accessed, guest_bus}
use Rattle.def_guests.specs.Classes.{class_at, class_of_attempt}
use Rattle.def_guests.specs.Turns.{Guested, Turned, guest_stepped, turn_of, steps_in, exits, prepared, tally_of}
use Rattle.def_guests.specs.Turns.{marks_between}
use Rattle.def_guests.specs.Seats.{Seat, guested_on, machine_on, turned_on, IsSame, IsSeated, OnlyWithin, Scene, Takes}
use Rattle.def_guests.specs.Stages.{Stage, AllSeated, Turns, TakeTurns, steps_for, HasTaken}
use Rattle.def_guests.specs.Rounds.{Hosted, Ends}

-- ---- a guest's machine is by the rule of guests

-- What a routine answers and leaves of the machine's world has nothing of the shadow in it;
abbrev pub RunsAreByRule : Type 0 → Type 0
RunsAreByRule A = (m : Tree A) (g : Guest)
    → let (answer, after) = run guest_bus (routine_of m) g in
    let (own, left) = run (bus_of rule_k) (routine_of m) g.world in (answer ≡ own) × (after.world ≡ left)

-- so a step of the guest is its machine's step,
abbrev pub StepsAreByRule : Type 0
StepsAreByRule = (script : Entries) (g : Guested) → (guest_stepped script g).machine ≡ stepped rule_k script g.machine

-- a turn is its machine's run,
abbrev pub TurnsAreByRule : Type 0
TurnsAreByRule = (script : Entries) (n : ℕ) (t : Turned)
    → (turn_of script n t).guest.machine ≡ run_of rule_k script n t.guest.machine

-- and from its start the guest's machine is the run of its own image, script and RAM.
abbrev pub GuestsRunAlone : Type 0
GuestsRunAlone = (opening : Opening) (script : Entries) (size n : ℕ)
    → (turn_of script n (prepared opening size)).guest.machine ≡ run_of rule_k script n (start rule_k opening size)

-- ---- accesses and classes

-- An access that the shadow allows searches nothing, and changes neither the world nor the shadow: so a step that is
-- retired puts nothing.
pub record IsStill (g : Guest) (r : Reference) : Type 0 where
  pub world : let (_, after) = translated rule_k r g.world in after ≡ g.world
  pub shadow : accessed r g.world g.shadow ≡ g.shadow

abbrev pub AllowedAccessesAreStill : Type 0
AllowedAccessesAreStill = (size : ℕ) (g : Guest) (r : Reference) → Truthful size g → IsReference r
    → allows g.shadow r ≡ true → IsStill g r

-- An attempt is judged up to its first access that the shadow does not allow: its rest begins with that, and is what
-- the guest's own attempt goes on with from there.
pub record IsJudged (cpu : Cpu) (g : Guest) (u : Until Guest Performed) : Type 0 where
  pub class : class_of_attempt cpu g ≡ class_at u
  pub first : AtRefused may u
  pub whole : finish guest_bus u ≡ run guest_bus (attempt_of (space_of cpu) (plain_of cpu.regs)) g

abbrev pub AttemptsAreJudged : Type 0
AttemptsAreJudged = (cpu : Cpu) (g : Guest)
    → IsJudged cpu g (run_until may guest_bus (attempt_of (space_of cpu) (plain_of cpu.regs)) g)

-- ---- turns

-- What begins halted or off changes nothing.
abbrev pub HaltedTurnsStay : Type 0
HaltedTurnsStay = (script : Entries) (n : ℕ) (t : Turned) → takes_steps t.guest.machine.state ≡ false
    → turn_of script n t ≡ t

-- A turn of n steps and then one of m is one of n + m.
abbrev pub TurnsAdd : Type 0
TurnsAdd = (script : Entries) (n m : ℕ) (t : Turned) → turn_of script (n + m) t ≡ turn_of script m (turn_of script n t)

-- Marks and exceptions that stand before a turn stay before its own, and have no part in it.
abbrev pub with_before : List Plain → (exceptions : ℕ) → Turned → Turned
with_before marks exceptions t = record t { marks = marks ++ t.marks; exceptions = exceptions + t.exceptions }

abbrev pub MarksStayBefore : Type 0
MarksStayBefore = (script : Entries) (n : ℕ) (marks : List Plain) (exceptions : ℕ) (t : Turned)
    → turn_of script n (with_before marks exceptions t) ≡ with_before marks exceptions (turn_of script n t)

-- ---- counts and marks

-- Each step is of one class: the counts add up to the machine's steps,
abbrev pub CountsAreSteps : Type 0
CountsAreSteps = (opening : Opening) (script : Entries) (size n : ℕ)
    → steps_in (tally_of opening script size n) ≡ (turn_of script n (prepared opening size)).guest.machine.steps

-- and each retired one has two marks.
abbrev pub MarksAreOfRetired : Type 0
MarksAreOfRetired = (opening : Opening) (script : Entries) (size n : ℕ)
    → length (marks_between opening script size 0 n) ≡ 2 * (tally_of opening script size n).retired

-- A turn has an exception or more for each step that the board leaves, and no more than 32 for each step.
pub record AreBounded (t u : Turned) : Type 0 where
  pub least : t.exceptions + exits u.tally ≤ u.exceptions + exits t.tally
  pub most : u.exceptions + 32 * t.guest.machine.steps ≤ t.exceptions + 32 * u.guest.machine.steps

abbrev pub ExceptionsAreBounded : Type 0
ExceptionsAreBounded = (script : Entries) (n : ℕ) (t : Turned) → AreBounded t (turn_of script n t)

-- The marks of a run are those of its first steps and then those of the others.
abbrev pub MarksAppend : Type 0
MarksAppend = (opening : Opening) (script : Entries) (size k n : ℕ) → k ≤ n
    → marks_between opening script size 0 n
    ≡ marks_between opening script size 0 k ++ marks_between opening script size k n

-- The trail goes on where it was.
abbrev pub TrailsAppend : Type 0
TrailsAppend = (t : ℕ) (marks more : List Plain) → trail t (marks ++ more) ≡ trail (trail t marks) more

-- ---- a guest on a board

-- A guest that stays as it is has taken a turn of no steps.
abbrev pub NothingIsTaken : Type 0
NothingIsTaken = (s : Scene) → IsSeated s.guest s.ram → Takes 0 s s

-- A turn of n steps and then one of m is one of n + m.
abbrev pub TakesAdd : Type 0
TakesAdd = (n m : ℕ) (s t u : Scene) → Takes n s t → Takes m t u → Takes (n + m) s u

-- Where a guest changes, and of the board's memory its own part and the monitor's alone, all stay seated, and every
-- other has the machine and the shadow that it had.
abbrev pub OthersStay : Type 0
OthersStay = (guests : List Seat) (place : ℕ) (g h : Seat) (before after : List ℕ) → AllSeated guests before
    → slice_get guests place ≡ Some g → IsSame g h → IsSeated h after → OnlyWithin g before after
    → AllSeated (slice_set guests place h) after
    × ((other : ℕ) (k : Seat) → other ≢ place → slice_get guests other ≡ Some k
    → guested_on k after ≡ guested_on k before)

-- Whatever turns there are, in whatever order, all guests stay seated and apart, and each guest's machine, shadow and
-- counts are those of one turn of all the steps that the turns gave it.
abbrev pub TurnsAreIndependent : Type 0
TurnsAreIndependent = (turns : Turns) (s t : Stage) → AllSeated s.guests s.ram → TakeTurns turns s t
    → AllSeated t.guests t.ram
    × ((place : ℕ) (g : Seat) → slice_get s.guests place ≡ Some g → HasTaken place (steps_for place turns) g s t)

-- So a guest that is prepared on the board comes to the machine of its own image, script, RAM and steps, with the
-- counts of that run, whatever turns the others take.
pub record RunsAlone (opening : Opening) (script : Entries) (size n : ℕ) (guest : Seat) (ram : List ℕ) : Type 0 where
  pub machine : machine_on guest ram ≡ run_of rule_k script n (start rule_k opening size)
  pub tally : guest.tally ≡ tally_of opening script size n

abbrev pub PreparedGuestsRunAlone : Type 0
PreparedGuestsRunAlone = (turns : Turns) (s t : Stage) → AllSeated s.guests s.ram → TakeTurns turns s t
    → (place : ℕ) (g : Seat) → slice_get s.guests place ≡ Some g
    → (opening : Opening) (size : ℕ) → turned_on g s.ram [] 0 ≡ prepared opening size
    → (h : Seat) × (slice_get t.guests place ≡ Some h)
    × RunsAlone opening g.script size (steps_for place turns) h t.ram

-- Rounds end, each guest has then taken its bound, and a second run changes nothing.
abbrev pub RoundsEnd : Type 0
RoundsEnd = (slice : ℕ) (h : Hosted) → 1 ≤ slice → Ends slice h
