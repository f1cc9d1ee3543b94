-- Runs, counts and marks of a guest that begins with any machine.
use Rattle.std.specs.Prelude.{◌≡◌, ℕ, ◌+◌, ◌-◌, ◌*◌, ◌≤◌, true, false, List, [], ◌++◌, length, Some, slice_get}
use Rattle.mb_instr.specs.declared.registers.Plain.{Plain}
use Rattle.mb_model.specs.Keeping.{Rule, rule_k}
use Rattle.def_machine.specs.Machine.{Entries, Machine, Opening, going, run_of, start, takes_steps}
use Rattle.vm_shadow.specs.Shadows.{nothing}
use Rattle.def_runs.specs.Free.{IsFreeRun}
use Rattle.def_guests.specs.Turns.{Tally, Turned, no_steps, prepared, tally_of, marks_between, turn_of, steps_in}
use Rattle.def_guests.specs.Turns.{afresh}
use Rattle.def_guests.specs.Seats.{Seat, machine_on, turned_on}
use Rattle.def_guests.specs.Stages.{Stage, AllSeated, Turns, TakeTurns, steps_for}

-- ---- a beginning

-- A guest that begins with a machine: nothing in its shadow, nothing counted.
abbrev pub beginning : Machine → Turned
beginning m = record {
  guest = record { machine = m; shadow = nothing };
  tally = no_steps;
  marks = [];
  exceptions = 0;
}

-- A guest's start is one of these.
abbrev pub StartsBegin : Type 0
StartsBegin = (opening : Opening) (size : ℕ) → prepared opening size ≡ beginning (start rule_k opening size)

-- The count of each class over n steps from a machine.
abbrev pub tally_from : Entries → (n : ℕ) → Machine → Tally
tally_from script n m = (turn_of script n (beginning m)).tally

-- The marks of the steps k + 1 to n from a machine.
abbrev pub marks_from : Entries → (k n : ℕ) → Machine → List Plain
marks_from script k n m = (turn_of script (n - k) (afresh (turn_of script k (beginning m)))).marks

-- Those of a guest's start are the same.
abbrev pub StartsCount : Type 0
StartsCount = (opening : Opening) (script : Entries) (size n : ℕ)
    → tally_of opening script size n ≡ tally_from script n (start rule_k opening size)

abbrev pub StartsMark : Type 0
StartsMark = (opening : Opening) (script : Entries) (size k n : ℕ)
    → marks_between opening script size k n ≡ marks_from script k n (start rule_k opening size)

-- ---- runs from a machine

-- n steps and then k more are n + k.
abbrev pub RunsAdd : Type 0
RunsAdd = (rule : Rule) (script : Entries) (n k : ℕ) (m : Machine)
    → run_of rule script (n + k) m ≡ run_of rule script k (run_of rule script n m)

-- What takes no steps stays.
abbrev pub HaltedRunsStay : Type 0
HaltedRunsStay = (rule : Rule) (script : Entries) (n : ℕ) (m : Machine) → takes_steps m.state ≡ false
    → run_of rule script n m ≡ m

-- A machine that can still take steps has taken all of them;
abbrev pub GoingRunsCount : Type 0
GoingRunsCount = (rule : Rule) (script : Entries) (n : ℕ) (m : Machine)
    → takes_steps (run_of rule script n m).state ≡ true → (run_of rule script n m).steps ≡ m.steps + n

-- none has taken more, and the count never falls.
pub record StepsWithin (n before after : ℕ) : Type 0 where
  pub least : before ≤ after
  pub most : after ≤ before + n

abbrev pub RunsCount : Type 0
RunsCount = (rule : Rule) (script : Entries) (n : ℕ) (m : Machine)
    → StepsWithin n m.steps (run_of rule script n m).steps

-- Where it takes steps, the state says what processor and devices say.
abbrev pub IsGoing : Machine → Type 0
IsGoing m = takes_steps m.state ≡ true → m.state ≡ going m.cpu m.world.devices

abbrev pub RunsAreGoing : Type 0
RunsAreGoing = (rule : Rule) (script : Entries) (n : ℕ) (m : Machine) → IsGoing m → IsGoing (run_of rule script n m)

abbrev pub StartsAreGoing : Type 0
StartsAreGoing = (rule : Rule) (opening : Opening) (size : ℕ) → IsGoing (start rule opening size)

-- ---- counts from a machine

-- The counts add up to the steps that were taken since,
abbrev pub CountsAreStepsSince : Type 0
CountsAreStepsSince = (script : Entries) (n : ℕ) (m : Machine)
    → steps_in (tally_from script n m) + m.steps ≡ (run_of rule_k script n m).steps

-- each retired one has two marks,
abbrev pub MarksAreOfRetiredSince : Type 0
MarksAreOfRetiredSince = (script : Entries) (n : ℕ) (m : Machine)
    → length (marks_from script 0 n m) ≡ 2 * (tally_from script n m).retired

-- and the marks of a run are those of its first steps and then those of the others.
abbrev pub MarksAppendSince : Type 0
MarksAppendSince = (script : Entries) (k n : ℕ) (m : Machine) → k ≤ n
    → marks_from script 0 n m ≡ marks_from script 0 k m ++ marks_from script k n m

-- ---- a guest on a board, from any machine

-- The guest's machine is its run from there, and the counts are that run's.
pub record RunsFrom (m : Machine) (script : Entries) (n : ℕ) (guest : Seat) (ram : List ℕ) : Type 0 where
  pub machine : machine_on guest ram ≡ run_of rule_k script n m
  pub tally : guest.tally ≡ tally_from script n m
  -- but for what is kept it is the end of a free run from there
  pub free : IsFreeRun script n m (machine_on guest ram)

-- Whatever turns there are, a guest that began with a machine comes to that.
abbrev pub BegunGuestsRunAlone : Type 0
BegunGuestsRunAlone = (turns : Turns) (s t : Stage) → AllSeated s.guests s.ram → TakeTurns turns s t
    → (place : ℕ) (g : Seat) → slice_get s.guests place ≡ Some g
    → (m : Machine) → turned_on g s.ram [] 0 ≡ beginning m
    → (h : Seat) × (slice_get t.guests place ≡ Some h) × RunsFrom m g.script (steps_for place turns) h t.ram
