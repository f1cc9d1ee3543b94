-- What tidy runs have in common.
use Rattle.std.specs.Prelude.{◌≡◌, ℕ}
use Rattle.mb_model.specs.Keeping.{Rule}
use Rattle.law_routines.specs.Relations.{NoChoice}
use Rattle.def_machine.specs.Machine.{Opening, Entries, Machine, start, run_of, Outcome, outcome_of}
use Rattle.def_runs.specs.Free.{rule_free, FreeCall, FreeRun, WorldWithin, Within}
use Rattle.def_runs.specs.Tidy.{searching_bus, searching_run, IsTidyCall, IsTidyRun, Tidy}

-- ---- a call

-- A free board beside one that searches at each access: they are the same but for what is kept, and what the free one
-- keeps stands in the other's past. At a tidy call the free board has no choice: it answers the same, and they stay so.
abbrev pub TidyCallsHaveNoChoice : Type 0
TidyCallsHaveNoChoice = NoChoice (λ s t. WorldWithin t s) IsTidyCall searching_bus FreeCall

-- ---- a run

-- Where the run that searches is tidy, each free run is, but for what is kept, that run.
abbrev pub TidyRunsSearch : Type 0
TidyRunsSearch = (script : Entries) (n : ℕ) (m free end : Machine) → Within free m → IsTidyRun script n m
    → FreeRun script n free end → Within end (searching_run script n m)

-- That run is itself a free one.
abbrev pub SearchingIsFree : Type 0
SearchingIsFree = (script : Entries) (n : ℕ) (m : Machine) → FreeRun script n m (searching_run script n m)

-- ---- an opening

-- All free runs of a tidy opening show one outcome.
abbrev pub TidyRunsAreOne : Type 0
TidyRunsAreOne = (opening : Opening) (script : Entries) (size n : ℕ) (a b : Machine) → Tidy opening script size n
    → FreeRun script n (start rule_free opening size) a → FreeRun script n (start rule_free opening size) b
    → outcome_of a ≡ outcome_of b

-- the outcome of an opening's run by a rule
abbrev pub outcome_by : Rule → Opening → Entries → (size n : ℕ) → Outcome
outcome_by rule opening script size n = outcome_of (run_of rule script n (start rule opening size))

-- Its runs by any two rules of keeping show the same.
abbrev pub RulesShowTheSame : Type 0
RulesShowTheSame = (rule other : Rule) (opening : Opening) (script : Entries) (size n : ℕ)
    → Tidy opening script size n → outcome_by rule opening script size n ≡ outcome_by other opening script size n
