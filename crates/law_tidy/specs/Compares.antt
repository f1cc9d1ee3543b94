-- A guest's run by the guests' rule beside its run by the board's.
use Rattle.std.specs.Prelude.{◌≡◌, ℕ, ◌↔◌, Bool, IsTrue}
use Rattle.mb_model.specs.Keeping.{rule_a, rule_k}
use Rattle.def_machine.specs.Machine.{Opening, Entries}
use Rattle.def_runs.specs.Tidy.{Tidy}
use Rattle.law_tidy.specs.Laws.{outcome_by}

-- What is told of a guest says whether both outcomes are equal.
abbrev pub TellsSame : Opening → Entries → (size n : ℕ) → (told : Bool) → Type 0
TellsSame opening script size n told =
    IsTrue told ↔ (outcome_by rule_a opening script size n ≡ outcome_by rule_k opening script size n)

-- Of a tidy guest it is told that they are; so a guest of which it is told that they are not is not tidy.
abbrev pub TidyIsToldSame : Type 0
TidyIsToldSame = (opening : Opening) (script : Entries) (size n : ℕ) (told : Bool)
    → TellsSame opening script size n told → Tidy opening script size n → IsTrue told
