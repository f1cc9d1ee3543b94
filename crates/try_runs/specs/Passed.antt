-- How many cases pass.
use Rattle.std.specs.Prelude.{ℕ, ◌+◌, List, [], ◌∷◌}
use Rattle.try_runs.specs.declared.cases.case.Case.{Case}
use Rattle.try_runs.specs.Cases.{Passes}

-- of the cases so many pass, and no others
pub data Passed : List Case → ℕ → Type 0 where
  nothing : Passed [] 0
  passing : (case : Case) (cases : List Case) (count : ℕ) → Passes case → Passed cases count
      → Passed (case ∷ cases) (count + 1)
  failing : (case : Case) (cases : List Case) (count : ℕ) → ¬ Passes case → Passed cases count
      → Passed (case ∷ cases) count
