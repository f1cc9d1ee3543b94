-- How many pass, from a place among the cases on.
use Rattle.std.proofs.Common.{◌≡◌, ◌∙◌, ℕ, ◌+◌, ◌<◌, ◌≤◌, ◌↔◌, List, ◌∷◌, length, drop, get_or, sym, ap, subst, arith, add-zero, refl, true, false}
use Rattle.std.specs.Prelude.{Option, Some, None, IsNone, is_some}
use Rattle.std.proofs.lemmas.List.{drop_more, drop_all}
use Rattle.try_runs.specs.declared.cases.case.Case.{Case}
use Rattle.try_runs.specs.Cases.{Passes}
use Rattle.try_runs.specs.Passed.{Passed, nothing, passing, failing}

-- the cases from a place on begin with the one there
from_case : (cases : List Case) (i : ℕ) (case : Case) → i < length cases → case ≡ get_or cases i case
    → case ∷ drop (i + 1) cases ≡ drop i cases
from_case cases i case within is =
    ap (λ (c : Case). c ∷ drop (i + 1) cases) is ∙ sym (drop_more cases i case within)

-- no difference was found, so one more passes
pub one_more : {D : Type 0} (cases : List Case) (i passed now : ℕ) (case : Case) (found : Option D) → i < length cases
    → case ≡ get_or cases i case → IsNone found ↔ Passes case → found ≡ None → now ≡ passed + 1
    → ((more : ℕ) → Passed (drop i cases) more → Passed cases (passed + more))
    → (more : ℕ) → Passed (drop (i + 1) cases) more → Passed cases (now + more)
one_more cases i passed now case found within is tells none counted all more rest =
    let passes = tells.0 (rw none refl) in
    let here : Passed (drop i cases) (more + 1) =
    subst (λ (from : List Case). Passed from (more + 1)) (from_case cases i case within is)
    (passing case (drop (i + 1) cases) more passes rest) in
    let same : passed + (more + 1) ≡ now + more = omega arith in
    subst (λ (n : ℕ). Passed cases n) same (all (more + 1) here)

-- a difference was found, so no more pass
pub no_more : {D : Type 0} (cases : List Case) (i passed now : ℕ) (case : Case) (found : Option D) (difference : D)
    → i < length cases → case ≡ get_or cases i case → IsNone found ↔ Passes case → found ≡ Some difference → now ≡ passed
    → ((more : ℕ) → Passed (drop i cases) more → Passed cases (passed + more))
    → (more : ℕ) → Passed (drop (i + 1) cases) more → Passed cases (now + more)
no_more cases i passed now case found difference within is tells some counted all more rest =
    let fails : Passes case → ⊥ =
    λ passes. (let none : true ≡ false = sym (ap is_some some) ∙ tells.1 passes in cc) in
    let here : Passed (drop i cases) more =
    subst (λ (from : List Case). Passed from more) (from_case cases i case within is)
    (failing case (drop (i + 1) cases) more fails rest) in
    let same : passed + more ≡ now + more = omega arith in
    subst (λ (n : ℕ). Passed cases n) same (all more here)

-- what passes is among the cases that were run
pub one_more_among : (i passed now : ℕ) → now ≡ passed + 1 → passed ≤ i → now ≤ i + 1
one_more_among i passed now counted among = omega arith

pub no_more_among : (i passed now : ℕ) → now ≡ passed → passed ≤ i → now ≤ i + 1
no_more_among i passed now counted among = omega arith

-- no case is left
pub all_counted : (cases : List Case) (i passed : ℕ) → length cases ≤ i
    → ((more : ℕ) → Passed (drop i cases) more → Passed cases (passed + more)) → Passed cases passed
all_counted cases i passed end all =
    let here : Passed (drop i cases) 0 = subst (λ (from : List Case). Passed from 0) (sym (drop_all i cases end)) nothing in
    subst (λ (n : ℕ). Passed cases n) (add-zero passed) (all 0 here)
