-- Facts that tests give.
use Rattle.std.proofs.Common.{◌≡◌, ℕ, ◌==◌, not, Bool, true, false, refl, arith}
use Rattle.std.proofs.lemmas.Bool.Decides.{nat_tests}

pub number_is : (m n : ℕ) → (m == n) ≡ true → m ≡ n
number_is m n h = grind (arith, nat_tests)

-- no test is both
pub contradicts : {A : Type 0} (b : Bool) → b ≡ true → b ≡ false → A
contradicts true h k = absurd (let z : ⊥ = cc in z)
contradicts false h k = absurd (let z : ⊥ = cc in z)

pub is_not : (b : Bool) → not b ≡ true → b ≡ false
is_not true h = cc
is_not false h = refl
