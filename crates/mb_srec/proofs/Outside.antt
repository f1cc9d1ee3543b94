-- Addresses that are not below the size of RAM.
use Rattle.std.proofs.Common.{◌≡◌, ℕ, suc, ◌+◌, ◌<◌, ◌≤◌, List, [], ◌∷◌, length, Some, None, refl, max, inl, inr, arith}
use Rattle.std.proofs.lemmas.Bool.{cases_lt, lt-ltb, le-ltb}
use Rattle.mb_srec.specs.Records.{first_outside}

pub all_inside : (ram at : ℕ) (bytes : List ℕ) → at + length bytes ≤ ram → first_outside ram at bytes ≡ None
all_inside ram at [] h = refl
all_inside ram at (byte ∷ bytes) h = rw (lt-ltb at ram (omega arith)) (all_inside ram (suc at) bytes (omega arith))

pub some_outside : (ram at : ℕ) (bytes : List ℕ) → 0 < length bytes → ram < at + length bytes → first_outside ram at bytes ≡ Some (max at ram)
some_outside ram at [] some h = absurd (omega arith)
some_outside ram at (byte ∷ []) some h =
    let past : ram ≤ at = omega arith in
    let greatest : max at ram ≡ at = omega arith in
    rw (le-ltb at ram past, greatest) refl
some_outside ram at (byte ∷ next ∷ bytes) some h =
    elim (cases_lt at ram) [
      | inl below ↦
          let same : max (suc at) ram ≡ max at ram = omega arith in
          rw (lt-ltb at ram below, ← same) (some_outside ram (suc at) (next ∷ bytes) (omega arith) (omega arith))
      | inr past ↦
          let greatest : max at ram ≡ at = omega arith in
          rw (le-ltb at ram past, greatest) refl
    ]

pub none_outside : (ram at : ℕ) (bytes : List ℕ) → length bytes ≡ 0 → first_outside ram at bytes ≡ None
none_outside ram at [] h = refl
none_outside ram at (byte ∷ bytes) h = absurd (omega arith)

pub ruleset bounds = (all_inside, some_outside, none_outside)
