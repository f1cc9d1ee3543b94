-- Setting a bit of a long.
use Rattle.std.proofs.Common.{◌≡◌, ℕ, ◌+◌, ◌*◌, ◌/◌, ◌%◌, ◌^◌, ◌<◌, sym, ◌∙◌, arith, inl, inr}
use Rattle.std.specs.Prelude.{bit_or}
use Rattle.std.proofs.lemmas.Bool.{cases_eq}
use Rattle.std.proofs.Math.Nat.{mod-eq_of_lt}
use Rattle.std.proofs.Math.Pow.{pow-lt}
use Rattle.mb_walk.specs.Descriptors.{with_bit}
use Rattle.mb_port.proofs.SetBits.{or_bit, split}

module _ (v p : ℕ) where
  pub or_is : bit_or v (2 ^ p) ≡ with_bit v p
  or_is = elim (cases_eq (v / 2 ^ p % 2) 1) [
    | inl e ↦
        let odd : v / 2 ^ p / 2 * 2 + 1 ≡ v / 2 ^ p = omega arith in
        rw e (or_bit v p ∙ rw odd (sym (split v p)))
    | inr e ↦
        let even : v / 2 ^ p / 2 * 2 + 1 ≡ v / 2 ^ p + 1 = omega arith in
        let more : (v / 2 ^ p + 1) * 2 ^ p ≡ v / 2 ^ p * 2 ^ p + 2 ^ p = omega arith in
        let zero_so : v / 2 ^ p % 2 ≡ 0 = omega arith in
        rw zero_so (or_bit v p ∙ rw (even, more) (let whole = split v p in omega arith))
  ]

pub or_shifted : (v p : ℕ) → p < 32 → bit_or v (1 * 2 ^ p % 2 ^ 32) ≡ with_bit v p
or_shifted v p h =
    let fits : 2 ^ p < 2 ^ 32 = pow-lt h in
    let one : 1 * 2 ^ p ≡ 2 ^ p = omega arith in
    rw (one, mod-eq_of_lt fits) (or_is v p)

pub ruleset setting = (or_shifted)
