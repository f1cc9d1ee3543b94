-- A bit of a number is set.
use Rattle.std.proofs.Common.{◌≡◌, ℕ, zero, suc, ◌+◌, ◌*◌, ◌/◌, ◌%◌, ◌^◌, ◌<◌, refl, ap, ◌∙◌, arith}
use Rattle.std.specs.Prelude.{bit_or}
use Rattle.std.specs.Int.Bits.{or_zero_r}
use Rattle.std.proofs.lemmas.Nat.{or_block, pow_pos}

low_or : (r : ℕ) → r < 2 → bit_or r 1 ≡ 1
low_or zero h = refl
low_or (suc zero) h = refl
low_or (suc (suc r)) h = absurd (omega arith)

or_one : (q : ℕ) → bit_or q 1 ≡ q / 2 * 2 + 1
or_one q =
    let parts : q ≡ q / 2 * 2 ^ 1 + q % 2 = omega arith in
    ap (λ (n : ℕ). bit_or n 1) parts ∙ or_block 1 (q / 2) 0 (q % 2) 1 (omega arith) (omega arith)
    ∙ rw (or_zero_r (q / 2), low_or (q % 2) (omega arith)) refl

module _ (v p : ℕ) where
  -- the number by the bits from that one on, and those below it
  pub split : v ≡ v / 2 ^ p * 2 ^ p + v % 2 ^ p
  split = let some = pow_pos p in omega arith

  pub below : v % 2 ^ p < 2 ^ p
  below = let some = pow_pos p in omega arith

  pub alone : 2 ^ p ≡ 1 * 2 ^ p + 0
  alone = omega arith

  pub or_bit : bit_or v (2 ^ p) ≡ (v / 2 ^ p / 2 * 2 + 1) * 2 ^ p + v % 2 ^ p
  or_bit =
      ap (λ (n : ℕ). bit_or n (2 ^ p)) split ∙ ap (λ (n : ℕ). bit_or (v / 2 ^ p * 2 ^ p + v % 2 ^ p) n) alone
      ∙ or_block p (v / 2 ^ p) 1 (v % 2 ^ p) 0 below (pow_pos p)
      ∙ rw (or_zero_r (v % 2 ^ p), or_one (v / 2 ^ p)) refl
