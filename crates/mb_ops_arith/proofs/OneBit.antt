-- One bit of a number.
use Rattle.std.proofs.Common.{◌≡◌, ℕ, zero, suc, ◌+◌, ◌-◌, ◌*◌, ◌/◌, ◌%◌, ◌^◌, ◌<◌, ◌≤◌, true, false, refl, ap, sym, ◌∙◌, arith}
use Rattle.std.specs.Prelude.{bit_and, bit_or, bit_xor, not, ◌==◌}
use Rattle.std.specs.Int.Bits.{xor_zero_r}
use Rattle.std.specs.Int.{w32, bit_not}
use Rattle.std.proofs.lemmas.Nat.{and_mask, and_block, xor_block, pow_pos, pow-add, shr_below}
use Rattle.std.proofs.lemmas.Nat.Bits.{and_high_mask}
use Rattle.std.proofs.Math.Nat.{mod-eq_of_lt, add-mul}
use Rattle.std.proofs.Math.Pow.{pow_mono}
use Rattle.std.specs.Int.{from_bool}
use Rattle.mb_instr.specs.Sizes.{is_set}
use Rattle.def_instructions.specs.Bits.{with_bit_as}
use Rattle.mb_port.proofs.SetBits.{alone, below, or_bit, split}

low_xor : (r : ℕ) → r < 2 → bit_xor r 1 ≡ from_bool (not (r == 1))
low_xor zero h = refl
low_xor (suc zero) h = refl
low_xor (suc (suc r)) h = absurd (omega arith)

xor_one : (q : ℕ) → bit_xor q 1 ≡ q / 2 * 2 + from_bool (not (q % 2 == 1))
xor_one q =
    let parts : q ≡ q / 2 * 2 ^ 1 + q % 2 = omega arith in
    ap (λ (n : ℕ). bit_xor n 1) parts ∙ xor_block 1 (q / 2) 0 (q % 2) 1 (omega arith) (omega arith)
    ∙ rw (xor_zero_r (q / 2), low_xor (q % 2) (omega arith)) refl

module _ (v p : ℕ) where
  pub set_is : bit_or v (2 ^ p) ≡ with_bit_as p v true
  set_is = or_bit v p

  pub changed_is : bit_xor v (2 ^ p) ≡ with_bit_as p v (not (is_set v p))
  changed_is =
      ap (λ (n : ℕ). bit_xor n (2 ^ p)) (split v p) ∙ ap (λ (n : ℕ). bit_xor (v / 2 ^ p * 2 ^ p + v % 2 ^ p) n) (alone v p)
      ∙ xor_block p (v / 2 ^ p) 1 (v % 2 ^ p) 0 (below v p) (pow_pos p)
      ∙ rw (xor_zero_r (v % 2 ^ p), xor_one (v / 2 ^ p)) refl

  -- all bits of a long but that one
  others : p < 32 → bit_not w32 (2 ^ p) ≡ (2 ^ (32 - p) - 2 ^ 1) * 2 ^ p + (2 ^ p - 1)
  others h =
      let some = pow_pos p in
      let more : (32 - p) + p ≡ 32 = omega arith in
      let whole : 2 ^ (32 - p) * 2 ^ p ≡ 2 ^ 32 = sym (pow-add 2 (32 - p) p) ∙ ap (λ (n : ℕ). 2 ^ n) more in
      let two : 2 ^ 1 ≤ 2 ^ (32 - p) = pow_mono {i = 1} {j = 32 - p} (omega arith) in
      let parted : (2 ^ (32 - p) - 2 ^ 1) + 2 ^ 1 ≡ 2 ^ (32 - p) = omega arith in
      let spread : ((2 ^ (32 - p) - 2 ^ 1) + 2 ^ 1) * 2 ^ p ≡ (2 ^ (32 - p) - 2 ^ 1) * 2 ^ p + 2 ^ 1 * 2 ^ p = add-mul (2 ^ (32 - p) - 2 ^ 1) (2 ^ 1) (2 ^ p) in
      let same : ((2 ^ (32 - p) - 2 ^ 1) + 2 ^ 1) * 2 ^ p ≡ 2 ^ (32 - p) * 2 ^ p = ap (λ (n : ℕ). n * 2 ^ p) parted in
      omega arith

  pub cleared_is : v < 2 ^ 32 → p < 32 → bit_and v (bit_not w32 (2 ^ p)) ≡ with_bit_as p v false
  cleared_is fits h =
      let some = pow_pos p in
      let more : (32 - p) + p ≡ 32 = omega arith in
      let whole : 2 ^ ((32 - p) + p) ≡ 2 ^ 32 = ap (λ (n : ℕ). 2 ^ n) more in
      let nothing : v / 2 ^ p / 2 * 2 + 0 ≡ v / 2 ^ p / 2 * 2 = omega arith in
      let high : v / 2 ^ p < 2 ^ (32 - p) = shr_below v (32 - p) p (rw whole fits) in
      ap (λ (n : ℕ). bit_and n (bit_not w32 (2 ^ p))) (split v p) ∙ ap (λ (n : ℕ). bit_and (v / 2 ^ p * 2 ^ p + v % 2 ^ p) n) (others h)
      ∙ and_block p (v / 2 ^ p) (2 ^ (32 - p) - 2 ^ 1) (v % 2 ^ p) (2 ^ p - 1) (below v p) (omega arith)
      ∙ rw (and_high_mask (32 - p) 1 (omega arith) (v / 2 ^ p) high, and_mask (v % 2 ^ p) p, mod-eq_of_lt (below v p), nothing) refl
