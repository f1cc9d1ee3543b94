-- The registers that a mask names, by its set bits one after the other.
use Rattle.std.proofs.Common.{◌≡◌, ◌≢◌, ℕ, zero, suc, ◌+◌, ◌-◌, ◌<◌, ◌/◌, ◌%◌, ◌^◌, true, false}
use Rattle.std.proofs.Common.{[], ◌∷◌, ap, sym, ◌∙◌, arith}
use Rattle.std.specs.Int.{bit_at, trailing_zeros, w32}
use Rattle.std.proofs.Math.Nat.{lt_of_not-le}
use Rattle.std.proofs.lemmas.Nat.{shr-shr, shr_le}
use Rattle.std.proofs.lemmas.Nat.Bits.{bit_at-trailing_zeros, bit_at-zero, bit_at_above}
use Rattle.std.proofs.lemmas.Bool.Decides.{nat_tests}
use Rattle.mb_instr.specs.Sizes.{is_set}
use Rattle.mb_writes.specs.Transfers.{set_bits}
use Rattle.mb_writes.proofs.Bits.{no_bits, with_bit, without_bit}

-- ---- bits that are not set are passed

is_set_at : (mask k : ℕ) → bit_at mask k ≡ 1 → is_set mask k ≡ true
is_set_at mask k h = grind (arith, nat_tests)

is_clear_at : (mask k : ℕ) → bit_at mask k ≡ 0 → is_set mask k ≡ false
is_clear_at mask k h = grind (arith, nat_tests)

passed : (mask k n clear : ℕ) → ((i : ℕ) → i < clear → bit_at mask (k + i) ≡ 0)
    → set_bits mask k (clear + n) ≡ set_bits mask (k + clear) n
passed mask k n zero h =
    let none : 0 + n ≡ n = omega arith in
    let same : k ≡ k + 0 = omega arith in
    ap (set_bits mask k) none ∙ ap (λ (j : ℕ). set_bits mask j n) same
passed mask k n (suc clear) h =
    let same : k ≡ k + 0 = omega arith in
    let some : 0 < suc clear = omega arith in
    let first : bit_at mask k ≡ 0 = ap (λ (j : ℕ). bit_at mask j) same ∙ h 0 some in
    let fewer : suc clear + n ≡ suc (clear + n) = omega arith in
    let others = λ (i : ℕ) (less : i < clear).
    let next : k + 1 + i ≡ k + suc i = omega arith in
    let within : suc i < suc clear = omega arith in
    ap (λ (j : ℕ). bit_at mask j) next ∙ h (suc i) within in
    let last : k + 1 + clear ≡ k + suc clear = omega arith in
    ap (set_bits mask k) fewer ∙ without_bit mask k (clear + n) (is_clear_at mask k first)
    ∙ passed mask (k + 1) n clear others
    ∙ ap (λ (j : ℕ). set_bits mask j n) last

-- ---- the lowest that is set, of those from a bit on

-- where the bits from `from` on are a number that is 0, none is set
pub none_left : (mask from : ℕ) → mask / 2 ^ from ≡ 0 → set_bits mask from (16 - from) ≡ []
none_left mask from h =
    let all : 16 - from ≡ 16 - from + 0 = omega arith in
    let clear = λ (i : ℕ) (less : i < 16 - from).
    ap (λ (n : ℕ). n % 2) (sym (shr-shr mask from i)) ∙ ap (λ (n : ℕ). bit_at n i) h ∙ bit_at-zero i in
    ap (set_bits mask from) all ∙ passed mask from 0 (16 - from) clear ∙ no_bits mask (from + (16 - from))

-- the lowest of them
pub record IsNext (mask from bit : ℕ) : Type 0 where
  pub within : bit < 16
  pub is : set_bits mask from (16 - from) ≡ bit ∷ set_bits mask (bit + 1) (16 - (bit + 1))

below_all : (mask bit : ℕ) → mask < 2 ^ 16 → bit_at mask bit ≡ 1 → bit < 16
below_all mask bit small set = lt_of_not-le (λ above. absurd (omega (arith, set, bit_at_above mask 16 bit small above)))

pub lowest : (mask from left : ℕ) → mask < 2 ^ 16 → left ≡ mask / 2 ^ from → left ≢ 0 → IsNext mask from (from + trailing_zeros w32 left)
lowest mask from left small is some =
    let fits = shr_le mask from in
    let found = bit_at-trailing_zeros w32 left (omega arith) (omega (arith, fits)) in
    let place = trailing_zeros w32 left in
    let same = λ (i : ℕ). ap (λ (n : ℕ). n % 2) (sym (shr-shr mask from i)) ∙ ap (λ (n : ℕ). bit_at n i) (sym is) in
    let set = same place ∙ found.1 in
    let within : from + place < 16 = below_all mask (from + place) small set in
    let count : 16 - from ≡ place + suc (16 - (from + place + 1)) = omega arith in
    record {
      within = within;
      is = ap (set_bits mask from) count
          ∙ passed mask from (suc (16 - (from + place + 1))) place (λ i less. same i ∙ found.2 i less)
          ∙ with_bit mask (from + place) (16 - (from + place + 1)) (is_set_at mask (from + place) set);
    }
