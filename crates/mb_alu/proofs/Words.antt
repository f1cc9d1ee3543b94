-- Words that are shifted as numbers.
use Rattle.std.proofs.Common.{ℕ, ◌≡◌, ◌+◌, ◌-◌, ◌*◌, ◌/◌, ◌%◌, ◌^◌, ◌<◌, ◌≤◌, arith, bit_and, bit_or, nat_le, ap, ◌∙◌}
use Rattle.std.proofs.lemmas.Nat.{pow-add, one_shl, and_mask, shl_whole, or_shifted, shr_below, mod_below, mul-add-lt, pow_pos}
use Rattle.std.proofs.Math.Nat.{le-div_iff_mul-le}
use Rattle.std.proofs.lemmas.Bool.Decides.{nat_tests}
use Rattle.mb_instr.specs.declared.size.Size.{Size}
use Rattle.mb_alu.specs.AtOnce.{has_room}
use Rattle.mb_instr.specs.declared.size.Size.TheVariants.{Byte, Word, Long}
use Rattle.mb_instr.specs.Sizes.{low_of, values_of}

-- nothing is left of a word of up to 32 bits that is shifted by 32 or more
pub low_of-far : (size : Size) (v count : ℕ) → 32 ≤ count → 0 ≡ low_of size (v * 2 ^ count)
low_of-far size v count h =
    let far : 2 ^ count ≡ 2 ^ (count - 32) * 2 ^ 32 = ap (λ n. 2 ^ n) (omega arith) ∙ pow-add 2 (count - 32) 32 in
    let e : v * 2 ^ count ≡ v * 2 ^ (count - 32) * 4294967296 = rw far (omega arith) in
    multiple size (v * 2 ^ (count - 32)) (v * 2 ^ count) e
  where
    multiple : (size : Size) (q n : ℕ) → n ≡ q * 4294967296 → 0 ≡ low_of size n
    multiple Byte q n e = omega arith
    multiple Word q n e = omega arith
    multiple Long q n e = omega arith

-- the two parts of a word change places
module _ (word bits lower : ℕ) (narrow : bits ≤ 33) (inside : lower ≤ bits) (fits : word < 2 ^ bits) where
  pub below : word / 2 ^ lower < 2 ^ (bits - lower)
  below = shr_below word (bits - lower) lower (let e : (bits - lower) + lower ≡ bits = omega arith in rw e fits)

  pub exchanged_is : bit_or (bit_and word (1 * 2 ^ lower % 18446744073709551616 - 1) * 2 ^ (bits - lower) % 18446744073709551616) (word / 2 ^ lower)
      ≡ word % 2 ^ lower * 2 ^ (bits - lower) + word / 2 ^ lower
  exchanged_is =
      let low : word % 2 ^ lower < 2 ^ lower = mod_below word (2 ^ lower) (pow_pos lower) in
      let whole : word % 2 ^ lower * 2 ^ (bits - lower) % 18446744073709551616 ≡ word % 2 ^ lower * 2 ^ (bits - lower) =
      shl_whole (word % 2 ^ lower) lower (bits - lower) 64 low (omega arith) in
      rw (one_shl lower 64 (omega arith), and_mask word lower, whole) (or_shifted (word % 2 ^ lower) (bits - lower) (word / 2 ^ lower) below)

  pub exchanged-bound : word % 2 ^ lower * 2 ^ (bits - lower) + word / 2 ^ lower < 2 ^ bits
  exchanged-bound =
      let low : word % 2 ^ lower < 2 ^ lower = mod_below word (2 ^ lower) (pow_pos lower) in
      let e : 2 ^ bits ≡ 2 ^ (bits - lower) * 2 ^ lower = ap (λ n. 2 ^ n) (omega arith) ∙ pow-add 2 (bits - lower) lower in
      rw e (mul-add-lt (word % 2 ^ lower) (2 ^ (bits - lower)) (word / 2 ^ lower) (2 ^ lower) low below)

-- a product with a power of two is compared as a quotient
pub le_far : (u n h : ℕ) → nat_le u (h / 2 ^ n) ≡ nat_le (u * 2 ^ n) h
le_far u n h =
    let there : u ≤ h / 2 ^ n → u * 2 ^ n ≤ h = (le-div_iff_mul-le (pow_pos n)).0 in
    let back : u * 2 ^ n ≤ h → u ≤ h / 2 ^ n = (le-div_iff_mul-le (pow_pos n)).1 in
    grind (arith, nat_tests)

-- the signed operand times a power of two stays in the range
pub room_negative : (size : Size) (v n : ℕ) → v < values_of size → values_of size / 2 ≤ v →
    nat_le (2 * (values_of size / 2) - v) (values_of size / 2 / 2 ^ n) ≡ has_room size n v
room_negative size v n h p = le_far (2 * (values_of size / 2) - v) n (values_of size / 2) ∙ room size v n h p
  where
    room : (size : Size) (v n : ℕ) → v < values_of size → values_of size / 2 ≤ v →
        nat_le ((2 * (values_of size / 2) - v) * 2 ^ n) (values_of size / 2) ≡ has_room size n v
    room Byte v n h p = grind (arith, nat_tests)
    room Word v n h p = grind (arith, nat_tests)
    room Long v n h p = grind (arith, nat_tests)

pub room_positive : (size : Size) (v n : ℕ) → v < values_of size → v < values_of size / 2 →
    nat_le v ((values_of size / 2 - 1) / 2 ^ n) ≡ has_room size n v
room_positive size v n h p = le_far v n (values_of size / 2 - 1) ∙ room size v n h p
  where
    room : (size : Size) (v n : ℕ) → v < values_of size → v < values_of size / 2 →
        nat_le (v * 2 ^ n) (values_of size / 2 - 1) ≡ has_room size n v
    room Byte v n h p = grind (arith, nat_tests)
    room Word v n h p = grind (arith, nat_tests)
    room Long v n h p = grind (arith, nat_tests)
