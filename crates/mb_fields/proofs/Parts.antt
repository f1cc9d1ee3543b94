-- Words cut into parts, and the zeros before the first one.
use Rattle.std.proofs.Common.{ℕ, zero, suc, ◌≡◌, ◌+◌, ◌-◌, ◌*◌, ◌/◌, ◌%◌, ◌^◌, ◌<◌, ◌≤◌, arith, bit_and, bit_or, nat_lt, true, false, inl, inr}
use Rattle.std.proofs.lemmas.Nat.{and_mask, shl_whole, or_shifted, shr_below, mod_below, mul-add-lt, pow_pos, pow-add, leading_length}
use Rattle.std.proofs.lemmas.Bool.{cases_lt}
use Rattle.std.proofs.lemmas.Bool.Decides.{nat_tests}
use Rattle.std.proofs.Math.Nat.{two-pow-succ}
use Rattle.std.proofs.Math.Pow.{pow_mono}
use Rattle.std.specs.Int.Count.{count_leading_zeros}
use Rattle.mb_fields.specs.Fields.{field_first_of}

-- a word put together of what stands before the field, the field, and what stands behind it
module _ (word offset width rest value : ℕ) (narrow : (offset + width) + rest ≤ 40) (fits : word < 2 ^ ((offset + width) + rest)) where
  before : word / 2 ^ (rest + width) < 2 ^ offset
  before = shr_below word offset (rest + width) (let e : offset + (rest + width) ≡ (offset + width) + rest = omega arith in rw e fits)

  field : value % 2 ^ width < 2 ^ width
  field = mod_below value (2 ^ width) (pow_pos width)

  high : word / 2 ^ (rest + width) * 2 ^ width + value % 2 ^ width < 2 ^ (offset + width)
  high =
      let e : 2 ^ (offset + width) ≡ 2 ^ offset * 2 ^ width = pow-add 2 offset width in
      let h = mul-add-lt (word / 2 ^ (rest + width)) (2 ^ width) (value % 2 ^ width) (2 ^ offset) before field in
      rw e (omega arith)

  pub put_together :
      bit_or
      (bit_or (word / 2 ^ (rest + width) * 2 ^ width % 18446744073709551616) (bit_and value (2 ^ width - 1)) * 2 ^ rest % 18446744073709551616)
      (bit_and word (2 ^ rest - 1))
      ≡ (word / 2 ^ (rest + width) * 2 ^ width + value % 2 ^ width) * 2 ^ rest + word % 2 ^ rest
  put_together =
      let first : word / 2 ^ (rest + width) * 2 ^ width % 18446744073709551616 ≡ word / 2 ^ (rest + width) * 2 ^ width =
      shl_whole (word / 2 ^ (rest + width)) offset width 64 before (omega arith) in
      let second : (word / 2 ^ (rest + width) * 2 ^ width + value % 2 ^ width) * 2 ^ rest % 18446744073709551616
      ≡ (word / 2 ^ (rest + width) * 2 ^ width + value % 2 ^ width) * 2 ^ rest =
      shl_whole (word / 2 ^ (rest + width) * 2 ^ width + value % 2 ^ width) (offset + width) rest 64 high (omega arith) in
      let mask : bit_and value (2 ^ width - 1) ≡ value % 2 ^ width = and_mask value width in
      let mask' : bit_and word (2 ^ rest - 1) ≡ word % 2 ^ rest = and_mask word rest in
      let inner : bit_or (word / 2 ^ (rest + width) * 2 ^ width) (value % 2 ^ width) ≡ word / 2 ^ (rest + width) * 2 ^ width + value % 2 ^ width =
      or_shifted (word / 2 ^ (rest + width)) width (value % 2 ^ width) field in
      rw (mask, mask', first, inner, second)
      (or_shifted (word / 2 ^ (rest + width) * 2 ^ width + value % 2 ^ width) rest (word % 2 ^ rest) (mod_below word (2 ^ rest) (pow_pos rest)))

  pub put_together-below : (word / 2 ^ (rest + width) * 2 ^ width + value % 2 ^ width) * 2 ^ rest + word % 2 ^ rest < 2 ^ ((offset + width) + rest)
  put_together-below =
      let e : 2 ^ ((offset + width) + rest) ≡ 2 ^ (offset + width) * 2 ^ rest = pow-add 2 (offset + width) rest in
      let f = mul-add-lt (word / 2 ^ (rest + width) * 2 ^ width + value % 2 ^ width) (2 ^ rest) (word % 2 ^ rest) (2 ^ (offset + width)) high
      (mod_below word (2 ^ rest) (pow_pos rest)) in
      omega arith

-- as many bits as the number has from its first one on stand behind the zeros
first_length : (width n : ℕ) → n < 2 ^ width → (m : ℕ) × (field_first_of n width + m ≡ width) × (n < 2 ^ m) × (2 ^ m ≤ 2 * n + 1)
unfolding field_first_of
first_length zero n h = (0, omega arith, h, omega arith)
first_length (suc width) n h =
    elim (cases_lt n (2 ^ width)) [
      | inl l ↦
          let t : nat_lt n (2 ^ width) ≡ true = grind (arith, nat_tests) in
          let more = first_length width n l in
          (more.0, rw t (omega (arith, more.1)), more.2, more.3)
      | inr l ↦
          let t : nat_lt n (2 ^ width) ≡ false = grind (arith, nat_tests) in
          (suc width, rw t (omega arith), h, rw two-pow-succ (omega arith))
    ]

-- there is one such length
same_length : (n m k : ℕ) → n < 2 ^ m → 2 ^ k ≤ 2 * n + 1 → k ≤ m
same_length n m k h e = elim (cases_lt m k) [ inl l ↦ absurd (longer l) | inr l ↦ l ]
  where
    longer : m < k → ⊥
    longer l =
        let far : 2 ^ suc m ≤ 2 ^ k = pow_mono l in
        let twice : 2 ^ suc m ≡ 2 ^ m + 2 ^ m = two-pow-succ m in
        omega arith

pub first_is : (n width : ℕ) → width ≤ 32 → n < 2 ^ width
    → (32 - width ≤ count_leading_zeros 32 n) × (count_leading_zeros 32 n - (32 - width) ≡ field_first_of n width)
first_is n width w h =
    let long : n < 2 ^ 32 = (let wide : 2 ^ width ≤ 2 ^ 32 = pow_mono w in omega arith) in
    let a = leading_length 32 n long in
    let b = first_length width n h in
    let ab : a.0 ≤ b.0 = same_length n b.0 a.0 b.2 a.3 in
    let ba : b.0 ≤ a.0 = same_length n a.0 b.0 a.2 b.3 in
    let ea : count_leading_zeros 32 n + a.0 ≡ 32 = a.1 in
    let eb : field_first_of n width + b.0 ≡ width = b.1 in
    (omega arith, omega arith)
