-- How many pieces a frame has.
use Rattle.std.proofs.Common.{◌≡◌, ℕ, zero, suc, ◌+◌, ◌-◌, ◌*◌, ◌%◌, ◌^◌, ◌<◌, ◌≤◌, ◌⊎◌, inl, inr, length, arith}
use Rattle.mb_port.specs.Pieces.{piece_len, cut}
use Rattle.mb_frames.specs.declared.places.TheConstants.{LONGEST}
use Rattle.mb_entry.specs.declared.places.TheConstants.{MOST_PIECES}

piece_some : (at left : ℕ) → 0 < left → 0 < piece_len at left
piece_some at left h = grind arith

-- no more pieces than bytes
no_more : (n at left : ℕ) → length (cut n at left) ≤ left
no_more zero at left = omega arith
no_more (suc n) at zero = omega arith
no_more (suc n) at (suc left) =
    let k = piece_len at (suc left) in
    let some = piece_some at (suc left) (omega arith) in
    let rest = no_more n ((at + k) % 2 ^ 32) (suc left - k) in
    omega arith

-- a piece at a multiple of 4: four bytes where there are so many; else at most one byte is left, of three
aligned_long : (at left : ℕ) → at % 4 ≡ 0 → 4 ≤ left → piece_len at left ≡ 4
aligned_long at left h k = grind arith

aligned_short : (at left : ℕ) → at % 4 ≡ 0 → left < 4 → 0 < left → 4 * (left - piece_len at left) + 4 ≤ left + 5
aligned_short at left h k some = grind arith

four : (left : ℕ) → (4 ≤ left) ⊎ (left < 4)
four left = grind arith

aligned_few : (n at left : ℕ) → at % 4 ≡ 0 → 4 * length (cut n at left) ≤ left + 5
aligned_few zero at left h = omega arith
aligned_few (suc n) at zero h = omega arith
aligned_few (suc n) at (suc left) h =
    let k = piece_len at (suc left) in
    elim (four (suc left)) [
      | inl long ↦
          let e = aligned_long at (suc left) h long in
          let rest = aligned_few n ((at + k) % 2 ^ 32) (suc left - k) (omega arith) in
          omega arith
      | inr short ↦
          let some = aligned_short at (suc left) h short (omega arith) in
          let rest = no_more n ((at + k) % 2 ^ 32) (suc left - k) in
          omega arith
    ]

-- a word at an even place, and then longs
even_next : (at left : ℕ) → at % 4 ≡ 2 → 2 ≤ left → piece_len at left ≡ 2
even_next at left h k = grind arith

even_few : (n at left : ℕ) → at % 4 ≡ 2 → 4 * length (cut n at left) ≤ left + 7
even_few zero at left h = omega arith
even_few (suc n) at zero h = omega arith
even_few (suc n) at (suc zero) h = let rest = no_more (suc n) at 1 in omega arith
even_few (suc n) at (suc (suc left)) h =
    let k = piece_len at (suc (suc left)) in
    let e = even_next at (suc (suc left)) h (omega arith) in
    let rest = aligned_few n ((at + k) % 2 ^ 32) (suc (suc left) - k) (omega arith) in
    omega arith

odd_next : (at left : ℕ) → at % 2 ≡ 1 → piece_len at left ≡ 1
odd_next at left h = grind arith

even_parity : (at : ℕ) → at % 2 ≡ 0 → (at % 4 ≡ 0) ⊎ (at % 4 ≡ 2)
even_parity at h = grind arith

even_any : (n at left : ℕ) → at % 2 ≡ 0 → 4 * length (cut n at left) ≤ left + 7
even_any n at left h =
    elim (even_parity at h) [
      | inl whole ↦ let few = aligned_few n at left whole in omega arith
      | inr half ↦ even_few n at left half
    ]

odd_few : (n at left : ℕ) → at % 2 ≡ 1 → 4 * length (cut n at left) ≤ left + 10
odd_few zero at left h = omega arith
odd_few (suc n) at zero h = omega arith
odd_few (suc n) at (suc left) h =
    let k = piece_len at (suc left) in
    let e = odd_next at (suc left) h in
    let rest = even_any n ((at + k) % 2 ^ 32) (suc left - k) (omega arith) in
    omega arith

halves : (at : ℕ) → (at % 2 ≡ 0) ⊎ (at % 2 ≡ 1)
halves at = grind arith

-- a frame has no more bytes than the longest, and so few pieces
pub few_pieces : (n at left : ℕ) → left ≤ LONGEST → length (cut n at left) ≤ MOST_PIECES
few_pieces n at left h =
    elim (halves at) [
      | inl even ↦ let few = even_any n at left even in omega arith
      | inr odd ↦ let few = odd_few n at left odd in omega arith
    ]
