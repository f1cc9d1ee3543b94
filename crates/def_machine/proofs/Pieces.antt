-- The bytes of one piece of an operand.
use Rattle.std.proofs.Common.{◌≡◌, ℕ, ◌%◌, ◌≤◌, ◌==◌, ◌&&◌, nat_le, Bool, true, false, List, length, take, arith, inl, inr}
use Rattle.std.proofs.lemmas.Bool.{cases_Bool}
use Rattle.std.proofs.lemmas.Bool.Decides.{nat_tests}
use Rattle.std.specs.Int.{bytes_high_first}
use Rattle.byteorder.specs.Endian.{big_from, big_number, big_bytes}
use Rattle.mb_port.specs.Pieces.{piece_len}
use Rattle.mb_walk.specs.Memory.{AreBytes}
use Rattle.mb_walk.proofs.LongLemmas.{one_back, two_back, four_back}

-- a piece has 4, 2 or 1 bytes
piece_cases : (P : ℕ → Type 0) (at left : ℕ) → 1 ≤ left → (4 ≤ left → P 4) → (2 ≤ left → P 2) → P 1 → P (piece_len at left)
piece_cases P at left some four two one = elim (cases_Bool ((at % 4 == 0) && nat_le 4 left)) [
  | inl h ↦ rw h (four (le_of (at % 4 == 0) 4 left h))
  | inr h ↦ rw h (elim (cases_Bool ((at % 2 == 0) && nat_le 2 left)) [
    | inl k ↦ rw k (two (le_of (at % 2 == 0) 2 left k))
    | inr k ↦ rw k one
  ])
]
  where
    le_of : (b : Bool) (n left : ℕ) → (b && nat_le n left) ≡ true → n ≤ left
    le_of true n left h = grind (arith, nat_tests)
    le_of false n left h = absurd (let z : false ≡ true = h in let y : ⊥ = cc in y)

pub piece_back : (at left : ℕ) (xs : List ℕ) → 1 ≤ left → left ≤ length xs → AreBytes xs
    → big_bytes (piece_len at left) (big_number (piece_len at left) xs) ≡ take (piece_len at left) xs
piece_back at left xs some enough bytes =
    piece_cases (λ n. bytes_high_first n (big_from 0 n xs) ≡ take n xs) at left some
    (λ h. four_back xs (omega arith) bytes) (λ h. two_back xs (omega arith) bytes) (one_back xs (omega arith) bytes)

pub piece_fits : (at left : ℕ) → 1 ≤ left → piece_len at left ≤ left
piece_fits at left some = piece_cases (λ n. n ≤ left) at left some (λ h. h) (λ h. h) some

pub piece_some : (at left : ℕ) → 1 ≤ left → 1 ≤ piece_len at left
piece_some at left some = piece_cases (λ n. 1 ≤ n) at left some (λ h. omega arith) (λ h. omega arith) (omega arith)
