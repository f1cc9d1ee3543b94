-- No cut of an operand of at most five bytes has fewer pieces than the greedy one.
use Rattle.std.proofs.Common.{◌≡◌, ℕ, zero, suc, ◌+◌, ◌-◌, ◌%◌, ◌^◌, ◌<◌, ◌≤◌, Bool, true, false, ◌&&◌, not, List, [], ◌∷◌, ◌++◌, length, refl, ap, arith, sym}
use Rattle.std.proofs.Common.{◌∙◌}
use Rattle.std.specs.Prelude.{◌==◌, ◌||◌, nat_le}
use Rattle.std.proofs.lemmas.Bool.{leb-true}
use Rattle.std.proofs.lemmas.List.{append_cancel_left, length-append}
use Rattle.mb_port.specs.declared.types.Piece.{Piece}
use Rattle.mb_port.specs.Pieces.{piece_len, cut, addresses_from, addresses_of, IsPiece, ArePieces}
use Rattle.mb_port.proofs.Cuts.{bytes_same, bytes_join}

-- a test of all numbers below n
below : ℕ → (ℕ → Bool) → Bool
below zero p = true
below (suc n) p = p n && below n p

both_left : (a b : Bool) → (a && b) ≡ true → a ≡ true
both_left true b h = refl
both_left false b h = h

both_right : (a b : Bool) → (a && b) ≡ true → b ≡ true
both_right true b h = h
both_right false b h = absurd (cc)

below_at : (n k : ℕ) (p : ℕ → Bool) → below n p ≡ true → k < n → p k ≡ true
unfolding below
below_at zero k p h less = absurd (omega arith)
below_at (suc n) k p h less = grind (arith, both_left (p n) (below n p) h, λ (less : k < n). below_at n k p (both_right (p n) (below n p) h) less)

-- a piece of k bytes may stand at r modulo 4, and fits
may_stand : ℕ → ℕ → ℕ → Bool
may_stand r left k = nat_le k left && ((k == 1) || ((k == 2) && (r % 2 == 0)) || ((k == 4) && (r % 4 == 0)))

-- after any first piece the greedy cut of the rest has at most one piece less than that of the whole
step_test : ℕ → ℕ → ℕ → Bool
step_test r left k = not (may_stand r left k) || nat_le (length (cut 3 r left)) (1 + length (cut 3 (r + k) (left - k)))

all_steps : Bool
all_steps = below 4 (λ r. below 6 (λ left. below 5 (λ k. step_test r left k)))

all_pass : all_steps ≡ true
unfolding all_steps step_test may_stand below
all_pass = refl

passes : (r left k : ℕ) → r < 4 → left ≤ 5 → k < 5 → step_test r left k ≡ true
unfolding all_steps
passes r left k a b c =
    let below_r = below_at 4 r _ all_pass a in
    let below_left = below_at 6 left _ below_r (omega arith) in
    below_at 5 k _ below_left c

-- the cut depends on the address modulo 4
len_same : (at more left : ℕ) → at % 4 ≡ more % 4 → piece_len at left ≡ piece_len more left
len_same at more left h = grind arith

count_same : (n at more left : ℕ) → at % 4 ≡ more % 4 → length (cut n at left) ≡ length (cut n more left)
count_same zero at more left h = refl
count_same (suc n) at more zero h = refl
count_same (suc n) at more (suc left) h =
    let e = len_same at more (suc left) h in
    ap suc (ap (λ k. length (cut n ((at + k) % 2 ^ 32) (suc left - k))) e
    ∙ count_same n ((at + piece_len more (suc left)) % 2 ^ 32) ((more + piece_len more (suc left)) % 2 ^ 32)
    (suc left - piece_len more (suc left)) (omega arith))

stands : (q : Piece) (left : ℕ) → IsPiece q → q.len ≤ left → may_stand (q.at % 4) left q.len ≡ true
unfolding may_stand
stands q left h fits = grind arith

passed : (b : Bool) (m n : ℕ) → (not b || nat_le m n) ≡ true → b ≡ true → m ≤ n
passed true m n h e = leb-true m n h
passed false m n h e = absurd (cc)

step : (q : Piece) (left : ℕ) → IsPiece q → left ≤ 5 → q.len ≤ left → length (cut 3 q.at left) ≤ 1 + length (cut 3 ((q.at + q.len) % 2 ^ 32) (left - q.len))
unfolding step_test
step q left h few fits =
    let less : q.len < 5 = omega arith in
    let r : q.at % 4 < 4 = omega arith in
    let one = passed (may_stand (q.at % 4) left q.len) _ _ (passes (q.at % 4) left q.len r few less) (stands q left h fits) in
    let a : length (cut 3 q.at left) ≡ length (cut 3 (q.at % 4) left) = count_same 3 q.at (q.at % 4) left (omega arith) in
    let b : length (cut 3 ((q.at + q.len) % 2 ^ 32) (left - q.len)) ≡ length (cut 3 (q.at % 4 + q.len) (left - q.len)) =
    count_same 3 ((q.at + q.len) % 2 ^ 32) (q.at % 4 + q.len) (left - q.len) (omega arith) in
    omega arith

pub length-bytes_from : (at n : ℕ) → length (addresses_from at n) ≡ n
unfolding addresses_from
length-bytes_from at zero = refl
length-bytes_from at (suc n) = ap suc (length-bytes_from (at + 1) n)

heads : (x y n m : ℕ) (more : List ℕ) → 0 < n → addresses_from x n ++ more ≡ addresses_from y m → x % 2 ^ 32 ≡ y % 2 ^ 32
unfolding addresses_from
heads x y zero m more some e = absurd (omega arith)
heads x y (suc n) zero more some e = absurd (cc)
heads x y (suc n) (suc m) more some e = cc

-- what follows the first piece is the rest
rests : (q : Piece) (at left : ℕ) (more : List ℕ) → 0 < q.len → addresses_from q.at q.len ++ more ≡ addresses_from at left
    → (q.len ≤ left) × (more ≡ addresses_from ((q.at + q.len) % 2 ^ 32) (left - q.len)) × (q.at % 2 ^ 32 ≡ at % 2 ^ 32)
rests q at left more some e =
    let same : q.at % 2 ^ 32 ≡ at % 2 ^ 32 = heads q.at at q.len left more some e in
    let lens : q.len + length more ≡ left =
    ap (λ n. n + length more) (sym (length-bytes_from q.at q.len))
    ∙ sym (length-append (addresses_from q.at q.len) more) ∙ ap length e ∙ length-bytes_from at left in
    let fits : q.len ≤ left = omega arith in
    let sum : q.len + (left - q.len) ≡ left = omega arith in
    let joined : addresses_from q.at q.len ++ addresses_from ((q.at + q.len) % 2 ^ 32) (left - q.len) ≡ addresses_from q.at left =
    bytes_join q.len (left - q.len) q.at ∙ ap (addresses_from q.at) sum in
    (fits, append_cancel_left (addresses_from q.at q.len) _ _ (e ∙ sym (joined ∙ bytes_same left q.at at same)), same)

pub fewest : (others : List Piece) (at left : ℕ) → left ≤ 5 → ArePieces others → addresses_of others
    ≡ addresses_from at left → length (cut 3 at left) ≤ length others
unfolding addresses_of addresses_from
fewest [] at zero few are e = omega arith
fewest [] at (suc left) few are e = absurd (cc)
fewest (q ∷ qs) at left few (is, are) e =
    let (fits, more, same) = rests q at left (addresses_of qs) is.0 e in
    let rest = fewest qs ((q.at + q.len) % 2 ^ 32) (left - q.len) (omega arith) are more in
    let one = step q left is few fits in
    let moved : length (cut 3 at left) ≡ length (cut 3 q.at left) = count_same 3 at q.at left (omega arith) in
    omega arith
