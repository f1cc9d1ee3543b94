-- The cut of an operand.
use Rattle.std.proofs.Common.{◌≡◌, ℕ, zero, suc, ◌+◌, ◌-◌, ◌%◌, ◌^◌, ◌<◌, ◌≤◌, List, [], ◌∷◌, ◌++◌, refl, ap, arith, sym, ◌∙◌, append_assoc, subst}
use Rattle.std.proofs.lemmas.List.{append-nil}
use Rattle.mb_port.specs.declared.types.Piece.{Piece}
use Rattle.mb_port.specs.Pieces.{piece_len, cut, addresses_from, addresses_of, IsPiece, ArePieces, IsLongest, IsGreedy}

cut_more : (n at left : ℕ) → 0 < left
    → cut (suc n) at left ≡ record { at = at; len = piece_len at left } ∷ cut n ((at + piece_len at left) % 2 ^ 32) (left - piece_len at left)
cut_more n at zero h = absurd (omega arith)
cut_more n at (suc left) h = refl

pub cut_step : (i at left : ℕ) (so_far all : List Piece) → i < 3 → 0 < left → so_far ++ cut (3 - i) at left ≡ all
    → (so_far ++ record { at = at; len = piece_len at left } ∷ []) ++ cut (3 - (i + 1)) ((at + piece_len at left) % 2 ^ 32) (left - piece_len at left) ≡ all
cut_step i at left so_far all few some h =
    let e : 3 - i ≡ suc (3 - (i + 1)) = omega arith in
    rw append_assoc (ap (λ more. so_far ++ more) (sym (cut_more (3 - (i + 1)) at left some) ∙ ap (λ n. cut n at left) (sym e)) ∙ h)

pub cut_none : (n at : ℕ) → cut n at 0 ≡ []
cut_none zero at = refl
cut_none (suc n) at = refl

pub cut_end : (i at left : ℕ) (so_far all : List Piece) → 3 ≤ i → so_far ++ cut (3 - i) at left ≡ all → so_far ≡ all
cut_end i at left so_far all all_done h =
    let e : 3 - i ≡ 0 = omega arith in
    sym (append-nil so_far) ∙ ap (λ n. so_far ++ cut n at left) (sym e) ∙ h

-- a cut that ends early
pub cut_break : (i at left : ℕ) (so_far all : List Piece) → left ≡ 0 → so_far ++ cut (3 - i) at left ≡ all → so_far ≡ all
cut_break i at left so_far all none h =
    sym (append-nil so_far) ∙ ap (λ more. so_far ++ more) (sym (cut_none (3 - i) at)) ∙ ap (λ n. so_far ++ cut (3 - i) at n) (sym none) ∙ h

piece_is : (at left : ℕ) → 0 < left → IsPiece (record { at = at; len = piece_len at left })
piece_is at left h = grind arith

piece_fits : (at left : ℕ) → 0 < left → (0 < piece_len at left) × (piece_len at left ≤ left)
piece_fits at left h = grind arith

piece_longest : (at left len : ℕ) → IsPiece (record { at = at; len = len }) → len ≤ left → len ≤ piece_len at left
piece_longest at left len h fits = grind arith

is_longest : (at left : ℕ) → 0 < left → IsLongest at left (record { at = at; len = piece_len at left })
is_longest at left h = record {
  here = refl;
  aligned = piece_is at left h;
  fits = (piece_fits at left h).1;
  longest = λ q is here fits. piece_longest at left q.len (subst (λ n. IsPiece (record { at = n; len = q.len })) here is) fits;
}

pub cut_are : (n at left : ℕ) → ArePieces (cut n at left)
cut_are zero at left = tt
cut_are (suc n) at zero = tt
cut_are (suc n) at (suc left) = (piece_is at (suc left) (omega arith), cut_are n _ _)

-- where there are pieces enough, their number does not matter
pub cut_enough : (n m at left : ℕ) → left ≤ n → left ≤ m → cut n at left ≡ cut m at left
cut_enough zero m at zero h k = sym (cut_none m at)
cut_enough zero m at (suc left) h k = absurd (omega arith)
cut_enough (suc n) m at zero h k = sym (cut_none m at)
cut_enough (suc n) zero at (suc left) h k = absurd (omega arith)
cut_enough (suc n) (suc m) at (suc left) h k =
    let fits = piece_fits at (suc left) (omega arith) in
    ap (λ more. record { at = at; len = piece_len at (suc left) } ∷ more) (cut_enough n m _ _ (omega arith) (omega arith))

-- the first piece of a whole cut, and the cut of the bytes behind it
pub cut_first : (at left : ℕ) → 0 < left
    → cut left at left ≡ record { at = at; len = piece_len at left }
    ∷ cut (left - piece_len at left) ((at + piece_len at left) % 2 ^ 32) (left - piece_len at left)
cut_first at zero h = absurd (omega arith)
cut_first at (suc left) h =
    let fits = piece_fits at (suc left) h in
    ap (λ more. record { at = at; len = piece_len at (suc left) } ∷ more) (cut_enough left _ _ _ (omega arith) (omega arith))

-- what is left after a piece, and where it begins
left_after : ℕ → ℕ → ℕ
left_after at left = left - piece_len at left

after : ℕ → ℕ → ℕ
after at left = (at + piece_len at left) % 2 ^ 32

-- Three pieces leave nothing of five bytes: at most four are left after the first, and two after the second.
first : (at left : ℕ) → left ≤ 5 → (left_after at left ≤ 4) × (2 ≤ left_after at left → after at left % 2 ≡ 0)
unfolding left_after after
first at left h = grind arith

second : (at left : ℕ) → left ≤ 4 → (2 ≤ left → at % 2 ≡ 0) → (left_after at left ≤ 2) × (2 ≤ left_after at left → after at left % 2 ≡ 0)
unfolding left_after after
second at left h even = grind arith

third : (at left : ℕ) → left ≤ 2 → (2 ≤ left → at % 2 ≡ 0) → left_after at left ≡ 0
unfolding left_after after
third at left h even = grind arith

-- what so many pieces of the cut leave
pub rest_of : ℕ → ℕ → ℕ → ℕ
rest_of zero at left = left
rest_of (suc n) at left = rest_of n (after at left) (left_after at left)

pub none_left : (at left : ℕ) → left ≤ 5 → rest_of 3 at left ≡ 0
unfolding rest_of
none_left at left h =
    let one = first at left h in
    let two = second (after at left) (left_after at left) one.0 one.1 in
    third (after (after at left) (left_after at left)) (left_after (after at left) (left_after at left)) two.0 two.1

pub cut_greedy : (n at left : ℕ) → rest_of n at left ≡ 0 → IsGreedy at left (cut n at left)
unfolding rest_of left_after after IsGreedy
cut_greedy zero at left h = h
cut_greedy (suc n) at zero h = refl
cut_greedy (suc n) at (suc left) h = (is_longest at (suc left) (omega arith), cut_greedy n _ _ h)

-- the same addresses modulo 2^32
pub bytes_same : (n at more : ℕ) → at % 2 ^ 32 ≡ more % 2 ^ 32 → addresses_from at n ≡ addresses_from more n
unfolding addresses_from
bytes_same zero at more h = refl
bytes_same (suc n) at more h = ap (λ a. a ∷ addresses_from (at + 1) n) h ∙ ap (λ l. more % 2 ^ 32 ∷ l) (bytes_same n (at + 1) (more + 1) (omega arith))

pub bytes_join : (n m at : ℕ) → addresses_from at n ++ addresses_from ((at + n) % 2 ^ 32) m ≡ addresses_from at (n + m)
unfolding addresses_from
bytes_join zero m at = bytes_same m ((at + 0) % 2 ^ 32) at (omega arith) ∙ ap (addresses_from at) (omega arith)
bytes_join (suc n) m at =
    let e : suc n + m ≡ suc (n + m) = omega arith in
    rw e (ap (λ l. at % 2 ^ 32 ∷ l)
    (ap (λ l. addresses_from (at + 1) n ++ l) (bytes_same m ((at + suc n) % 2 ^ 32) ((at + 1 + n) % 2 ^ 32) (omega arith)) ∙ bytes_join n m (at + 1)))

pub cut_bytes : (n at left : ℕ) → rest_of n at left ≡ 0 → addresses_of (cut n at left) ≡ addresses_from at left
unfolding rest_of left_after after addresses_of addresses_from
cut_bytes zero at left h = rw h refl
cut_bytes (suc n) at zero h = refl
cut_bytes (suc n) at (suc left) h =
    let k = piece_len at (suc left) in
    let fits = (piece_fits at (suc left) (omega arith)).1 in
    let e : k + (suc left - k) ≡ suc left = omega arith in
    let whole : addresses_from at k ++ addresses_of (cut n (after at (suc left)) (suc left - k)) ≡ addresses_from at (suc left) =
    ap (λ l. addresses_from at k ++ l) (cut_bytes n _ _ h) ∙ bytes_join k (suc left - k) at ∙ ap (addresses_from at) e in
    whole

-- one more piece of the cut, and its end
pub ruleset cutting = (cut_step, cut_none)
