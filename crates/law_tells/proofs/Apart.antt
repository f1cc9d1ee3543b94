-- The pieces of an operand are apart from each other.
use Rattle.std.specs.Prelude.{◌≡◌, ℕ, zero, suc, ◌+◌, ◌-◌, ◌*◌, ◌/◌, ◌%◌, ◌^◌, ◌<◌, ◌≤◌, ◌⊎◌, List, [], ◌∷◌, length}
use Rattle.std.proofs.Common.{arith, refl, ap, sym, subst, inl, inr}
use Rattle.std.proofs.Math.Nat.{mod-lt}
use Rattle.std.proofs.lemmas.Nat.{pow_pos}
use Rattle.std.proofs.lemmas.Bool.{cases_lt}
use Rattle.mb_port.specs.declared.types.Piece.{Piece}
use Rattle.mb_port.specs.Pieces.{IsAddressedPiece, piece_len, cut, split_of, ArePieces}
use Rattle.mb_port.proofs.Cuts.{cut_are}
use Rattle.mb_frames.specs.declared.pend.Pend.{Pend}
use Rattle.mb_frames.specs.AccessFields.{piece_of}
use Rattle.mb_writes.specs.Writing.{part_of, parts_of, pending_of}
use Rattle.law_tells.specs.Guarded.{ShareNoOffset}
use Rattle.law_tells.specs.Left.{AreOwn}

-- a piece is apart from each of these
abbrev pub ApartFrom : Piece → List Pend → Type 0
ApartFrom p [] = Unit {0}
ApartFrom p (q ∷ qs) = ShareNoOffset p (piece_of q) × ApartFrom p qs

-- each is apart from all that come after it
abbrev pub Spread : List Pend → Type 0
Spread [] = Unit {0}
Spread (p ∷ ps) = ApartFrom (piece_of p) ps × Spread ps

short : (at left : ℕ) → piece_len at left ≤ 4
short at left = grind arith

-- so many bytes behind the first byte of a piece of at most so many, and before that byte comes again
behind : (at len d more : ℕ) → len ≤ d → d + more ≤ 4096 → (at % 4096 + len ≤ (at + d) % 2 ^ 32 % 4096) ⊎ ((at + d) % 2 ^ 32 % 4096 + more ≤ at % 4096)
behind at len d more fits round = elim (cases_lt (at % 4096 + d) 4096) [ inl low ↦ inl (omega arith) | inr high ↦ inr (omega arith) ]

parts_apart : (n at len d left before_end value : ℕ) → len ≤ d → d + 4 * n ≤ 4096
    → ApartFrom (record { at = at; len = len }) (parts_of (cut n ((at + d) % 2 ^ 32) left) before_end value)
parts_apart zero at len d left before_end value fits round = tt
parts_apart (suc n) at len d zero before_end value fits round = tt
parts_apart (suc n) at len d (suc left) before_end value fits round =
    let k = piece_len ((at + d) % 2 ^ 32) (suc left) in
    let few = short ((at + d) % 2 ^ 32) (suc left) in
    let next : (at + (d + k)) % 2 ^ 32 ≡ ((at + d) % 2 ^ 32 + k) % 2 ^ 32 = omega arith in (
      behind at len d k fits (omega arith),
      subst (λ a. ApartFrom (record { at = at; len = len }) (parts_of (cut n a (suc left - k)) (before_end - k) value)) next
          (parts_apart n at len (d + k) (suc left - k) (before_end - k) value (omega arith) (omega arith)),
    )

parts_spread : (n at left before_end value : ℕ) → 4 + 4 * n ≤ 4096 → Spread (parts_of (cut n at left) before_end value)
parts_spread zero at left before_end value few = tt
parts_spread (suc n) at zero before_end value few = tt
parts_spread (suc n) at (suc left) before_end value few =
    let k = piece_len at (suc left) in
    let less = short at (suc left) in (
      parts_apart n at k k (suc left - k) (before_end - k) value (omega arith) (omega arith),
      parts_spread n ((at + k) % 2 ^ 32) (suc left - k) (before_end - k) value (omega arith),
    )

-- ---- each has a place

abbrev pub ArePlaced : List Piece → Type 0
ArePlaced [] = Unit {0}
ArePlaced (p ∷ ps) = IsAddressedPiece p × ArePlaced ps

cut_placed : (n at left : ℕ) → at < 2 ^ 32 → ArePieces (cut n at left) → ArePlaced (cut n at left)
cut_placed zero at left h are = tt
cut_placed (suc n) at zero h are = tt
cut_placed (suc n) at (suc left) h are =
    ((are.0, h), cut_placed n ((at + piece_len at (suc left)) % 2 ^ 32) (suc left - piece_len at (suc left)) (omega arith) are.1)

pub split_placed : (at len : ℕ) → at < 2 ^ 32 → ArePlaced (split_of at len)
split_placed at len h = cut_placed 3 at len h (cut_are 3 at len)

part_within : (value before_end len : ℕ) → part_of value before_end len < 2 ^ (8 * len)
part_within value before_end len = mod-lt (value / 2 ^ (8 * (before_end - len))) (pow_pos (8 * len))

-- a number's parts are the pieces' own
pub parts_own : (pieces : List Piece) (before_end value : ℕ) → ArePlaced pieces → AreOwn (parts_of pieces before_end value)
parts_own [] before_end value h = tt
parts_own (p ∷ ps) before_end value h =
    (record { placed = h.0; value = part_within value before_end p.len }, parts_own ps (before_end - p.len) value h.1)

pub pending_own : (at len value : ℕ) → at < 2 ^ 32 → AreOwn (pending_of at len value)
pending_own at len value h = parts_own (split_of at len) len value (split_placed at len h)

pub parts_as_many : (pieces : List Piece) (before_end value : ℕ) → length (parts_of pieces before_end value) ≡ length pieces
parts_as_many [] before_end value = refl
parts_as_many (p ∷ ps) before_end value = ap (λ (n : ℕ). suc n) (parts_as_many ps (before_end - p.len) value)

cut_few : (n at left : ℕ) → length (cut n at left) ≤ n
cut_few zero at left = omega arith
cut_few (suc n) at zero = omega arith
cut_few (suc n) at (suc left) =
    let more = cut_few n ((at + piece_len at (suc left)) % 2 ^ 32) (suc left - piece_len at (suc left)) in omega arith

pub pending_few : (at len value : ℕ) → length (pending_of at len value) ≤ 3
pending_few at len value =
    subst (λ (n : ℕ). n ≤ 3) (sym (parts_as_many (cut 3 at len) len value)) (cut_few 3 at len)

pub pending_spread : (at len value : ℕ) → Spread (pending_of at len value)
pending_spread at len value = parts_spread 3 at len len value (omega arith)
