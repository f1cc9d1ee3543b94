-- Pieces of operands.
use Rattle.std.specs.Prelude.{ℕ, zero, suc, ◌+◌, ◌-◌, ◌*◌, ◌/◌, ◌%◌, ◌^◌, ◌<◌, ◌≤◌, ◌≡◌, ◌≢◌, List, [], ◌∷◌, ◌++◌}
use Rattle.std.specs.Prelude.{length, ◌&&◌, ◌==◌, nat_le, if◌then◌else◌}
use Rattle.mb_port.specs.declared.types.Piece.{Piece}

-- 1, 2 or 4 bytes
abbrev pub IsLength : ℕ → Type 0
IsLength len = (0 < len) × (len ≤ 4) × (len ≢ 3)

-- 1, 2 or 4 bytes, at a multiple of that
abbrev pub IsAligned : ℕ → ℕ → Type 0
IsAligned at len = (0 < len) × (len ≤ 4) × (len ≢ 3) × (2 ≤ len → at % 2 ≡ 0) × (4 ≤ len → at % 4 ≡ 0)

abbrev pub IsPiece : Piece → Type 0
IsPiece p = IsAligned p.at p.len

-- a piece at an address of 32 bits
abbrev pub IsAddressedPiece : Piece → Type 0
IsAddressedPiece p = IsPiece p × (p.at < 2 ^ 32)

abbrev pub ArePieces : List Piece → Type 0
ArePieces [] = Unit {0}
ArePieces (p ∷ ps) = IsPiece p × ArePieces ps

-- how many bytes they have
abbrev pub total : List Piece → ℕ
total [] = 0
total (p ∷ ps) = p.len + total ps

-- the length of the longest piece that begins here and fits into so many bytes
abbrev pub piece_len : ℕ → ℕ → ℕ
piece_len at left = if (at % 4 == 0) && nat_le 4 left then 4 else (if (at % 2 == 0) && nat_le 2 left then 2 else 1)

-- the greedy cut into at most so many pieces
abbrev pub cut : ℕ → ℕ → ℕ → List Piece
cut zero at left = []
cut (suc n) at zero = []
cut (suc n) at (suc left) =
    let len = piece_len at (suc left) in
    record { at = at; len = len } ∷ cut n ((at + len) % 2 ^ 32) (suc left - len)

-- the greedy cut of an operand of one to five bytes
abbrev pub split_of : ℕ → ℕ → List Piece
split_of at len = cut 3 at len

-- the addresses of so many bytes, in order
unfoldable pub addresses_from : ℕ → ℕ → List ℕ
addresses_from at zero = []
addresses_from at (suc n) = at % 2 ^ 32 ∷ addresses_from (at + 1) n

-- the addresses of the pieces' bytes, in order
unfoldable pub addresses_of : List Piece → List ℕ
addresses_of [] = []
addresses_of (p ∷ ps) = addresses_from p.at p.len ++ addresses_of ps

-- The piece begins here and fits, and no longer one does.
pub record IsLongest (at left : ℕ) (p : Piece) : Type 0 where
  pub here : p.at ≡ at
  pub aligned : IsPiece p
  pub fits : p.len ≤ left
  pub longest : (q : Piece) → IsPiece q → q.at ≡ at → q.len ≤ left → q.len ≤ p.len

-- Each piece is the longest where it begins, and nothing is left behind the last.
unfoldable pub IsGreedy : ℕ → ℕ → List Piece → Type 0
IsGreedy at left [] = left ≡ 0
IsGreedy at left (p ∷ ps) = IsLongest at left p × IsGreedy ((at + p.len) % 2 ^ 32) (left - p.len) ps

-- No pieces that have these bytes in order are fewer.
abbrev pub IsFewest : List Piece → Type 0
IsFewest pieces =
    (others : List Piece) → ArePieces others → addresses_of others ≡ addresses_of pieces → length pieces ≤ length others

-- how many values a piece can have
abbrev pub span_of : Piece → ℕ
span_of p = 2 ^ (8 * p.len)

-- what the piece's last byte counts for in the long at its address rounded down to a multiple of 4
abbrev pub weight_of : Piece → ℕ
weight_of p = 2 ^ (8 * (4 - p.at % 4 - p.len))

-- the piece's value in its long: its bytes where they stand in memory, the rest 0
abbrev pub laid : Piece → ℕ → ℕ
laid p value = value % span_of p * weight_of p

-- the value whose bytes stand there
abbrev pub unlaid : Piece → ℕ → ℕ
unlaid p long = long / weight_of p % span_of p
