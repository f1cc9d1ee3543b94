-- What the cut of an operand is.
use Rattle.std.proofs.Common.{◌≡◌, ℕ, ◌≤◌, ◌+◌, ◌-◌, ◌%◌, ◌^◌, zero, suc, List, [], ◌∷◌, ◌++◌, length, refl, ap, arith, sym, ◌∙◌, subst}
use Rattle.std.proofs.lemmas.List.{length-append}
use Rattle.mb_port.specs.declared.types.Piece.{Piece}
use Rattle.mb_port.specs.Pieces.{piece_len, cut, split_of, total, addresses_from, addresses_of, ArePieces, IsGreedy, IsFewest}
use Rattle.mb_port.proofs.Cuts.{cut_end, cut_break, cut_are, cut_greedy, cut_bytes, none_left}
use Rattle.mb_port.proofs.Fewest.{fewest, length-bytes_from}

length-bytes_of : (ps : List Piece) → length (addresses_of ps) ≡ total ps
unfolding addresses_of
length-bytes_of [] = refl
length-bytes_of (p ∷ ps) =
    length-append (addresses_from p.at p.len) (addresses_of ps) ∙ ap (λ n. n + length (addresses_of ps)) (length-bytes_from p.at p.len)
    ∙ ap (λ n. p.len + n) (length-bytes_of ps)

length-cut : (n at left : ℕ) → length (cut n at left) ≤ n
length-cut zero at left = omega arith
length-cut (suc n) at zero = omega arith
length-cut (suc n) at (suc left) =
    let h = length-cut n ((at + piece_len at (suc left)) % 2 ^ 32) (suc left - piece_len at (suc left)) in
    omega arith

some : (at left : ℕ) → 1 ≤ left → 1 ≤ length (cut 3 at left)
some at zero h = absurd (omega arith)
some at (suc left) h = omega arith

-- all that `split` promises
pub record IsSplit (at len : ℕ) (all : List Piece) : Type 0 where
  pub pieces : all ≡ split_of at len
  pub aligned : ArePieces all
  pub bytes : addresses_of all ≡ addresses_from at len
  pub whole : total all ≡ len
  pub greedy : IsGreedy at len all
  pub fewest : IsFewest all
  pub few : (1 ≤ length all) × (length all ≤ 3)

cut_split : (at len : ℕ) → 1 ≤ len → len ≤ 5 → IsSplit at len (cut 3 at len)
cut_split at len least most =
    let none = none_left at len most in
    let bytes = cut_bytes 3 at len none in
    record {
      pieces = refl;
      aligned = cut_are 3 at len;
      bytes = bytes;
      whole = sym (length-bytes_of (cut 3 at len)) ∙ ap length bytes ∙ length-bytes_from at len;
      greedy = cut_greedy 3 at len none;
      fewest = λ others are same. fewest others at len most are (same ∙ bytes);
      few = (some at len least, length-cut 3 at len);
    }

from_cut : (at len : ℕ) (pieces : List Piece) → 1 ≤ len → len ≤ 5 → pieces ≡ cut 3 at len → IsSplit at len pieces
from_cut at len pieces least most e = subst (λ (ps : List Piece). IsSplit at len ps) (sym e) (cut_split at len least most)

-- after three pieces, and where nothing is left
pub after_three : (i next left at len : ℕ) (pieces : List Piece) → 1 ≤ len → len ≤ 5 → 3 ≤ i
    → pieces ++ cut (3 - i) next left ≡ cut 3 at len → IsSplit at len pieces
after_three i next left at len pieces least most all_done told = from_cut at len pieces least most (cut_end i next left pieces (cut 3 at len) all_done told)

pub after_last : (i next left at len : ℕ) (pieces : List Piece) → 1 ≤ len → len ≤ 5 → left ≡ 0
    → pieces ++ cut (3 - i) next left ≡ cut 3 at len → IsSplit at len pieces
after_last i next left at len pieces least most none told = from_cut at len pieces least most (cut_break i next left pieces (cut 3 at len) none told)
