-- Pieces with their parts are pending writes.
use Rattle.std.proofs.Common.{◌≡◌, ℕ, ◌-◌, ◌<◌, List, [], ◌∷◌, ◌++◌, take, drop, length, length-drop, take-append-drop, subst, sym, ap, ◌∙◌, arith}
use Rattle.std.proofs.lemmas.List.{take_rest}
use Rattle.mb_port.specs.declared.types.Piece.{Piece}
use Rattle.mb_port.specs.Pieces.{ArePieces}
use Rattle.mb_frames.specs.declared.pend.Pend.{Pend}
use Rattle.mb_writes.specs.Writing.{parts_of, ArePending, IsLeftOf}

are_pending : (pieces : List Piece) (before_end value : ℕ) → ArePieces pieces → ArePending (parts_of pieces before_end value)
are_pending [] before_end value h = tt
are_pending (p ∷ ps) before_end value h = (h.0, are_pending ps (before_end - p.len) value h.1)

pub parts_are : (pieces : List Piece) (before_end value : ℕ) (parts : List Pend) → ArePieces pieces →
    parts ≡ parts_of pieces before_end value → ArePending parts
parts_are pieces before_end value parts h e = subst ArePending (sym e) (are_pending pieces before_end value h)

-- what is left from a place on
pub left_from : (i : ℕ) (rest pending : List Pend) → i < length pending → rest ≡ take (length pending - i) (drop i pending) → IsLeftOf rest pending
left_from i rest pending h e =
    let all = e ∙ take_rest pending i in record {
      done = take i pending;
      last = ap (λ (more : List Pend). take i pending ++ more) all ∙ take-append-drop i pending;
      some = omega (arith, ap length all, length-drop {A = Pend});
    }
