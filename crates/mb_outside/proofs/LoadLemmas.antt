-- A file's front grows by its next piece.
use Rattle.std.proofs.Common.{◌≡◌, ◌∙◌, ◌≤◌, ◌+◌, ℕ, List, ◌++◌, length, take, ap, sym, arith, length-append, length-take}
use Rattle.std.proofs.Math.Seq.{take-add}
use Rattle.std.specs.Prelude.{Option, None, Some, IfSome}
use Rattle.mb_outside.specs.Shelf.{PieceOf}

-- `items` are the first of `bytes`.
pub record IsFront (items bytes : List ℕ) : Type 0 where
  pub within : length items ≤ length bytes
  pub front : items ≡ take (length items) bytes

pub length-append-take : (items buf : List ℕ) (n : ℕ) → n ≤ length buf → length (items ++ take n buf) ≡ length items + n
length-append-take items buf n fits = grind (arith, length-append, length-take)

IsFront-append : (bytes items buf : List ℕ) (n : ℕ) → n ≤ length buf → IsFront items bytes
    → PieceOf bytes (length items) buf n → IsFront (items ++ take n buf) bytes
IsFront-append bytes items buf n fits front piece = record {
  within = let size = length-append-take items buf n fits in omega (arith, front.within, piece.within);
  front =
      ap (λ (xs : List ℕ). xs ++ take n buf) front.front
      ∙ ap (λ (xs : List ℕ). take (length items) bytes ++ xs) piece.given
      ∙ sym (take-add (length items) n bytes)
      ∙ ap (λ k. take k bytes) (sym (length-append-take items buf n fits));
}

pub IfSome-IsFront-append : (told : Option (List ℕ)) (items buf : List ℕ) (n : ℕ) → n ≤ length buf
    → IfSome told (λ bytes. IsFront items bytes)
    → IfSome told (λ bytes. PieceOf bytes (length items) buf n)
    → IfSome told (λ bytes. IsFront (items ++ take n buf) bytes)
IfSome-IsFront-append None items buf n fits front piece = tt
IfSome-IsFront-append (Some bytes) items buf n fits front piece = IsFront-append bytes items buf n fits front piece
