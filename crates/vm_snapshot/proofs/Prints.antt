-- A text printed behind another.
use Rattle.std.proofs.Common.{ℕ, ◌++◌, List}
use Rattle.std.specs.Prelude.{Option, Result, Ok, Err}
use Rattle.mb_outside.specs.Prints.{Printed, Prints}
use Rattle.mb_outside.proofs.PrintLemmas.{part_then, printed_then}

pub printed_before : {E T : Type 0} (r : Result T E) (a b c : Option (List ℕ)) (s t u : ℕ) (x y : List ℕ) → Printed a b s t x → Prints b c t u y r
    → Prints a c s u (x ++ y) r
printed_before (Ok done) a b c s t u x y p q = printed_then p q
printed_before (Err e) a b c s t u x y p q = part_then p q
