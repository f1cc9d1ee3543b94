-- What a function that prints does to its sink.
use Rattle.std.specs.Prelude.{◌≡◌, ℕ, ◌++◌, List, Option, Result, Ok, Err, IsErr}
use Rattle.mb_outside.specs.Counts.{Rose}
use Rattle.mb_outside.specs.Sink.{Grows}

-- The sink took the text, and has not failed.
pub record Printed (old new : Option (List ℕ)) (before now : ℕ) (text : List ℕ) : Type 0 where
  pub same : now ≡ before
  pub grows : Grows old new text

-- The sink took a first part of the text, and has failed.
pub record PrintedPart (old new : Option (List ℕ)) (before now : ℕ) (text : List ℕ) : Type 0 where
  pub rose : Rose before now
  pub part : List ℕ
  pub rest : List ℕ
  pub whole : text ≡ part ++ rest
  pub grows : Grows old new part

abbrev pub Prints : {T E : Type 0} → Option (List ℕ) → Option (List ℕ) → ℕ → ℕ → List ℕ → Result T E → Type 0
Prints old new before now text (Ok _) = Printed old new before now text
Prints old new before now text (Err _) = PrintedPart old new before now text

-- The same, going on from what was printed before: after a failure nothing more is put.
abbrev pub PrintsMore : {T E U F : Type 0} → Result T E → Option (List ℕ) → Option (List ℕ) → ℕ → ℕ → List ℕ
    → Result U F → Type 0
PrintsMore (Ok _) old new before now text result = Prints old new before now text result
PrintsMore (Err _) old new before now text result = (new ≡ old) × (now ≡ before) × IsErr result
