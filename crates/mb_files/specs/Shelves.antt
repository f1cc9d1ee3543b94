-- A shelf, as contracts see it before a call and after it.
use Rattle.std.specs.Prelude.{◌≡◌, ℕ, Bool, true, is_some}
use Rattle.mb_outside.specs.declared.shelf.Shelf as shelves
use Rattle.mb_outside.specs.Counts.{Rose}
use Rattle.mb_words.specs.Words.{Text}
use Rattle.mb_files.specs.Reading.{Told}

-- What it tells, whether it is whole, and its count of faults.
pub record ShelfSeen : Type 0 where
  pub told : Told
  pub whole : Bool
  pub faults : ℕ

-- by what a shelf's type shows: a clause has that as F.Shelf
abbrev pub shelf_seen : {S : Type 0} → shelves.Ghosts S → S → ShelfSeen
shelf_seen ghosts s = record { told = ghosts.told s; whole = ghosts.whole s; faults = ghosts.faults s }

-- the count of its faults stayed
abbrev pub Stayed : ShelfSeen → ShelfSeen → Type 0
Stayed before after = after.faults ≡ before.faults

-- The shelf has failed, and tells what it told.
pub record Fails (before after : ShelfSeen) : Type 0 where
  pub rose : Rose before.faults after.faults
  pub told : after.told ≡ before.told
  pub whole : after.whole ≡ before.whole

-- a whole shelf does not tell this file
abbrev pub IsMissing : ShelfSeen → Text → Type 0
IsMissing shelf name = shelf.whole ≡ true → is_some (shelf.told name) ≡ true → ⊥
