-- What keeps a guest's shadow truthful.
use Rattle.std.specs.Prelude.{◌≡◌, ℕ, [], ◌∷◌}
use Rattle.mb_port.specs.Routine.{Call, run}
use Rattle.law_routines.specs.Tree.{Tree, routine_of}
use Rattle.mb_model.specs.Keeping.{Apart, list_of}
use Rattle.def_machine.specs.declared.reference.Reference.{Reference}
use Rattle.def_guests.specs.Guests.{Guest}
use Rattle.def_guests.specs.Bus.{guest_bus}
use Rattle.def_guests.specs.Refills.{after_access}
use Rattle.law_held.specs.Sound.{Sound}

-- One list is kept, with at most one entry a page, and the shadow says what it gives.
pub record Fine (size : ℕ) (g : Guest) : Type 0 where
  pub sound : Sound size g
  pub one : g.world.kept ≡ list_of 0 g.world.kept ∷ []
  pub apart : Apart (list_of 0 g.world.kept)

-- Each access keeps it, whatever is searched, filled, dropped and put.
abbrev pub AccessesKeepTruth : Type 0
AccessesKeepTruth = (size : ℕ) (r : Reference) (g : Guest) → Fine size g → Fine size (after_access r g)

-- So does each call of the guest,
abbrev pub CallsKeepTruth : Type 0
CallsKeepTruth = (size : ℕ) (c : Call) (g : Guest) → Fine size g → let (_, after) = guest_bus c g in Fine size after

-- and so does a run of whatever it calls.
abbrev pub RunsKeepTruth : Type 0 → Type 0
RunsKeepTruth A = (size : ℕ) (m : Tree A) (g : Guest) → Fine size g
    → let (_, after) = run guest_bus (routine_of m) g in Fine size after
