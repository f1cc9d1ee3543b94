-- Many guests on one board, and turns of theirs in any order.
use Rattle.std.specs.Prelude.{◌≡◌, ◌⊎◌, ℕ, ◌+◌, ◌≤◌, ◌==◌, if◌then◌else◌, List, [], ◌∷◌, Some, slice_get, slice_set}
use Rattle.std.specs.Prelude.{All, AllPairs}
use Rattle.mb_instr.specs.declared.registers.Plain.{Plain}
use Rattle.def_runs.specs.Native.{NativeState}
use Rattle.def_guests.specs.Turns.{turn_of}
use Rattle.def_guests.specs.Seats.{Seat, end_of, turned_on, IsSeated, Scene, Takes}

-- ---- where they stand

-- No byte is in the areas of both.
abbrev pub LieApart : Seat → Seat → Type 0
LieApart g h = (end_of g ≤ h.base) ⊎ (end_of h ≤ g.base)

-- All guests stand on the board, each apart from every other.
pub record AllSeated (guests : List Seat) (ram : List ℕ) : Type 0 where
  pub seated : All (λ (g : Seat). IsSeated g ram) guests
  pub apart : AllPairs LieApart guests

-- ---- turns

-- guests on one board, and what boards have counted
pub record Stage : Type 0 where
  pub guests : List Seat
  pub ram : List ℕ
  pub native : NativeState

-- one of them with the board
abbrev pub scene_of : Seat → Stage → Scene
scene_of g s = record { guest = g; ram = s.ram; native = s.native }

-- The guest at a place takes a turn, and no other guest changes.
pub record TakesTurn (place n : ℕ) (s t : Stage) : Type 0 where
  pub before : Seat
  pub after : Seat
  pub here : slice_get s.guests place ≡ Some before
  pub turn : Takes n (scene_of before s) (scene_of after t)
  pub others : t.guests ≡ slice_set s.guests place after

-- turns in their order: of each its guest and its steps
abbrev pub Turns : Type 0
Turns = List (ℕ × ℕ)

-- They are taken one after the other.
abbrev pub TakeTurns : Turns → Stage → Stage → Type 0
TakeTurns [] s t = s ≡ t
TakeTurns ((place, n) ∷ turns) s t = (u : Stage) × TakesTurn place n s u × TakeTurns turns u t

-- the steps that these turns give a guest
abbrev pub steps_for : ℕ → Turns → ℕ
steps_for j [] = 0
steps_for j ((i, n) ∷ turns) = (if i == j then n else 0) + steps_for j turns

-- A guest has come to one at its place whose machine, shadow and counts are those of one turn of so many steps.
pub record HasTaken (place steps : ℕ) (g : Seat) (s t : Stage) : Type 0 where
  pub now : Seat
  pub here : slice_get t.guests place ≡ Some now
  pub marks : List Plain
  pub exceptions : ℕ
  pub turned : turned_on now t.ram marks exceptions ≡ turn_of g.script steps (turned_on g s.ram [] 0)
