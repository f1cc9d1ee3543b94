-- A further guest on the board of others.
use Rattle.std.specs.Prelude.{◌≡◌, ℕ, List, [], ◌∷◌, ◌++◌, Some, slice_get, All}
use Rattle.def_guests.specs.Seats.{Seat, end_of, guested_on, IsSeated}
use Rattle.def_guests.specs.Stages.{AllSeated, LieApart}
use Rattle.vm_guest.specs.Memory.{OnlyBetween}

-- Where a guest is prepared apart from all others, these stay seated and as they were: so whatever turns all of them
-- take then, each runs alone.
abbrev pub GuestsJoin : Type 0
GuestsJoin = (guests : List Seat) (g : Seat) (before after : List ℕ) → AllSeated guests before → IsSeated g after
    → OnlyBetween g.base (end_of g) before after → All (λ (h : Seat). LieApart h g) guests
    → AllSeated (guests ++ g ∷ []) after
    × ((place : ℕ) (h : Seat) → slice_get guests place ≡ Some h → guested_on h after ≡ guested_on h before)
