-- What a locked row needs: it probes a piece, gets what stands there, and puts there what follows from that.
use Rattle.std.specs.Prelude.{◌≡◌, ℕ, Ok}
use Rattle.mb_port.specs.Routine.{Call, Probe, Get, Put, Bus, answer_in, state_in}
use Rattle.mb_port.specs.declared.types.Space.{Space}
use Rattle.mb_port.specs.declared.types.Piece.{Piece}
use Rattle.mb_port.specs.declared.types.Place.{Place}

-- In each of these states, getting and putting the place is lawful.
abbrev pub IsOpen : {S : Type 0} → (S → Type 0) → (Call → S → Type 0) → Place → Type 0
IsOpen {S} P lawful place = (s : S) → P s → lawful (Get place) s × ((value : ℕ) → lawful (Put place value) s)

-- An invariant of states, in which a probed place is open: each lawful call keeps it, a refused one too, and where a
-- probe is answered, the place that it names is open and as long as the piece.
pub record OpensProbed {S : Type 0} (P : S → Type 0) (lawful : Call → S → Type 0) (bus : Bus S) : Type 0 where
  pub call : (c : Call) (s : S) → P s → lawful c s → P (state_in (bus c s))
  pub probed : (space : Space) (piece : Piece) (s : S) (place : Place) → P s → lawful (Probe space piece) s
      → answer_in (bus (Probe space piece) s) ≡ Ok place → IsOpen P lawful place × (place.len ≡ piece.len)
