-- Places that are checked one after the other, and how many bytes they have.
use Rattle.std.proofs.Common.{◌≡◌, ◌+◌, List, [], ◌∷◌, ◌++◌, Ok, refl, arith}
use Rattle.mb_port.specs.Routine.{Bus, Call, run}
use Rattle.mb_port.specs.declared.types.Piece.{Piece}
use Rattle.mb_port.specs.declared.types.Place.{Place}
use Rattle.mb_port.specs.declared.types.Space.{Space}
use Rattle.mb_writes.specs.Checked.{byte_count, probe_pieces_of}

pub bytes_with : (ps : List Place) (p : Place) → byte_count (ps ++ p ∷ []) ≡ byte_count ps + p.len
bytes_with [] p = omega arith
bytes_with (q ∷ ps) p = let more = bytes_with ps p in omega arith

-- the first of some pieces is open, and the rest are checked behind it
pub probed_on : {S : Type 0} (bus : Bus S) (space : Space) (pieces rest : List Piece) (p : Piece) (places : List Place) (place : Place) (s t : S)
    → pieces ≡ p ∷ rest → bus (Call.Probe space p) s ≡ (Ok place, t)
    → run bus (probe_pieces_of space pieces places) s ≡ run bus (probe_pieces_of space rest (places ++ place ∷ [])) t
probed_on bus space pieces rest p places place s t e h = rw (e, h) refl
