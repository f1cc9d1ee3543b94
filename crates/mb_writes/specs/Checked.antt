-- Places that are checked for writing before anything is read or written there.
use Rattle.std.specs.Prelude.{ℕ, ◌+◌, ◌-◌, ◌*◌, ◌^◌, ◌≡◌, List, [], ◌∷◌, ◌++◌, All, Result, Ok, Err}
use Rattle.arrayvec.specs.ArrayVec.{ArrayVec}
use Rattle.mb_port.specs.Routine.{Routine, Return, Then, ◌>>=◌, failing, probe, get, put}
use Rattle.mb_port.specs.Pieces.{IsLength, split_of}
use Rattle.mb_port.specs.declared.types.Space.{Space}
use Rattle.mb_port.specs.declared.types.Piece.{Piece}
use Rattle.mb_port.specs.declared.types.Place.{Place}
use Rattle.mb_port.specs.declared.types.Fault.{Fault}
use Rattle.mb_ea.specs.declared.reading.ReadFault.{ReadFault}
use Rattle.mb_ea.specs.Reading.{refused_in}
use Rattle.mb_writes.specs.Writing.{part_of}

-- ---- checks, reads and writes

-- Pieces are checked for writing in their order. Where each stands comes behind the places so far.
abbrev pub probe_pieces_of : Space → List Piece → List Place → Routine (Result (List Place) Fault)
probe_pieces_of space [] places = Return (Ok places)
probe_pieces_of space (p ∷ ps) places = do
  place ← probe space p
  probe_pieces_of space ps (places ++ place ∷ [])

-- The places of an operand, which are checked for writing. A refused check is told with the operand's first byte.
abbrev pub probe_operand_of : Space → ℕ → ℕ → Routine (Result (List Place) ReadFault)
probe_operand_of space at len = failing (refused_in at) (probe_pieces_of space (split_of at len) [])

-- Checked places are read in their order: the big-endian number that they spell, behind the value so far.
abbrev pub get_places_of : List Place → ℕ → Routine ℕ
get_places_of [] value = Return value
get_places_of (p ∷ ps) value = Then (get p) (λ x. get_places_of ps (value * 256 ^ p.len + x))

-- what stands at an operand's places
abbrev pub get_operand_of : List Place → Routine ℕ
get_operand_of places = get_places_of places 0

-- Checked places are written in their order, each with its part of the number.
abbrev pub put_places_of : List Place → ℕ → ℕ → Routine (Unit {0})
put_places_of [] before_end value = Return tt
put_places_of (p ∷ ps) before_end value =
    Then (put p (part_of value before_end p.len)) (λ done. put_places_of ps (before_end - p.len) value)

-- an operand of so many bytes goes to its places
abbrev pub put_operand_of : List Place → ℕ → ℕ → Routine (Unit {0})
put_operand_of places len value = put_places_of places len value

-- ---- places

-- how many bytes the places have
abbrev pub byte_count : List Place → ℕ
byte_count [] = 0
byte_count (p ∷ ps) = p.len + byte_count ps

-- the place exists, and has the length of a piece
abbrev pub IsOpen : (Place → Type 0) → Place → Type 0
IsOpen Exists p = Exists p × IsLength p.len

-- the places exist, and have so many bytes
pub record AreOpen (Exists : Place → Type 0) (len : ℕ) (places : List Place) : Type 0 where
  pub exist : All (IsOpen Exists) places
  pub whole : byte_count places ≡ len

-- ---- what the code answers

-- a check of pieces, with the places after it
abbrev pub probed : Result (Unit {0}) Fault → List Place → Result (List Place) Fault
probed (Ok done) places = Ok places
probed (Err fault) places = Err fault

-- a check of an operand or a frame
abbrev pub located : {E : Type 0} → Result (ArrayVec Place) E → Result (List Place) E
located (Ok places) = Ok places.items
located (Err fault) = Err fault
