-- A bus over a vector of longs, without translation: a memory for tests.
use Rattle.std.specs.Prelude.{ℕ, ◌+◌, ◌-◌, ◌/◌, ◌^◌, ◌<◌, ◌&&◌, ◌||◌, Bool, true, false, Result, Ok, Err, List, [], ◌∷◌}
use Rattle.std.specs.Prelude.{length, slice_index, slice_set, nat_le, nat_lt, bit_and, bit_or, if◌then◌else◌}
use Rattle.mb_port.specs.Routine.{Fetch, Read, Write, ReadLine, WriteLine, Probe, Get, Put, ReadMmu, SetMmu, FlushKept}
use Rattle.mb_port.specs.Routine.{Test, ResetDevices, Bus}
use Rattle.mb_port.specs.Pieces.{IsPiece, laid, unlaid}
use Rattle.mb_port.specs.declared.types.Space.{Space}
use Rattle.mb_port.specs.declared.types.Piece.{Piece}
use Rattle.mb_port.specs.declared.types.Place.{Place}
use Rattle.mb_port.specs.declared.types.Fault.{Fault}
use Rattle.mb_port.specs.declared.types.Mmu.{Mmu}
use Rattle.mb_port.specs.Registers.{with_mmu_register}

-- longs from address 0 on, a byte that no access may touch, and registers that do nothing
pub record Memory : Type 0 where
  pub longs : List ℕ
  pub hole : ℕ
  pub mmu : Mmu

-- a place, seen as the piece at the same address
abbrev pub piece_at : ℕ → ℕ → Piece
piece_at at len = record { at = at; len = len }

-- The place is a piece of one of so many longs.
abbrev pub HasPlace : ℕ → Place → Type 0
HasPlace size place = IsPiece (piece_at place.at place.len) × (place.at / 4 < size)

-- the access lies beyond the memory, or touches the hole
abbrev pub is_refused : Memory → ℕ → ℕ → Bool
is_refused m at len = nat_lt (length m.longs) (at / 4 + (len + 3) / 4) || (nat_le at m.hole && nat_lt m.hole (at + len))

abbrev pub value_at : Memory → Piece → ℕ
value_at m p = unlaid p (slice_index m.longs (p.at / 4))

abbrev pub with_long : Memory → ℕ → ℕ → Memory
with_long m i long = record m { longs = slice_set m.longs i long }

-- a long with the piece's bytes replaced
abbrev pub replaced : Piece → ℕ → ℕ → ℕ
replaced p long value = bit_or (bit_and long (2 ^ 32 - 1 - laid p (2 ^ 32 - 1))) (laid p value)

abbrev pub with_value : Memory → Piece → ℕ → Memory
with_value m p value = with_long m (p.at / 4) (replaced p (slice_index m.longs (p.at / 4)) value)

abbrev pub line_of : Memory → ℕ → List ℕ
line_of m i =
    let long = slice_index m.longs in
    long i ∷ long (i + 1) ∷ long (i + 2) ∷ long (i + 3) ∷ []

abbrev pub with_line : Memory → ℕ → List ℕ → Memory
with_line m i line =
    let one = with_long m i (slice_index line 0) in
    let two = with_long one (i + 1) (slice_index line 1) in
    let three = with_long two (i + 2) (slice_index line 2) in
    with_long three (i + 3) (slice_index line 3)

abbrev pub fault_at : Space → ℕ → ℕ → Bool → Bool → Fault
fault_at space at len code write = record { at = at; len = len; space = space; code = code; write = write; atc = false }

-- an access where it is not refused
abbrev pub unless_refused : {A : Type 0} → Memory → A × Memory → Fault → Result A Fault × Memory
unless_refused m (answer, after) fault = if is_refused m fault.at fault.len then (Err fault, m) else (Ok answer, after)

abbrev pub vector_bus : Bus Memory
vector_bus (Fetch space at) m = unless_refused m (value_at m (piece_at at 2), m) (fault_at space at 2 true false)
vector_bus (Read space p) m = unless_refused m (value_at m p, m) (fault_at space p.at p.len false false)
vector_bus (Write space p value) m = unless_refused m (tt, with_value m p value) (fault_at space p.at p.len false true)
vector_bus (ReadLine space at) m = unless_refused m (line_of m (at / 4), m) (fault_at space at 16 false false)
vector_bus (WriteLine space at line) m =
    unless_refused m (tt, with_line m (at / 4) line) (fault_at space at 16 false true)
vector_bus (Probe space p) m =
    unless_refused m (record { at = p.at; len = p.len }, m) (fault_at space p.at p.len false true)
vector_bus (Get place) m = (value_at m (piece_at place.at place.len), m)
vector_bus (Put place value) m = (tt, with_value m (piece_at place.at place.len) value)
vector_bus ReadMmu m = (m.mmu, m)
vector_bus (SetMmu which value) m = (tt, record m { mmu = with_mmu_register m.mmu which value })
vector_bus (FlushKept what) m = (tt, m)
vector_bus (Test space at write) m = (0, m)
vector_bus ResetDevices m = (tt, m)
