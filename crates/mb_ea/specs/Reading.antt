-- Operands in memory.
use Rattle.std.specs.Prelude.{ℕ, ◌+◌, ◌*◌, ◌^◌, List, [], ◌∷◌, Result, Ok}
use Rattle.mb_port.specs.Routine.{Routine, Return, ◌>>=◌, failing, read}
use Rattle.mb_port.specs.Pieces.{split_of}
use Rattle.mb_port.specs.declared.types.Space.{Space}
use Rattle.mb_port.specs.declared.types.Piece.{Piece}
use Rattle.mb_port.specs.declared.types.Fault.{Fault}
use Rattle.mb_ea.specs.declared.reading.ReadFault.{ReadFault}

-- Pieces are read in their order: the big-endian number that they spell, behind the value so far.
abbrev pub read_pieces_of : Space → List Piece → ℕ → Routine (Result ℕ Fault)
read_pieces_of space [] value = Return (Ok value)
read_pieces_of space (p ∷ ps) value = do
  x ← read space p
  read_pieces_of space ps (value * 256 ^ p.len + x)

-- the fault, in an operand that begins there
abbrev pub refused_in : ℕ → Fault → ReadFault
refused_in first fault = record { fault = fault; first = first }

-- the pieces of an operand of one to five bytes
abbrev pub read_cut_of : Space → ℕ → ℕ → Routine (Result ℕ Fault)
read_cut_of space at len = read_pieces_of space (split_of at len) 0

-- an operand of one to five bytes, whose refused piece is told with the operand's first byte
unfoldable pub read_operand_of : Space → ℕ → ℕ → Routine (Result ℕ ReadFault)
read_operand_of space at len = failing (refused_in at) (read_cut_of space at len)
