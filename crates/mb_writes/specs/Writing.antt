-- Writes of operands.
use Rattle.std.specs.Prelude.{ℕ, zero, suc, ◌+◌, ◌-◌, ◌*◌, ◌/◌, ◌%◌, ◌^◌, ◌≤◌, ◌≡◌}
use Rattle.std.specs.Prelude.{List, [], ◌∷◌, ◌++◌, length, Result, Ok}
use Rattle.mb_port.specs.Routine.{Routine, Return, ◌>>◌, failing, write}
use Rattle.mb_port.specs.Pieces.{split_of, IsPiece}
use Rattle.mb_port.specs.declared.types.Space.{Space}
use Rattle.mb_port.specs.declared.types.Piece.{Piece}
use Rattle.mb_port.specs.declared.types.Fault.{Fault}
use Rattle.mb_instr.specs.declared.size.Size.{Size}
use Rattle.mb_instr.specs.declared.size.Size.TheVariants.{Byte, Word, Long}
use Rattle.mb_frames.specs.declared.pend.Pend.{Pend}
use Rattle.mb_frames.specs.AccessFields.{piece_of}
use Rattle.mb_writes.specs.declared.ends.WriteFault.{WriteFault}

-- of a big-endian number, the `len` bytes that begin so many bytes before its end
abbrev pub part_of : ℕ → ℕ → ℕ → ℕ
part_of value before_end len = value / 2 ^ (8 * (before_end - len)) % 2 ^ (8 * len)

-- each piece with its part of the number
abbrev pub parts_of : List Piece → ℕ → ℕ → List Pend
parts_of [] before_end value = []
parts_of (p ∷ ps) before_end value =
    record { at = p.at; len = p.len; value = part_of value before_end p.len } ∷ parts_of ps (before_end - p.len) value

-- what is to be written for an operand of one to five bytes
abbrev pub pending_of : ℕ → ℕ → ℕ → List Pend
pending_of at len value = parts_of (split_of at len) len value

-- each has the place and length of a piece
abbrev pub ArePending : List Pend → Type 0
ArePending [] = Unit {0}
ArePending (p ∷ ps) = IsPiece (piece_of p) × ArePending ps

-- the fault, with the pieces that are left
abbrev pub write_fault_at : ℕ → List Pend → Fault → WriteFault
write_fault_at first rest fault = record { fault = fault; first = first; rest = record { items = rest } }

-- Pieces are written in their order. A refused one is left, and so are all that come after it.
abbrev pub write_pieces_of : Space → ℕ → List Pend → Routine (Result (Unit {0}) WriteFault)
write_pieces_of space first [] = Return (Ok tt)
write_pieces_of space first (p ∷ ps) = do
  failing (write_fault_at first (p ∷ ps)) (write space (piece_of p) p.value)
  write_pieces_of space first ps

-- an operand of one to five bytes
unfoldable pub write_operand_of : Space → ℕ → ℕ → ℕ → Routine (Result (Unit {0}) WriteFault)
write_operand_of space at len value = write_pieces_of space at (pending_of at len value)

-- so many single bytes, at every second address
abbrev pub apart : ℕ → ℕ → List Piece
apart at zero = []
apart at (suc n) = record { at = at; len = 1 } ∷ apart ((at + 2) % 2 ^ 32) n

-- An operand whose bytes stand at every second address, each a piece. Of a long whose first byte is refused nothing is
-- left to be written.
abbrev pub write_apart_of : Space → ℕ → Size → ℕ → Routine (Result (Unit {0}) WriteFault)
write_apart_of space at Byte value = write_pieces_of space at (parts_of (apart at 1) 1 value)
write_apart_of space at Word value = write_pieces_of space at (parts_of (apart at 2) 2 value)
write_apart_of space at Long value = do
  failing (write_fault_at at []) (write space (record { at = at; len = 1 }) (part_of value 4 1))
  write_pieces_of space at (parts_of (apart ((at + 2) % 2 ^ 32) 3) 3 value)

-- where the first of them is
abbrev pub first_address : List Pend → ℕ
first_address [] = 0
first_address (p ∷ ps) = p.at

-- what a refused write left
abbrev pub complete_of : Space → List Pend → Routine (Result (Unit {0}) WriteFault)
complete_of space pending = write_pieces_of space (first_address pending) pending

-- The list is the end of the other, and not empty.
pub record IsLeftOf (rest pending : List Pend) : Type 0 where
  pub done : List Pend
  pub last : done ++ rest ≡ pending
  pub some : 1 ≤ length rest
