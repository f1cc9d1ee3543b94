-- What the frame of a board's exception says of the step that it ended: the cause, and what an access error left to do.
use Rattle.std.specs.Prelude.{ℕ, ◌+◌, ◌-◌, ◌/◌, ◌%◌, ◌^◌, ◌==◌, ◌&&◌, nat_le, nat_lt, Bool, true, false, if◌then◌else◌}
use Rattle.std.specs.Prelude.{List, [], ◌∷◌, ◌++◌}
use Rattle.mb_port.specs.declared.types.Piece.{Piece}
use Rattle.mb_port.specs.Bits.{has_bit}
use Rattle.mb_port.specs.Pieces.{unlaid}
use Rattle.mb_instr.specs.declared.vectors.TheConstants.{FIRST_TRAP}
use Rattle.mb_frames.specs.declared.status_bits.TheConstants.{SIZE, V}
use Rattle.mb_frames.specs.declared.frame.Access.{Access}
use Rattle.mb_frames.specs.declared.frame.Frame.{Frame}
use Rattle.mb_frames.specs.declared.frame.Frame.TheVariants as frame
use Rattle.mb_frames.specs.declared.pend.Pend.{Pend}
use Rattle.def_processor.specs.declared.entering.Cause.{Cause}
use Rattle.def_processor.specs.Raise.{cause_at}
use Rattle.def_processor.specs.Return.{continues}
use Rattle.def_runs.specs.declared.left.LeftOver.{LeftOver}
use Rattle.def_runs.specs.declared.left.LeftOver.TheVariants.{Again, Writes, Line, Movem}
use Rattle.mb_frames.specs.Layout.{pc_of}

-- ---- the cause

-- the vectors of TRAP #0 to TRAP #15
abbrev pub is_trap_instruction : ℕ → Bool
is_trap_instruction vector = nat_le FIRST_TRAP vector && nat_lt vector (FIRST_TRAP + 16)

-- The address of an instruction that was not carried out is the PC; TRAP is one word, and the PC is the next one's.
abbrev pub address_by : (vector pc : ℕ) → ℕ
address_by vector pc = if is_trap_instruction vector then (pc + (2 ^ 32 - 2)) % 2 ^ 32 else pc

-- the address of the instruction, stacked or not
abbrev pub address_in : Frame → (vector : ℕ) → ℕ
address_in (frame.Short sr pc offset) vector = address_by vector pc
address_in (frame.Throwaway sr pc offset) vector = address_by vector pc
address_in (frame.Address sr pc offset address) vector = address
address_in (frame.Access sr pc offset access) vector = address_by vector pc

-- the cause of an instruction's exception
abbrev pub cause_in : Frame → (vector : ℕ) → Cause
cause_in f vector = cause_at vector (pc_of f) (address_in f vector)

-- ---- writebacks

-- V of a writeback's status
abbrev pub is_valid : ℕ → Bool
is_valid status = has_bit status V

-- SIZE: 00 long, 01 byte, 10 word, 11 line, as bytes
abbrev pub length_by : ℕ → ℕ
length_by code = if code == 1 then 1 else if code == 2 then 2 else if code == 3 then 16 else 4

-- SIZE of a writeback's status
abbrev pub length_in : ℕ → ℕ
length_in status = length_by (status / SIZE % 4)

-- the first writeback has its data where the memory's long has them, the others have them in the low bytes
abbrev pub first_pend : Access → Pend
first_pend a =
    let piece : Piece = record { at = a.wb1a; len = length_in a.wb1s } in
    record { at = a.wb1a; len = length_in a.wb1s; value = unlaid piece a.wb1d }

abbrev pub second_pend : Access → Pend
second_pend a = record { at = a.wb2a; len = length_in a.wb2s; value = a.wb2d }

abbrev pub third_pend : Access → Pend
third_pend a = record { at = a.wb3a; len = length_in a.wb3s; value = a.wb3d }

abbrev pub if_valid : Bool → Pend → List Pend
if_valid true p = p ∷ []
if_valid false p = []

-- the pieces that are still to be written, in order
abbrev pub pending_in : Access → List Pend
pending_in a =
    if_valid (is_valid a.wb1s) (first_pend a) ++ if_valid (is_valid a.wb2s) (second_pend a)
    ++ if_valid (is_valid a.wb3s) (third_pend a)

-- ---- what was left to do

-- where the first writeback is valid: a line, or pieces
abbrev pub by_writeback : Access → LeftOver
by_writeback a =
    if length_in a.wb1s == 16 then Line a.wb1a (a.wb1d ∷ a.pd1 ∷ a.pd2 ∷ a.pd3 ∷ [])
    else Writes (record { items = pending_in a }) a.ea

-- CM says that it was a MOVEM
abbrev pub left_in : Access → LeftOver
left_in a =
    if continues a then Movem a.pd2 a.ea a.pd3 a.pd1
    else if is_valid a.wb1s then by_writeback a else Again
