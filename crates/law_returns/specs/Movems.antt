-- What the operation and mask words of a MOVEM in the frame of an access error say.
use Rattle.std.specs.Prelude.{◌≡◌, ℕ, Bool, true, false}
use Rattle.mb_instr.specs.declared.size.Size.{Size}
use Rattle.mb_instr.specs.declared.operand.Ea.{Ea}
use Rattle.mb_instr.specs.declared.instruction.Instr.{Instr}
use Rattle.mb_instr.specs.declared.instruction.Instr.TheVariants as instr
use Rattle.mb_instr.specs.declared.instruction.Move.TheVariants as move
use Rattle.mb_instr.specs.Codes.{IsInstr}
use Rattle.mb_writes.specs.Transfers.{movem_in}
use Rattle.def_instructions.specs.Moves.{movem_by}
use Rattle.def_processor.specs.Return.{are_movem_words}
use Rattle.def_processor.specs.Step.{movem_words}

-- the two rows of MOVEM
abbrev pub movem : (is_load : Bool) → Size → Ea → ℕ → Instr
movem true size ea mask = instr.Move (move.MovemLoad size ea mask)
movem false size ea mask = instr.Move (move.MovemStore size ea mask)

-- What goes on by its words is what the instruction does.
abbrev pub WordsSayMovem : Type 0
WordsSayMovem = (is_load : Bool) (size : Size) (ea : Ea) (mask : ℕ) → IsInstr (movem is_load size ea mask)
    → movem_in (movem_words (movem is_load size ea mask)) ≡ movem_by is_load size ea mask

-- RTE knows them as those of a MOVEM.
abbrev pub WordsAreMovem : Type 0
WordsAreMovem = (is_load : Bool) (size : Size) (ea : Ea) (mask : ℕ) → IsInstr (movem is_load size ea mask)
    → are_movem_words (movem_words (movem is_load size ea mask)) ≡ true
