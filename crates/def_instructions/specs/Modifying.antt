-- Operands that are read, changed and written back.
use Rattle.std.specs.Prelude.{ℕ}
use Rattle.mb_port.specs.Routine.{Routine, ◌>>=◌}
use Rattle.mb_port.specs.declared.types.Space.{Space}
use Rattle.mb_instr.specs.declared.size.Size.{Size}
use Rattle.mb_instr.specs.declared.operand.Ea.{Ea}
use Rattle.mb_instr.specs.declared.registers.Plain.{Plain}
use Rattle.mb_alu.specs.declared.conditions.Flagged.{Flagged}
use Rattle.def_instructions.specs.Ends.{Rowed, reading}
use Rattle.def_instructions.specs.Operands.{fetch_operand_of, finish_with_of}

-- An operand is read, the change makes of its value and the condition codes a value and condition codes, and the value
-- goes back. The operand's first extension word is at `word_at`.
abbrev pub modify_of : (ℕ → ℕ → Flagged) → Size → Ea → ℕ → Space → Plain → Routine Rowed
modify_of change size ea word_at space p = do
  operand ← reading (fetch_operand_of size ea word_at space p)
  let result = change operand.value operand.plain.ccr
  finish_with_of operand.target size result.value space (record operand.plain { ccr = result.ccr })
