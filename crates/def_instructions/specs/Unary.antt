-- Rows of one operand, and immediates to CCR.
use Rattle.std.specs.Prelude.{ℕ, ◌%◌, ◌^◌, true, false}
use Rattle.mb_port.specs.Routine.{Routine, ◌>>=◌}
use Rattle.mb_port.specs.declared.types.Space.{Space}
use Rattle.mb_instr.specs.declared.size.Size.{Size}
use Rattle.mb_instr.specs.declared.size.Size.TheVariants.{Byte}
use Rattle.mb_instr.specs.declared.operand.Ea.{Ea}
use Rattle.mb_instr.specs.declared.registers.Plain.{Plain}
use Rattle.mb_instr.specs.Registers.{data_register, with_data_register}
use Rattle.mb_alu.specs.declared.conditions.Flagged.{Flagged}
use Rattle.mb_alu.specs.declared.bitwise.LogicKind.{LogicKind}
use Rattle.mb_alu.specs.declared.bitwise.LogicKind.TheVariants.{Not}
use Rattle.mb_alu.specs.Extend.{extend_of}
use Rattle.mb_alu.specs.Logic.{logic_of}
use Rattle.mb_alu.specs.Sums.{sub_of}
use Rattle.mb_ea.specs.Resolve.{resolve_of}
use Rattle.def_instructions.specs.Ends.{Rowed, carried, reading}
use Rattle.def_instructions.specs.Operands.{with_low, finish_with_of}
use Rattle.def_instructions.specs.Moves.{move_flags}

-- NEG: 0 less the operand
abbrev pub negated : Size → ℕ → ℕ → Flagged
negated size value ccr = sub_of size value 0 ccr false

-- NEGX: 0 less the operand and X
abbrev pub negated_extended : Size → ℕ → ℕ → Flagged
negated_extended size value ccr = sub_of size value 0 ccr true

-- NOT
abbrev pub complemented : Size → ℕ → ℕ → Flagged
complemented size value ccr = logic_of Not size value 0 ccr

-- CLR: 0 is moved to the operand, which is not read
abbrev pub clr_of : Size → Ea → ℕ → Space → Plain → Routine Rowed
clr_of size ea word_at space p = do
  to ← reading (resolve_of ea size word_at space p)
  finish_with_of to.target size 0 space (move_flags size 0 to.plain)

-- TST
abbrev pub tst_effect : Size → ℕ → Plain → Rowed
tst_effect size value p = carried (move_flags size value p)

-- the low bytes of a data register become these, and the condition codes too
abbrev pub put_in_register_of : ℕ → Size → Flagged → Plain → Plain
put_in_register_of n size result p =
    record (with_data_register p n (with_low size (data_register p n) result.value)) { ccr = result.ccr }

-- EXT and EXTB
abbrev pub ext_of : Size → Size → ℕ → Plain → Plain
ext_of from to register p = put_in_register_of register to (extend_of from to (data_register p register) p.ccr) p

-- ORI, ANDI and EORI to CCR: the low five bits of the word count
abbrev pub combine_with_ccr_of : LogicKind → ℕ → Plain → Plain
combine_with_ccr_of kind word p = record p { ccr = (logic_of kind Byte word p.ccr p.ccr).value % 2 ^ 5 }
