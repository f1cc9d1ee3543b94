-- ABCD, SBCD and NBCD, PACK and UNPK.
use Rattle.std.specs.Prelude.{ℕ, Bool, true, false}
use Rattle.mb_port.specs.Routine.{Routine, ◌>>=◌}
use Rattle.mb_port.specs.declared.types.Space.{Space}
use Rattle.mb_instr.specs.declared.size.Size.{Size}
use Rattle.mb_instr.specs.declared.size.Size.TheVariants.{Byte}
use Rattle.mb_instr.specs.declared.operand.Ea.{Ea}
use Rattle.mb_instr.specs.declared.operand.Ea.TheVariants.{Dn, Pre}
use Rattle.mb_instr.specs.declared.registers.Plain.{Plain}
use Rattle.mb_instr.specs.Sizes.{low_of}
use Rattle.mb_alu.specs.declared.conditions.Flagged.{Flagged}
use Rattle.mb_fields.specs.Decimals.{nbcd_of}
use Rattle.mb_ea.specs.Resolve.{resolve_of}
use Rattle.def_instructions.specs.Ends.{Rowed, reading}
use Rattle.def_instructions.specs.Operands.{fetch_operand_of, finish_with_of}

-- NBCD: 0 less the digits of the byte and X
abbrev pub negate_decimal_of : ℕ → ℕ → Flagged
negate_decimal_of value ccr = nbcd_of (low_of Byte value) ccr

-- an operand of a row that has two forms: Dy,Dx and -(Ay),-(Ax)
abbrev pub paired : Bool → ℕ → Ea
paired false n = Dn n
paired true n = Pre n

-- ABCD and SBCD: the source's byte is read first, then the destination's, where the result goes
abbrev pub decimal_of : (ℕ → ℕ → ℕ → Flagged) → ℕ → Bool → ℕ → ℕ → Space → Plain → Routine Rowed
decimal_of operation x in_memory y word_at space p = do
  source ← reading (fetch_operand_of Byte (paired in_memory y) word_at space p)
  destination ← reading (fetch_operand_of Byte (paired in_memory x) word_at space source.plain)
  let result = operation source.value destination.value destination.plain.ccr
  finish_with_of destination.target Byte result.value space (record destination.plain { ccr = result.ccr })

-- PACK, from a word to a byte, and UNPK, from a byte to a word: the source is read, and its digits with the adjustment
-- go to the destination, which is not read. No condition code changes.
abbrev pub repack_of : (ℕ → ℕ → ℕ) → Size → Size → ℕ → Bool → ℕ → ℕ → ℕ → Space → Plain → Routine Rowed
repack_of operation from to x in_memory y adjust word_at space p = do
  source ← reading (fetch_operand_of from (paired in_memory y) word_at space p)
  destination ← reading (resolve_of (paired in_memory x) to word_at space source.plain)
  finish_with_of destination.target to (operation source.value adjust) space destination.plain
