-- Rows of two operands, a source and a destination.
use Rattle.std.specs.Prelude.{ℕ, Bool, true, false, Option, Some, None, Result, Ok}
use Rattle.mb_port.specs.Routine.{Routine, Return, ◌>>=◌, choose}
use Rattle.mb_port.specs.declared.types.Space.{Space}
use Rattle.mb_instr.specs.declared.size.Size.{Size}
use Rattle.mb_instr.specs.declared.size.Size.TheVariants.{Long}
use Rattle.mb_instr.specs.declared.operand.Ea.{Ea}
use Rattle.mb_instr.specs.declared.operand.Ea.TheVariants.{Dn, Pre}
use Rattle.mb_instr.specs.declared.registers.Plain.{Plain}
use Rattle.mb_instr.specs.Sizes.{sign_extended}
use Rattle.mb_instr.specs.Operands.{address_number}
use Rattle.mb_instr.specs.Registers.{address_register, with_address_register}
use Rattle.mb_alu.specs.declared.conditions.Flagged.{Flagged}
use Rattle.mb_alu.specs.Sums.{add_of, sub_of, compare_of}
use Rattle.mb_ea.specs.declared.reading.ReadFault.{ReadFault}
use Rattle.def_instructions.specs.Ends.{Rowed, carried, reading}
use Rattle.def_instructions.specs.Operands.{Fetched, behind_of, fetch_operand_of, finish_with_of}
use Rattle.def_instructions.specs.Modifying.{modify_of}

-- ---- operations, of a source, a destination and the condition codes

abbrev pub added : Size → ℕ → ℕ → ℕ → Flagged
added size source destination ccr = add_of size source destination ccr false

abbrev pub subtracted : Size → ℕ → ℕ → ℕ → Flagged
subtracted size source destination ccr = sub_of size source destination ccr false

-- the same with X, and Z is only cleared
abbrev pub added_extended : Size → ℕ → ℕ → ℕ → Flagged
added_extended size source destination ccr = add_of size source destination ccr true

abbrev pub subtracted_extended : Size → ℕ → ℕ → ℕ → Flagged
subtracted_extended size source destination ccr = sub_of size source destination ccr true

-- ---- two operands

-- Two operands that were read: the source's value, and the destination.
pub record Pair : Type 0 where
  pub source : ℕ
  pub destination : Fetched

-- Two operands are read, the source first. Its words stand before those of the destination.
abbrev pub fetch_pair_of : Size → Ea → Ea → ℕ → Space → Plain → Routine (Result Pair ReadFault)
fetch_pair_of size source destination word_at space p = do
  from ← fetch_operand_of size source word_at space p
  to ← fetch_operand_of size destination (behind_of size source word_at) space from.plain
  Return (Ok (record { source = from.value; destination = to }))

-- What an operation makes of a source and a destination goes to the destination. An immediate is a source.
abbrev pub combine_of : (ℕ → ℕ → ℕ → Flagged) → Size → Ea → Ea → ℕ → Space → Plain → Routine Rowed
combine_of operation size source destination word_at space p = do
  pair ← reading (fetch_pair_of size source destination word_at space p)
  let to = pair.destination
  let result = operation pair.source to.value to.plain.ccr
  finish_with_of to.target size result.value space (record to.plain { ccr = result.ccr })

-- A source is compared with a destination, and only the condition codes change.
abbrev pub compare_pair_of : Size → Ea → Ea → ℕ → Space → Plain → Routine Rowed
compare_pair_of size source destination word_at space p = do
  pair ← reading (fetch_pair_of size source destination word_at space p)
  let to = pair.destination
  Return (carried (record to.plain { ccr = compare_of size pair.source to.value to.plain.ccr }))

-- ADD, SUB, AND and OR: from a data register to an operand, or from the operand to the register
unfoldable pub combine_either_way_of : (ℕ → ℕ → ℕ → Flagged) → ℕ → Bool → Size → Ea → ℕ → Space → Plain → Routine Rowed
combine_either_way_of operation register to_memory size ea word_at space p =
    choose to_memory (combine_of operation size (Dn register) ea word_at space p)
    (combine_of operation size ea (Dn register) word_at space p)

-- ADDX and SUBX: two data registers, or memory below two address registers
unfoldable pub chain_of : (ℕ → ℕ → ℕ → Flagged) → Size → Bool → ℕ → ℕ → ℕ → Space → Plain → Routine Rowed
chain_of operation size in_memory source destination word_at space p =
    choose in_memory (combine_of operation size (Pre source) (Pre destination) word_at space p)
    (combine_of operation size (Dn source) (Dn destination) word_at space p)

-- ---- quick values

-- ADDQ and SUBQ: of an address register all of it counts, whatever the size, and no condition code changes
abbrev pub quick_to : Option ℕ → (ℕ → ℕ → Flagged) → (ℕ → ℕ) → Size → Ea → ℕ → Space → Plain → Routine Rowed
quick_to (Some n) change moved size ea word_at space p =
    Return (carried (with_address_register p n (moved (address_register p n))))
quick_to None change moved size ea word_at space p = modify_of change size ea word_at space p

-- by the number of the address register, where the operand is one: how an operand changes, and how an address moves
unfoldable pub combine_quick_of : (ℕ → ℕ → Flagged) → (ℕ → ℕ) → Size → Ea → ℕ → Space → Plain → Routine Rowed
combine_quick_of change moved size ea word_at space p =
    quick_to (address_number ea) change moved size ea word_at space p

-- ---- operands that are only read

-- An operand is read, and its value and the registers then say how the instruction ends.
abbrev pub take_of : (ℕ → Plain → Rowed) → Size → Ea → ℕ → Space → Plain → Routine Rowed
take_of effect size ea word_at space p = do
  operand ← reading (fetch_operand_of size ea word_at space p)
  Return (effect operand.value operand.plain)

-- ADDA and SUBA: a word is extended by its sign, all of the address register counts, and no condition code changes
abbrev pub address_moved : (ℕ → ℕ → ℕ) → ℕ → Size → ℕ → Plain → Rowed
address_moved moved n size value p =
    carried (with_address_register p n (moved (address_register p n) (sign_extended size value)))

-- CMPA: the same with the comparison of longs
abbrev pub address_compared : ℕ → Size → ℕ → Plain → Rowed
address_compared n size value p =
    carried (record p { ccr = compare_of Long (sign_extended size value) (address_register p n) p.ccr })
