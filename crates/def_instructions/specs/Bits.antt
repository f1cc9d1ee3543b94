-- BTST, BCHG, BCLR and BSET.
use Rattle.std.specs.Prelude.{ℕ, ◌+◌, ◌*◌, ◌/◌, ◌%◌, ◌^◌, Bool, true, false, not}
use Rattle.std.specs.Int.{from_bool}
use Rattle.mb_port.specs.Routine.{Routine, Return, ◌>>=◌}
use Rattle.mb_port.specs.declared.types.Space.{Space}
use Rattle.mb_instr.specs.declared.size.Size.{Size}
use Rattle.mb_instr.specs.declared.size.Size.TheVariants.{Byte, Long}
use Rattle.mb_instr.specs.declared.operand.Ea.{Ea}
use Rattle.mb_instr.specs.declared.operand.Ea.TheVariants.{Dn}
use Rattle.mb_instr.specs.declared.kinds.BitKind.{BitKind}
use Rattle.mb_instr.specs.declared.kinds.BitKind.TheVariants.{Test, Change, Clear, Set}
use Rattle.mb_instr.specs.declared.registers.Plain.{Plain}
use Rattle.mb_instr.specs.Sizes.{bits_of, is_set}
use Rattle.mb_alu.specs.declared.conditions.Flagged.{Flagged}
use Rattle.mb_alu.specs.Conditions.{conditions_of, ccr_of}
use Rattle.def_instructions.specs.Ends.{Rowed, carried, reading}
use Rattle.def_instructions.specs.Operands.{fetch_operand_of}
use Rattle.def_instructions.specs.Modifying.{modify_of}

-- the bit is one of a data register, which is a long, or of a byte
abbrev pub bit_size : Ea → Size
bit_size (Dn n) = Long
bit_size _ = Byte

-- The value with that bit: what stands above it, the bit, and what stands below it.
abbrev pub with_bit_as : ℕ → ℕ → Bool → ℕ
with_bit_as place value b = (value / 2 ^ place / 2 * 2 + from_bool b) * 2 ^ place + value % 2 ^ place

-- the value with that bit inverted, cleared or set
abbrev pub bit_after : BitKind → ℕ → ℕ → ℕ
bit_after Test place value = value
bit_after Change place value = with_bit_as place value (not (is_set value place))
bit_after Clear place value = with_bit_as place value false
bit_after Set place value = with_bit_as place value true

-- The bit's number counts modulo the bits of the operand. Z is the complement of the bit, the other codes stay.
unfoldable pub change_bit_of : BitKind → ℕ → Size → ℕ → ℕ → Flagged
change_bit_of kind number size value ccr =
    let place = number % bits_of size in
    record {
      value = bit_after kind place value;
      ccr = ccr_of (record (conditions_of ccr) { z = not (is_set value place) });
    }

-- BTST only reads its operand; the others write it back
abbrev pub bit_row_of : BitKind → ℕ → Ea → ℕ → Space → Plain → Routine Rowed
bit_row_of Test number ea word_at space p = do
  operand ← reading (fetch_operand_of (bit_size ea) ea word_at space p)
  let tested = change_bit_of Test number (bit_size ea) operand.value operand.plain.ccr
  Return (carried (record operand.plain { ccr = tested.ccr }))
bit_row_of kind number ea word_at space p =
    modify_of (change_bit_of kind number (bit_size ea)) (bit_size ea) ea word_at space p
