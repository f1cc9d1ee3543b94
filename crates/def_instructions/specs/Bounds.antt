-- CHK, CHK2 and CMP2.
use Rattle.std.specs.Prelude.{ℕ, ◌==◌, pos, int_lt, Bool, ◌||◌, nat_lt, Result, Ok, if◌then◌else◌}
use Rattle.mb_port.specs.Routine.{Routine, Return, ◌>>=◌}
use Rattle.mb_port.specs.declared.types.Space.{Space}
use Rattle.mb_instr.specs.declared.size.Size.{Size}
use Rattle.mb_instr.specs.declared.size.Size.TheVariants.{Long}
use Rattle.mb_instr.specs.declared.operand.Ea.{Ea}
use Rattle.mb_instr.specs.declared.registers.Plain.{Plain}
use Rattle.mb_instr.specs.Sizes.{bytes_of, low_of, sign_extended}
use Rattle.mb_instr.specs.Registers.{data_register, register_of}
use Rattle.mb_instr.specs.FurtherWords.{register_word}
use Rattle.mb_alu.specs.declared.conditions.Conditions.{Conditions}
use Rattle.mb_alu.specs.Conditions.{conditions_of, ccr_of}
use Rattle.mb_alu.specs.Signs.{signed_of}
use Rattle.mb_ea.specs.declared.reading.ReadFault.{ReadFault}
use Rattle.mb_ea.specs.Addresses.{sum, difference}
use Rattle.mb_ea.specs.Reading.{read_operand_of}
use Rattle.def_instructions.specs.Ends.{Rowed, carried, ended_otherwise, reading}
use Rattle.def_instructions.specs.Operands.{fetch_operand_of, find_address_of}
use Rattle.def_instructions.specs.Traps.{out_of_bounds}

-- ---- one bound

-- below 0, of the low bytes that count
abbrev pub is_below : Size → ℕ → Bool
is_below size value = int_lt (signed_of size value) (pos 0)

-- above a bound, both signed
abbrev pub is_above : Size → ℕ → ℕ → Bool
is_above size bound value = int_lt (signed_of size bound) (signed_of size value)

-- a value below 0 or above the bound traps; then N says whether it is below 0, and the other condition codes stay
abbrev pub check_bound_of : Size → ℕ → ℕ → Plain → Rowed
check_bound_of size bound value p =
    if is_below size value || is_above size bound value
    then ended_otherwise out_of_bounds
    (record p { ccr = ccr_of (record (conditions_of p.ccr) { n = is_below size value }) })
    else carried p

-- CHK: the value is a data register's, and the operand is the bound
abbrev pub chk_of : ℕ → Size → Ea → ℕ → Space → Plain → Routine Rowed
chk_of n size ea word_at space p = do
  bound ← reading (fetch_operand_of size ea word_at space p)
  Return (check_bound_of size bound.value (data_register bound.plain n) bound.plain)

-- ---- two bounds

-- of a data register the low bytes are compared, of an address register all of it
abbrev pub compared_size : Size → ℕ → Size
compared_size size n = if nat_lt n 8 then size else Long

-- how far a number is above the lower bound, modulo the number of values
abbrev pub above : Size → ℕ → ℕ → ℕ
above size lower x = low_of size (difference x lower)

-- the same low bytes
abbrev pub is_same : Size → ℕ → ℕ → Bool
is_same size x y = low_of size x == low_of size y

-- Z: the value is a bound. C: it is further above the lower bound than the upper bound is. X, N and V stay.
abbrev pub bounds_codes : Size → ℕ → ℕ → ℕ → Conditions → Conditions
bounds_codes size lower upper value codes = record codes {
  z = is_same size value lower || is_same size value upper;
  c = nat_lt (above size lower upper) (above size lower value);
}

-- The condition codes of a register compared with two bounds. They are extended by their sign, which counts for an
-- address register.
abbrev pub compared : Size → ℕ → ℕ → ℕ → Plain → ℕ
compared size lower upper n p =
    ccr_of (bounds_codes (compared_size size n) (sign_extended size lower) (sign_extended size upper) (register_of p n)
    (conditions_of p.ccr))

-- The condition codes of CHK2 and CMP2. The bounds are two operands, the lower one first.
abbrev pub compare_bounds_of : Size → Ea → ℕ → ℕ → Space → Plain → Routine (Result ℕ ReadFault)
compare_bounds_of size ea w word_at space p = do
  place ← find_address_of size ea word_at space p
  lower ← read_operand_of space place (bytes_of size)
  upper ← read_operand_of space (sum place (bytes_of size)) (bytes_of size)
  Return (Ok (compared size lower upper (register_word w).register p))

-- CMP2
abbrev pub cmp2_of : Size → Ea → ℕ → ℕ → Space → Plain → Routine Rowed
cmp2_of size ea w word_at space p = do
  ccr ← reading (compare_bounds_of size ea w word_at space p)
  Return (carried (record p { ccr = ccr }))

-- a value out of bounds, which C says, traps
abbrev pub check_carry_of : Plain → Rowed
check_carry_of p = if (conditions_of p.ccr).c then ended_otherwise out_of_bounds p else carried p

-- CHK2
abbrev pub chk2_of : Size → Ea → ℕ → ℕ → Space → Plain → Routine Rowed
chk2_of size ea w word_at space p = do
  ccr ← reading (compare_bounds_of size ea w word_at space p)
  Return (check_carry_of (record p { ccr = ccr }))
