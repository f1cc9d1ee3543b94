-- Multiplication and division.
use Rattle.std.specs.Prelude.{ℕ, ◌+◌, ◌*◌, ◌/◌, ◌%◌, ◌^◌, Bool, if◌then◌else◌}
use Rattle.mb_instr.specs.declared.registers.Plain.{Plain}
use Rattle.mb_instr.specs.declared.vectors.TheConstants.{ZERO_DIVIDE}
use Rattle.mb_instr.specs.Registers.{data_register, with_data_register}
use Rattle.mb_alu.specs.declared.width.Width.{Width}
use Rattle.mb_alu.specs.declared.width.Width.TheVariants.{Word, Long, Wide}
use Rattle.mb_alu.specs.declared.quotients.Divided.{Divided}
use Rattle.mb_alu.specs.declared.quotients.Divided.TheVariants.{Done, ZeroDivide, Overflow}
use Rattle.mb_alu.specs.Products.{mul_of, div_of}
use Rattle.mb_writes.specs.declared.ends.Ended.TheVariants as ended
use Rattle.def_instructions.specs.Ends.{Rowed, carried, ended_otherwise}
use Rattle.mb_instr.specs.FurtherWords.{pair_word}

-- ---- by words

-- MULU.W and MULS.W: the product is the whole register
abbrev pub multiply_word_of : Bool → ℕ → ℕ → Plain → Rowed
multiply_word_of signed n value p =
    let product = mul_of signed Word value (data_register p n) p.ccr in
    carried (record (with_data_register p n product.value) { ccr = product.ccr })

-- a zero divide is a trap of this vector, and changes only condition codes
abbrev pub zero_divided : ℕ → Plain → Rowed
zero_divided ccr p = ended_otherwise (ended.Trap ZERO_DIVIDE) (record p { ccr = ccr })

-- the quotient is the low word of the register, and the remainder the high one
abbrev pub divided_by_word : ℕ → Divided → Plain → Rowed
divided_by_word n (Done quotient remainder ccr) p =
    carried (record (with_data_register p n (remainder * 2 ^ 16 + quotient)) { ccr = ccr })
divided_by_word n (Overflow ccr) p = carried (record p { ccr = ccr })
divided_by_word n (ZeroDivide ccr) p = zero_divided ccr p

-- DIVU.W and DIVS.W
abbrev pub divide_word_of : Bool → ℕ → ℕ → Plain → Rowed
divide_word_of signed n value p = divided_by_word n (div_of signed Word value (data_register p n) p.ccr) p

-- ---- by longs: the word behind the first is `0lll sw00 0000 0hhh`

-- two registers, of which the second stands where both are one
abbrev pub with_two : Plain → ℕ → ℕ → ℕ → ℕ → Plain
with_two p n value m other = with_data_register (with_data_register p n value) m other

-- MULU.L and MULS.L with a product of 32 bits
abbrev pub multiply_to_long_of : ℕ → ℕ → Plain → Plain
multiply_to_long_of word value p =
    let product = mul_of (pair_word word).is_signed Long value (data_register p (pair_word word).low) p.ccr in
    record (with_data_register p (pair_word word).low product.value) { ccr = product.ccr }

-- the same with a product of 64 bits: the register of the low long is written first
abbrev pub multiply_to_wide_of : ℕ → ℕ → Plain → Plain
multiply_to_wide_of word value p =
    let product = mul_of (pair_word word).is_signed Wide value (data_register p (pair_word word).low) p.ccr in
    record (with_two p (pair_word word).low (product.value % 2 ^ 32) (pair_word word).high
    (product.value / 2 ^ 32)) {
      ccr = product.ccr;
    }

-- MULU.L and MULS.L
abbrev pub multiply_long_of : ℕ → ℕ → Plain → Rowed
multiply_long_of word value p =
    carried (if (pair_word word).is_wide then multiply_to_wide_of word value p else multiply_to_long_of word value p)

-- the dividend: 64 bits in two registers, or 32 in one
abbrev pub dividend_of : ℕ → Plain → ℕ
dividend_of word p = if (pair_word word).is_wide
    then data_register p (pair_word word).high * 2 ^ 32 + data_register p (pair_word word).low
    else data_register p (pair_word word).low

abbrev pub width_in : ℕ → Width
width_in word = if (pair_word word).is_wide then Wide else Long

-- the register of the remainder is written first
abbrev pub divided_by_long : ℕ → Divided → Plain → Rowed
divided_by_long word (Done quotient remainder ccr) p =
    carried (record (with_two p (pair_word word).high remainder (pair_word word).low quotient) { ccr = ccr })
divided_by_long word (Overflow ccr) p = carried (record p { ccr = ccr })
divided_by_long word (ZeroDivide ccr) p = zero_divided ccr p

-- DIVUL.L, DIVSL.L, DIVU.L and DIVS.L
abbrev pub divide_long_of : ℕ → ℕ → Plain → Rowed
divide_long_of word value p =
    divided_by_long word (div_of (pair_word word).is_signed (width_in word) value (dividend_of word p) p.ccr) p
