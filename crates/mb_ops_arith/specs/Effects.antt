-- What becomes of an operand that is only read.
use Rattle.std.specs.Prelude.{ℕ, ⊤, ◌<◌}
use Rattle.mb_instr.specs.declared.size.Size.{Size}
use Rattle.mb_instr.specs.declared.registers.Plain.{Plain}
use Rattle.def_instructions.specs.Ends.{Rowed}
use Rattle.def_instructions.specs.Arithmetic.{address_moved, address_compared}
use Rattle.def_instructions.specs.Unary.{tst_effect}
use Rattle.def_instructions.specs.Products.{multiply_word_of, divide_word_of, multiply_long_of, divide_long_of}
use Rattle.mb_ops_arith.specs.Changes.{moved_of}
use Rattle.mb_ops_arith.specs.declared.taking.Effect.{Effect}
use Rattle.mb_ops_arith.specs.declared.taking.Effect.TheVariants as effect

-- how the instruction ends by the operand's value and the registers
abbrev pub effect_of : Effect → Size → ℕ → Plain → Rowed
effect_of effect.Test size value p = tst_effect size value p
effect_of (effect.MoveAddress sum register) size value p = address_moved (moved_of sum) register size value p
effect_of (effect.CompareAddress register) size value p = address_compared register size value p
effect_of (effect.MultiplyWord is_signed register) size value p = multiply_word_of is_signed register value p
effect_of (effect.MultiplyLong word) size value p = multiply_long_of word value p
effect_of (effect.DivideWord is_signed register) size value p = divide_word_of is_signed register value p
effect_of (effect.DivideLong word) size value p = divide_long_of word value p

-- its register is one of eight
abbrev pub IsEffect : Effect → Type 0
IsEffect effect.Test = ⊤
IsEffect (effect.MoveAddress sum register) = register < 8
IsEffect (effect.CompareAddress register) = register < 8
IsEffect (effect.MultiplyWord is_signed register) = register < 8
IsEffect (effect.MultiplyLong word) = ⊤
IsEffect (effect.DivideWord is_signed register) = register < 8
IsEffect (effect.DivideLong word) = ⊤
