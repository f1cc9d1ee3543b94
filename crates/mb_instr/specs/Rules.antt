-- Which words may stand behind the first.
use Rattle.std.specs.Prelude.{ℕ, ◌/◌, ◌%◌, ◌^◌, Bool, true, ◌&&◌, ◌||◌, ◌==◌}
use Rattle.mb_instr.specs.Control.{is_control_code}
use Rattle.mb_instr.specs.declared.rule.WordRule.{WordRule}
use Rattle.mb_instr.specs.declared.rule.WordRule.TheVariants.{Any, RegisterAndBit, Compare, Check, Swap, SwapPair, LongPair}
use Rattle.mb_instr.specs.declared.rule.WordRule.TheVariants.{Control, Field, FieldAlone, Line}

-- an offset in a register has bits 10 and 9 clear, a width in a register bits 4 and 3
abbrev pub is_field : ℕ → Bool
is_field w = ((w / 2 ^ 11 % 2 == 0) || (w / 2 ^ 9 % 4 == 0)) && ((w / 2 ^ 5 % 2 == 0) || (w / 2 ^ 3 % 4 == 0))

-- the bits that each row fixes
abbrev pub holds : WordRule → ℕ → Bool
holds Any w = true
holds RegisterAndBit w = w % 2 ^ 11 == 0
holds Compare w = w % 2 ^ 12 == 0
holds Check w = w % 2 ^ 12 == 2048
holds Swap w = (w / 2 ^ 9 == 0) && (w / 2 ^ 3 % 8 == 0)
holds SwapPair w = (w / 2 ^ 9 % 8 == 0) && (w / 2 ^ 3 % 8 == 0)
holds LongPair w = (w / 2 ^ 15 == 0) && (w / 2 ^ 3 % 128 == 0)
holds Control w = is_control_code (w % 2 ^ 12)
holds Field w = (w / 2 ^ 15 == 0) && is_field w
holds FieldAlone w = (w / 2 ^ 12 == 0) && is_field w
holds Line w = (w / 2 ^ 15 == 1) && (w % 2 ^ 12 == 0)
