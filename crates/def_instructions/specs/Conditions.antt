-- The sixteen conditions.
use Rattle.std.specs.Prelude.{ℕ, Bool, true, false, ◌&&◌, ◌||◌, not}
use Rattle.mb_instr.specs.declared.kinds.Condition.{Condition}
use Rattle.mb_instr.specs.declared.kinds.Condition.TheVariants as condition
use Rattle.mb_alu.specs.declared.conditions.Conditions.{Conditions}
use Rattle.mb_alu.specs.Conditions.{conditions_of}

-- N and V differ
abbrev pub is_less : Conditions → Bool
is_less codes = (codes.n && not codes.v) || (not codes.n && codes.v)

-- the manual's table of conditional tests
abbrev pub met_by : Condition → Conditions → Bool
met_by condition.True codes = true
met_by condition.False codes = false
met_by condition.High codes = not codes.c && not codes.z
met_by condition.LowOrSame codes = codes.c || codes.z
met_by condition.CarryClear codes = not codes.c
met_by condition.CarrySet codes = codes.c
met_by condition.NotEqual codes = not codes.z
met_by condition.Equal codes = codes.z
met_by condition.OverflowClear codes = not codes.v
met_by condition.OverflowSet codes = codes.v
met_by condition.Plus codes = not codes.n
met_by condition.Minus codes = codes.n
met_by condition.GreaterOrEqual codes = not (is_less codes)
met_by condition.LessThan codes = is_less codes
met_by condition.GreaterThan codes = not codes.z && not (is_less codes)
met_by condition.LessOrEqual codes = codes.z || is_less codes

-- whether a condition holds by these condition codes
abbrev pub is_met : Condition → ℕ → Bool
is_met c ccr = met_by c (conditions_of ccr)
