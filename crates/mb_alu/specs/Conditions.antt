-- The condition codes, as the condition code register holds them.
use Rattle.std.specs.Prelude.{ℕ, ◌+◌, ◌*◌}
use Rattle.std.specs.Int.{from_bool}
use Rattle.mb_instr.specs.Sizes.{is_set}
use Rattle.mb_alu.specs.declared.conditions.Conditions.{Conditions}

-- X is bit 4, N bit 3, Z bit 2, V bit 1 and C bit 0
unfoldable pub conditions_of : ℕ → Conditions
conditions_of ccr = record { x = is_set ccr 4; n = is_set ccr 3; z = is_set ccr 2; v = is_set ccr 1; c = is_set ccr 0 }

abbrev pub ccr_of : Conditions → ℕ
ccr_of codes =
    from_bool codes.x * 16 + from_bool codes.n * 8 + from_bool codes.z * 4 + from_bool codes.v * 2 + from_bool codes.c
