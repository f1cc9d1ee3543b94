-- Shifts and rotates.
use Rattle.std.specs.Prelude.{ℕ, ◌%◌, Bool, if◌then◌else◌}
use Rattle.mb_instr.specs.declared.size.Size.{Size}
use Rattle.mb_instr.specs.declared.size.Size.TheVariants.{Word}
use Rattle.mb_instr.specs.declared.kinds.ShiftKind.{ShiftKind}
use Rattle.mb_instr.specs.declared.registers.Plain.{Plain}
use Rattle.mb_instr.specs.Registers.{data_register}
use Rattle.mb_alu.specs.declared.conditions.Flagged.{Flagged}
use Rattle.mb_alu.specs.Shifts.{shift_of}
use Rattle.def_instructions.specs.Unary.{put_in_register_of}

-- a register of counts counts modulo 64
abbrev pub shift_count_of : Bool → ℕ → Plain → ℕ
shift_count_of by_register count p = if by_register then data_register p count % 64 else count

-- a shift or rotate of a data register
abbrev pub shift_register_of : ShiftKind → Bool → Size → ℕ → ℕ → Plain → Plain
shift_register_of kind is_left size count register p =
    put_in_register_of register size (shift_of kind is_left size count (data_register p register) p.ccr) p

-- a shift or rotate of a word in memory, by one bit
abbrev pub shifted_by_one : ShiftKind → Bool → ℕ → ℕ → Flagged
shifted_by_one kind is_left value ccr = shift_of kind is_left Word 1 value ccr
