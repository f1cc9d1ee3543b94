-- What a MOVE leaves.
use Rattle.std.specs.Prelude.{ℕ}
use Rattle.mb_instr.specs.declared.size.Size.{Size}
use Rattle.mb_instr.specs.declared.registers.Plain.{Plain}
use Rattle.mb_instr.specs.Registers.{data_register, with_data_register}
use Rattle.def_instructions.specs.Moves.{move_flags}
use Rattle.def_instructions.specs.Operands.{with_low}

-- a value of a size moved to a data register
abbrev pub moved_to : ℕ → Size → ℕ → Plain → Plain
moved_to n size value p = with_data_register (move_flags size value p) n (with_low size (data_register p n) value)
