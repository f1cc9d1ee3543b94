-- The transfers of a MOVEM: those that are not done at once, and how their instruction ends.
use Rattle.std.specs.Prelude.{ℕ, Option, Some, None, Result, Ok}
use Rattle.mb_port.specs.Routine.{Routine, Return, ◌>>=◌}
use Rattle.mb_port.specs.declared.types.Space.{Space}
use Rattle.mb_instr.specs.declared.registers.Plain.{Plain}
use Rattle.mb_writes.specs.declared.transfers.Movem.{Movem}
use Rattle.mb_writes.specs.Moving.{Halfway, transfer_of}
use Rattle.def_instructions.specs.Ends.{Rowed, carried}
use Rattle.def_instructions.specs.Moves.{transferring}

-- What is left of a MOVEM: nothing, or the transfers behind so many. The registers are those now.
abbrev pub left_of : Movem → ℕ → Space → Option ℕ → Plain → Routine (Result Plain Halfway)
left_of m ea space None p = Return (Ok p)
left_of m ea space (Some done) p = transfer_of m ea done space p

-- how the instruction of these transfers ends
abbrev pub ending : Routine (Result Plain Halfway) → Routine Rowed
ending transfers = do
  moved ← transferring transfers
  Return (carried moved)
