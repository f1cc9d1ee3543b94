-- TRAP, TRAPcc and TRAPV.
use Rattle.std.specs.Prelude.{ℕ, ◌+◌, if◌then◌else◌}
use Rattle.mb_instr.specs.declared.kinds.Condition.{Condition}
use Rattle.mb_instr.specs.declared.kinds.Condition.TheVariants.{OverflowSet}
use Rattle.mb_instr.specs.declared.registers.Plain.{Plain}
use Rattle.mb_instr.specs.declared.vectors.TheConstants.{OUT_OF_BOUNDS, CONDITION_MET, FIRST_TRAP}
use Rattle.mb_writes.specs.declared.ends.Ended.{Ended}
use Rattle.mb_writes.specs.declared.ends.Ended.TheVariants as ended
use Rattle.def_instructions.specs.Ends.{Rowed, carried, ended_otherwise}
use Rattle.def_instructions.specs.Conditions.{is_met}

-- the vectors of traps
abbrev pub out_of_bounds : Ended
out_of_bounds = ended.Trap OUT_OF_BOUNDS

abbrev pub conditional_trap : Ended
conditional_trap = ended.Trap CONDITION_MET

abbrev pub numbered_trap : ℕ → Ended
numbered_trap number = ended.Trap (FIRST_TRAP + number)

-- TRAP
abbrev pub trap_of : ℕ → Plain → Rowed
trap_of number p = ended_otherwise (numbered_trap number) p

-- TRAPcc, whose operand is passed over: a trap where the condition is met
abbrev pub trapcc_of : Condition → Plain → Rowed
trapcc_of c p = if is_met c p.ccr then ended_otherwise conditional_trap p else carried p

-- TRAPV: a trap on overflow
abbrev pub trapv_of : Plain → Rowed
trapv_of p = trapcc_of OverflowSet p
