-- What is said of the fault of a check, and of a halt.
use Rattle.std.proofs.Common.{◌≡◌}
use Rattle.mb_port.specs.declared.types.Fault.{Fault}
use Rattle.mb_model.specs.declared.processor.Cpu.{Cpu}
use Rattle.def_processor.specs.declared.entering.Entered.{Entered}
use Rattle.def_processor.specs.declared.entering.Entered.TheVariants as entered
use Rattle.mb_entry.specs.Clauses.{IfFaulted, IfHalted, LeavesCpu}

pub of_the_fault : (e : Entered) (fault : Fault) (P : Fault → Type 0) → IfFaulted e (λ other. other ≡ fault) → P fault → IfFaulted e P
of_the_fault entered.Done fault P same h = tt
of_the_fault (entered.Faulted other) fault P same h = rw (same) h
of_the_fault entered.DoubleFault fault P same h = tt

pub both_halted : (e : Entered) (P Q R : Type 0) → IfHalted e P → IfHalted e Q → (P → Q → R) → IfHalted e R
both_halted entered.Done P Q R h k f = tt
both_halted (entered.Faulted fault) P Q R h k f = tt
both_halted entered.DoubleFault P Q R h k f = f h k

-- where the vector can't be read nothing changes
pub halted_stays : (e : Entered) (old new : Cpu) → LeavesCpu e old new → IfHalted e (new ≡ old)
halted_stays entered.Done old new h = tt
halted_stays (entered.Faulted fault) old new h = tt
halted_stays entered.DoubleFault old new h = h
