-- A trap whose frame has no place.
use Rattle.std.proofs.Common.{◌≡◌, ◌∙◌, ap, sym, false}
use Rattle.mb_port.specs.Routine.{Bus, Return, run, caught}
use Rattle.mb_port.specs.declared.types.Fault.{Fault}
use Rattle.mb_instr.specs.declared.registers.Plain.{Plain}
use Rattle.mb_instr.specs.declared.registers.Regs.{Regs}
use Rattle.mb_instr.specs.Registers.{with_plain}
use Rattle.mb_model.specs.declared.processor.Cpu.{Cpu}
use Rattle.def_processor.specs.declared.Finish.TheVariants as finish
use Rattle.def_processor.specs.declared.entering.Cause.{Cause}
use Rattle.def_processor.specs.declared.entering.Entered.TheVariants as entered
use Rattle.def_processor.specs.Entry.{Entrance, awake, enter_of}
use Rattle.def_processor.specs.SystemEnds.{with_registers}
use Rattle.def_processor.specs.Raise.{Stepped, unchecked_of, raised}
use Rattle.mb_step.proofs.Entries.{unchecked_awake, holding}
use Rattle.def_runs.specs.Finishes.{finish_trap_of}

-- the registers before the instruction come back, in a processor that is awake
before_again : (before : Plain) (cpu left : Cpu) (back : Regs) → left ≡ record cpu { regs = left.regs; stopped = false } → left.regs ≡ cpu.regs
    → back ≡ with_plain left.regs before → holding back left ≡ awake (with_registers before cpu)
before_again before cpu left back others same k =
    ap (holding back) others
    ∙ ap (λ (r : Regs). record cpu { regs = r; stopped = false }) (k ∙ ap (λ (r : Regs). with_plain r before) same)

-- what follows the entry of the trap
abbrev entered_trap : {S : Type 0} → Bus S → Cause → Cpu → Entrance × S → Stepped × S
entered_trap bus cause kept entrance = run bus
    (caught (raised false kept entrance.0.0 entrance.0.1) (λ stepped. Return stepped)
    (λ cpu. Return (finish.Entered cause.vector, cpu))) entrance.1

-- `left` is the processor as the entry left it, and `back` are the registers that were put back.
pub trap_unchecked : {S : Type 0} (bus : Bus S) (cause : Cause) (before : Plain) (cpu left : Cpu) (back : Regs) (fault : Fault) (s t : S)
    (stepped : Stepped × S) → run bus (enter_of cause cpu) s ≡ ((entered.Faulted fault, left), t)
    → left ≡ record cpu { regs = left.regs; stopped = false } → left.regs ≡ cpu.regs → back ≡ with_plain left.regs before
    → run bus (unchecked_of false fault (holding back left)) t ≡ stepped
    → run bus (finish_trap_of cause before cpu) s ≡ stepped
trap_unchecked bus cause before cpu left back fault s t stepped h others same k u =
    ap (entered_trap bus cause (with_registers before cpu)) h
    ∙ sym (unchecked_awake bus false fault (with_registers before cpu) t)
    ∙ ap (λ (x : Cpu). run bus (unchecked_of false fault x) t) (sym (before_again before cpu left back others same k)) ∙ u
