-- The entry of an exception, and what follows where its frame has no place.
use Rattle.std.proofs.Common.{◌≡◌, ℕ, Bool, false, refl, sym, ap, ◌∙◌}
use Rattle.mb_port.specs.Routine.{Bus, Return, run, caught}
use Rattle.mb_port.specs.declared.types.Fault.{Fault}
use Rattle.mb_instr.specs.declared.registers.Plain.{Plain}
use Rattle.mb_instr.specs.declared.registers.Regs.{Regs}
use Rattle.mb_instr.specs.Registers.{with_plain}
use Rattle.mb_model.specs.declared.processor.Cpu.{Cpu}
use Rattle.def_processor.specs.declared.Finish.TheVariants as finish
use Rattle.def_processor.specs.declared.entering.Cause.{Cause}
use Rattle.def_processor.specs.declared.entering.Entered.TheVariants as entered
use Rattle.def_processor.specs.Entry.{Entrance, awake, enter_of}
use Rattle.def_processor.specs.SystemEnds.{with_registers}
use Rattle.def_processor.specs.Raise.{Stepped, traces_all, cause_at, unchecked_of, raised, trace_if_of, raise_trap_of}

-- an access error ends the stopped state itself
pub unchecked_awake : {S : Type 0} (bus : Bus S) (is_trace : Bool) (fault : Fault) (cpu : Cpu) (s : S)
    → run bus (unchecked_of is_trace fault (awake cpu)) s ≡ run bus (unchecked_of is_trace fault cpu) s
unchecked_awake bus is_trace fault cpu s = refl

-- a processor with other registers
abbrev pub holding : Regs → Cpu → Cpu
holding r cpu = record cpu { regs = r }

-- the processor before an instruction that traps comes back, where the frame has no place
before_again : (cpu left : Cpu) (exchanged back : Regs) (q : Plain) → with_plain exchanged q ≡ cpu.regs
    → left ≡ record cpu { regs = left.regs; stopped = false } → left.regs ≡ exchanged → back ≡ with_plain left.regs q
    → holding back left ≡ awake cpu
before_again cpu left exchanged back q again o r k =
    ap (holding back) o ∙ ap (λ (r : Regs). record cpu { regs = r; stopped = false }) (k ∙ ap (λ (r : Regs). with_plain r q) r ∙ again)

-- what follows the entry of an instruction that traps
abbrev entered_trap : {S : Type 0} → Bus S → ℕ → Cpu → Entrance × S → Stepped × S
entered_trap bus vector before entrance = run bus
    (caught (raised false before entrance.0.0 entrance.0.1) (λ stepped. Return stepped)
    (λ handler. trace_if_of (finish.Entered vector) (traces_all before.regs.sr) before.regs.pc handler)) entrance.1

-- An instruction traps, and its frame has no place. `exchanged` are the registers after the instruction, `left` is the
-- processor as the entry left it, and `back` are the registers that were put back.
pub trap_unchecked : {S : Type 0} (bus : Bus S) (vector : ℕ) (before left : Cpu) (exchanged back : Regs) (p q : Plain) (c : Cause) (fault : Fault)
    (s t : S) (stepped : Stepped × S) → exchanged ≡ with_plain before.regs p → with_plain exchanged q ≡ before.regs
    → c ≡ cause_at vector exchanged.pc before.regs.pc
    → run bus (enter_of c (holding exchanged before)) s ≡ ((entered.Faulted fault, left), t)
    → left ≡ record before { regs = left.regs; stopped = false } → left.regs ≡ exchanged → back ≡ with_plain left.regs q
    → run bus (unchecked_of false fault (holding back left)) t ≡ stepped
    → run bus (raise_trap_of vector before (with_registers p before)) s ≡ stepped
trap_unchecked bus vector before left exchanged back p q c fault s t stepped e again is h o r k u =
    ap (entered_trap bus vector before)
    (ap (λ (x : Regs). run bus (enter_of (cause_at vector x.pc before.regs.pc) (holding x before)) s) (sym e)
    ∙ ap (λ (x : Cause). run bus (enter_of x (holding exchanged before)) s) (sym is) ∙ h)
    ∙ sym (unchecked_awake bus false fault before t)
    ∙ ap (λ (x : Cpu). run bus (unchecked_of false fault x) t) (sym (before_again before left exchanged back q again o r k)) ∙ u
