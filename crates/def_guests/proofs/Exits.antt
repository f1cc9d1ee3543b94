-- In user mode an exception is entered exactly where the attempt is not carried out.
use Rattle.std.proofs.Common.{◌≡◌, ◌∙◌, ℕ, Bool, true, false, not, List, [], ◌∷◌, Ok, Err, refl, ap}
use Rattle.mb_port.specs.Routine.{Bus, Return, ReadMmu, run, either}
use Rattle.mb_instr.specs.declared.instruction.Instr.{Instr}
use Rattle.mb_instr.specs.declared.instruction.Instr.TheVariants as instr
use Rattle.mb_instr.specs.declared.instruction.Flow.TheVariants as flow
use Rattle.mb_instr.specs.Registers.{is_supervisor}
use Rattle.mb_frames.specs.declared.frame.Access.{Access}
use Rattle.mb_frames.specs.declared.pend.Pend.{Pend}
use Rattle.mb_model.specs.declared.processor.Cpu.{Cpu}
use Rattle.mb_writes.specs.declared.ends.Ended.{Ended}
use Rattle.mb_writes.specs.declared.ends.Ended.TheVariants as ended
use Rattle.mb_writes.specs.declared.ends.WriteFault.{WriteFault}
use Rattle.def_processor.specs.declared.entering.Cause.{Cause}
use Rattle.def_processor.specs.declared.entering.Entered.{Entered}
use Rattle.def_processor.specs.declared.entering.Entered.TheVariants as entered
use Rattle.def_processor.specs.declared.Finish.TheVariants as finish
use Rattle.def_instructions.specs.Ends.{Performed}
use Rattle.def_processor.specs.SystemEnds.{with_registers}
use Rattle.def_processor.specs.Entry.{enter_of}
use Rattle.def_instructions.specs.Attempt.{FoundInstr}
use Rattle.def_processor.specs.Raise.{Stepped, Raised, is_due, traces_all, access_cause, ends_step, access_error_of, raised, raise_of}
use Rattle.def_processor.specs.Raise.{trace_if_of, raise_trap_of, refuse_of}
use Rattle.def_processor.specs.Step.{finish_unread_of, finish_unwritten_of, finish_instruction_of, is_flow}
use Rattle.law_attempts.specs.Attempts.{IsUntraced, NoOther, is_attempted, fetched_by, attempted_by, finished_by}
use Rattle.law_attempts.proofs.Attempts.{attempt_then_finish}
use Rattle.def_guests.specs.Classes.{class_of_end, class_by, is_exit}
use Rattle.def_guests.specs.Exits.{is_going, ExitsTell}

-- ---- an exception ends the step

ended_going : (e : Entered) → is_going (ends_step e) ≡ false
ended_going entered.Done = refl
ended_going (entered.Faulted fault) = refl
ended_going entered.DoubleFault = refl

error_ends : {S : Type 0} (bus : Bus S) (pc : ℕ) (access : Access) (cpu : Cpu) (s : S) → is_going (run bus (access_error_of pc access cpu) s).0.0 ≡ false
error_ends bus pc access cpu s = ended_going (run bus (enter_of (access_cause pc access) cpu) s).0.0

-- an exception was entered, or the step ended by another
abbrev Ends : Raised → Type 0
Ends (Ok cpu) = Unit {0}
Ends (Err stepped) = is_going stepped.0 ≡ false

raised_ends : {S : Type 0} (bus : Bus S) (is_trace : Bool) (kept : Cpu) (e : Entered) (cpu : Cpu) (s : S) → Ends (run bus (raised is_trace kept e cpu) s).0
raised_ends bus is_trace kept entered.Done cpu s = tt
raised_ends bus is_trace kept (entered.Faulted fault) cpu s = error_ends bus kept.regs.pc _ kept s
raised_ends bus is_trace kept entered.DoubleFault cpu s = refl

raise_ends : {S : Type 0} (bus : Bus S) (is_trace : Bool) (c : Cause) (kept cpu : Cpu) (s : S) → Ends (run bus (raise_of is_trace c kept cpu) s).0
raise_ends bus is_trace c kept cpu s =
    let r = run bus (enter_of c cpu) s in raised_ends bus is_trace kept r.0.0 r.0.1 r.1

last_ends : {S : Type 0} (bus : Bus S) (vector : ℕ) (r : Raised) (t : S) → Ends r
    → is_going (run bus (either r (λ (stepped : Stepped). Return stepped) (λ (cpu : Cpu). Return (finish.Entered vector, cpu))) t).0.0 ≡ false
last_ends bus vector (Ok cpu) t h = refl
last_ends bus vector (Err stepped) t h = h

refused_ends : {S : Type 0} (bus : Bus S) (vector : ℕ) (before : Cpu) (s : S) → is_going (run bus (refuse_of vector before) s).0.0 ≡ false
unfolding refuse_of
refused_ends bus vector before s = last_ends bus vector _ _ (raise_ends bus false _ before before s)

-- a trace behind a trap, where none is due
behind_trap : {S : Type 0} (bus : Bus S) (vector : ℕ) (due : Bool) (at : ℕ) (r : Raised) (t : S) → due ≡ false → Ends r
    → is_going (run bus (either r (λ (stepped : Stepped). Return stepped) (λ (cpu : Cpu). trace_if_of (finish.Entered vector) due at cpu)) t).0.0 ≡ false
behind_trap bus vector due at (Ok cpu) t h e = rw h refl
behind_trap bus vector due at (Err stepped) t h e = e

trap_ends : {S : Type 0} (bus : Bus S) (vector : ℕ) (before cpu : Cpu) (s : S) → IsUntraced before
    → is_going (run bus (raise_trap_of vector before cpu) s).0.0 ≡ false
trap_ends bus vector before cpu s h =
    behind_trap bus vector (traces_all before.regs.sr) before.regs.pc _ _ h.all (raise_ends bus false _ before cpu s)

unwritten_ends : {S : Type 0} (bus : Bus S) (due : Bool) (refused : WriteFault) (items : List Pend) (before cpu : Cpu) (s : S)
    → is_going (run bus (finish_unwritten_of due refused items before cpu) s).0.0 ≡ false
unwritten_ends bus due refused [] before cpu s = error_ends bus before.regs.pc _ before (bus ReadMmu s).1
unwritten_ends bus due refused (piece ∷ pieces) before cpu s = error_ends bus cpu.regs.pc _ cpu (bus ReadMmu s).1

-- ---- the finish of an instruction

none_due : (cpu : Cpu) (flow : Bool) → IsUntraced cpu → is_due cpu.regs.sr flow ≡ false
none_due cpu flow h = rw (h.all, h.flow) refl

finish_tells : {S : Type 0} (bus : Bus S) (i : Instr) (end : Ended) (before cpu : Cpu) (s : S) → IsUntraced before
    → is_going (run bus (finish_instruction_of i end before cpu) s).0.0 ≡ not (is_exit (class_of_end end))
unfolding finish_unread_of
finish_tells bus i (ended.Done flow) before cpu s h =
    ap (λ (due : Bool). is_going (run bus (trace_if_of finish.Went due before.regs.pc cpu) s).0.0) (none_due before flow h)
finish_tells bus i (ended.Trap vector) before cpu s h = trap_ends bus vector before cpu s h
finish_tells bus i (ended.Refused vector) before cpu s h = refused_ends bus vector before s
finish_tells bus i (ended.ReadFault refused) before cpu s h = error_ends bus before.regs.pc _ before (bus ReadMmu s).1
finish_tells bus i (ended.WriteFault refused) before cpu s h =
    unwritten_ends bus (is_due before.regs.sr (is_flow i)) refused refused.rest.items before cpu s
finish_tells bus i (ended.LineFault fault line) before cpu s h = error_ends bus cpu.regs.pc _ cpu (bus ReadMmu s).1
finish_tells bus i (ended.Movem refused) before cpu s h = error_ends bus before.regs.pc _ cpu (bus ReadMmu s).1

finished_tells : {S : Type 0} (bus : Bus S) (i : Instr) (cpu : Cpu) (q : Performed × S) → IsUntraced cpu
    → is_going (finished_by bus i cpu q).0.0 ≡ not (is_exit (class_by q.0))
finished_tells bus i cpu (Ok done, t) h = finish_tells bus i (ended.Done done.flow) cpu (with_registers done.plain cpu) t h
finished_tells bus i cpu (Err stop, t) h = finish_tells bus i stop.ended cpu (with_registers stop.plain cpu) t h

-- ---- a step

-- the instruction that was found; where none was, any
abbrev pub found_instr : FoundInstr → Instr
found_instr (Ok found) = found.0
found_instr (Err unfound) = instr.Flow flow.Nop

no_other : (f : FoundInstr) → NoOther (found_instr f) f
no_other (Ok found) = refl
no_other (Err unfound) = tt

pub attempted_in_user_mode : (i : Instr) (cpu : Cpu) → is_supervisor cpu.regs.sr ≡ false → is_attempted i cpu ≡ true
attempted_in_user_mode (instr.Move i) cpu h = refl
attempted_in_user_mode (instr.Arith i) cpu h = refl
attempted_in_user_mode (instr.Flow i) cpu h = refl
attempted_in_user_mode (instr.System i) cpu h = ap not h

pub exits_tell : {S : Type 0} → ExitsTell S
exits_tell {S = S} bus level cpu s h =
    let f = (fetched_by bus cpu s).0 in
    let i = found_instr f in
    ap (λ (q : Stepped × S). is_going q.0.0)
    (attempt_then_finish bus level cpu s i h.masked h.untraced.going (no_other f) (attempted_in_user_mode i cpu h.user))
    ∙ finished_tells bus i cpu (attempted_by bus cpu s) h.untraced
