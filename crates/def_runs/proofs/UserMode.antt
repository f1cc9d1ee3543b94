-- A step in user mode that enters no exception stays there.
use Rattle.std.proofs.Common.{◌≡◌, ◌∙◌, ℕ, ◌+◌, ◌-◌, ◌/◌, ◌%◌, ◌^◌, ◌==◌, ◌&&◌, Bool, true, false, not, nat_lt, Ok, Err, List, [], ◌∷◌, ap, arith}
use Rattle.mb_port.specs.Routine.{Bus, Return, ReadMmu, run, either, choose}
use Rattle.mb_instr.specs.declared.instruction.Instr.{Instr}
use Rattle.mb_instr.specs.declared.instruction.Instr.TheVariants as instr
use Rattle.mb_instr.specs.declared.instruction.System.{System}
use Rattle.mb_instr.specs.declared.registers.Plain.{Plain}
use Rattle.mb_instr.specs.declared.vectors.TheConstants.{PRIVILEGED, TRACE}
use Rattle.mb_instr.specs.Registers.{is_supervisor, plain_of, with_ccr}
use Rattle.mb_frames.specs.declared.frame.Access.{Access}
use Rattle.mb_frames.specs.declared.pend.Pend.{Pend}
use Rattle.mb_frames.specs.AccessFields.{check_fields, read_fields, write_fields, line_fields, access_fields}
use Rattle.mb_model.specs.declared.processor.Cpu.{Cpu}
use Rattle.mb_model.specs.Keeping.{rule_a}
use Rattle.mb_model.specs.Pages.{page_size_by}
use Rattle.mb_model.specs.Status.{space_of}
use Rattle.mb_writes.specs.declared.ends.Ended.{Ended}
use Rattle.mb_writes.specs.declared.ends.Ended.TheVariants as ended
use Rattle.mb_writes.specs.declared.ends.MovemFault.{MovemFault}
use Rattle.mb_writes.specs.declared.ends.WriteFault.{WriteFault}
use Rattle.mb_writes.specs.Transfers.{movem_in, refused_transfer}
use Rattle.def_processor.specs.declared.entering.Cause.{Cause}
use Rattle.def_processor.specs.declared.entering.Entered.{Entered}
use Rattle.def_processor.specs.declared.entering.Entered.TheVariants as entered
use Rattle.def_processor.specs.declared.Finish.{Finish}
use Rattle.def_processor.specs.declared.Finish.TheVariants as finish
use Rattle.def_instructions.specs.Attempt.{NoInstruction, Unfetched, FoundInstr, fetched_of, past}
use Rattle.def_instructions.specs.Ends.{closing}
use Rattle.def_processor.specs.Entry.{enter_of}
use Rattle.def_processor.specs.Raise.{Stepped, Raised, access_cause, access_error_of, ends_step, raised, raise_of, raise_last_of, with_ct}
use Rattle.def_processor.specs.Raise.{cause_at, interrupt_cause, interrupt_of, trace_of, trace_if_of, raise_trap_of, refuse_of, traces_all, is_due}
use Rattle.def_instructions.specs.Rows.{perform_of}
use Rattle.def_processor.specs.Step.{finish_unread_of, finish_unwritten_of, finish_untransferred_of, is_flow, movem_words, finish_instruction_of, rank}
use Rattle.def_processor.specs.Step.{execute_supervised_of, execute_unprivileged_of, execute_of, unfound_of, execute_next_of, interrupt_mask, step_of}
use Rattle.def_processor.specs.SystemEnds.{with_registers}
use Rattle.def_machine.specs.Bus.{bus_of}
use Rattle.def_machine.specs.Machine.{Machine, begun, asked_of}
use Rattle.def_runs.specs.Native.{user_step}

-- A step that enters no exception and does not halt leaves user mode.
abbrev pub Stays : Stepped → Type 0
Stays (finish.Went, cpu) = is_supervisor cpu.regs.sr ≡ false
Stays (finish.Entered vector, cpu) = Unit {0}
Stays (finish.Idle, cpu) = is_supervisor cpu.regs.sr ≡ false
Stays (finish.Halted, cpu) = Unit {0}

-- ---- exceptions

ends_step_stays : (e : Entered) (cpu : Cpu) → Stays (ends_step e, cpu)
ends_step_stays entered.Done cpu = tt
ends_step_stays (entered.Faulted fault) cpu = tt
ends_step_stays entered.DoubleFault cpu = tt

access_error_stays : {S : Type 0} (bus : Bus S) (pc : ℕ) (access : Access) (cpu : Cpu) (s : S) → Stays (run bus (access_error_of pc access cpu) s).0
access_error_stays bus pc access cpu s =
    let e = run bus (enter_of (access_cause pc access) cpu) s in ends_step_stays e.0.0 e.0.1

-- an exception was entered, or the step ended so
abbrev RaisedStays : Raised → Type 0
RaisedStays (Ok cpu) = Unit {0}
RaisedStays (Err stepped) = Stays stepped

raised_stays : {S : Type 0} (bus : Bus S) (is_trace : Bool) (kept : Cpu) (e : Entered) (cpu : Cpu) (s : S)
    → RaisedStays (run bus (raised is_trace kept e cpu) s).0
raised_stays bus is_trace kept entered.Done cpu s = tt
raised_stays bus is_trace kept (entered.Faulted fault) cpu s =
    access_error_stays bus kept.regs.pc (with_ct is_trace (check_fields fault)) kept s
raised_stays bus is_trace kept entered.DoubleFault cpu s = tt

raise_stays : {S : Type 0} (bus : Bus S) (is_trace : Bool) (c : Cause) (kept cpu : Cpu) (s : S) → RaisedStays (run bus (raise_of is_trace c kept cpu) s).0
raise_stays bus is_trace c kept cpu s = let e = run bus (enter_of c cpu) s in raised_stays bus is_trace kept e.0.0 e.0.1 e.1

last_so : {S : Type 0} (bus : Bus S) (vector : ℕ) (r : Raised) (s : S) → RaisedStays r
    → Stays (run bus (either r (λ stepped. Return stepped) (λ cpu. Return (finish.Entered vector, cpu))) s).0
last_so bus vector (Ok cpu) s h = tt
last_so bus vector (Err stepped) s h = h

last_stays : {S : Type 0} (bus : Bus S) (vector : ℕ) (is_trace : Bool) (c : Cause) (kept cpu : Cpu) (s : S)
    → Stays (run bus (raise_last_of vector (raise_of is_trace c kept cpu)) s).0
last_stays bus vector is_trace c kept cpu s =
    let r = run bus (raise_of is_trace c kept cpu) s in last_so bus vector r.0 r.1 (raise_stays bus is_trace c kept cpu s)

interrupt_stays : {S : Type 0} (bus : Bus S) (level : ℕ) (cpu : Cpu) (s : S) → Stays (run bus (interrupt_of level cpu) s).0
interrupt_stays bus level cpu s = last_stays bus (24 + level) false (interrupt_cause level cpu.regs.pc) cpu cpu s

trace_stays : {S : Type 0} (bus : Bus S) (address : ℕ) (cpu : Cpu) (s : S) → Stays (run bus (trace_of address cpu) s).0
trace_stays bus address cpu s = last_stays bus TRACE true (cause_at TRACE cpu.regs.pc address) cpu cpu s

refused_stays : {S : Type 0} (bus : Bus S) (vector : ℕ) (cpu : Cpu) (s : S) → Stays (run bus (refuse_of vector cpu) s).0
unfolding refuse_of
refused_stays bus vector cpu s =
    let at = cpu.regs.pc in last_stays bus vector false (cause_at vector at (at - at % 2)) cpu cpu s

tracing_stays : {S : Type 0} (bus : Bus S) (so_far : Finish) (due : Bool) (address : ℕ) (cpu : Cpu) (s : S) → Stays (so_far, cpu)
    → Stays (run bus (trace_if_of so_far due address cpu) s).0
tracing_stays bus so_far true address cpu s h = trace_stays bus address cpu s
tracing_stays bus so_far false address cpu s h = h

trap_so : {S : Type 0} (bus : Bus S) (vector : ℕ) (due : Bool) (at : ℕ) (r : Raised) (s : S) → RaisedStays r
    → Stays (run bus (either r (λ stepped. Return stepped) (λ handler. trace_if_of (finish.Entered vector) due at handler)) s).0
trap_so bus vector due at (Ok handler) s h = tracing_stays bus (finish.Entered vector) due at handler s tt
trap_so bus vector due at (Err stepped) s h = h

trap_stays : {S : Type 0} (bus : Bus S) (vector : ℕ) (before cpu : Cpu) (s : S) → Stays (run bus (raise_trap_of vector before cpu) s).0
trap_stays bus vector before cpu s =
    let at = before.regs.pc in
    let c = cause_at vector cpu.regs.pc at in
    let r = run bus (raise_of false c before cpu) s in
    trap_so bus vector (traces_all before.regs.sr) at r.0 r.1 (raise_stays bus false c before cpu s)

-- ---- the finish of an instruction

unwritten_stays : {S : Type 0} (bus : Bus S) (due : Bool) (refused : WriteFault) (pieces : List Pend) (before cpu : Cpu) (s : S)
    → Stays (run bus (finish_unwritten_of due refused pieces before cpu) s).0
unwritten_stays bus due refused [] before cpu s =
    let page = page_size_by (bus ReadMmu s).0 in
    access_error_stays bus before.regs.pc (write_fields refused.fault refused.first [] page) before (bus ReadMmu s).1
unwritten_stays bus due refused (piece ∷ pieces) before cpu s =
    let page = page_size_by (bus ReadMmu s).0 in
    access_error_stays bus cpu.regs.pc (with_ct due (write_fields refused.fault refused.first refused.rest.items page)) cpu (bus ReadMmu s).1

untransferred_stays : {S : Type 0} (bus : Bus S) (due : Bool) (refused : MovemFault) (words : ℕ) (before cpu : Cpu) (s : S)
    → Stays (run bus (finish_untransferred_of due refused words before cpu) s).0
untransferred_stays bus due refused words before cpu s =
    let page = page_size_by (bus ReadMmu s).0 in
    let fields = access_fields (refused_transfer refused words cpu.regs.pc) page in
    access_error_stays bus before.regs.pc (with_ct (due && not (movem_in words).is_load) fields) cpu (bus ReadMmu s).1

finish_stays : {S : Type 0} (bus : Bus S) (i : Instr) (end : Ended) (before cpu : Cpu) (s : S) → is_supervisor cpu.regs.sr ≡ false
    → Stays (run bus (finish_instruction_of i end before cpu) s).0
unfolding finish_unread_of
finish_stays bus i (ended.Done flow) before cpu s h =
    tracing_stays bus finish.Went (is_due before.regs.sr flow) before.regs.pc cpu s h
finish_stays bus i (ended.Trap vector) before cpu s h = trap_stays bus vector before cpu s
finish_stays bus i (ended.Refused vector) before cpu s h = refused_stays bus vector before s
finish_stays bus i (ended.ReadFault refused) before cpu s h =
    let page = page_size_by (bus ReadMmu s).0 in
    access_error_stays bus before.regs.pc (read_fields refused.fault refused.first page) before (bus ReadMmu s).1
finish_stays bus i (ended.WriteFault refused) before cpu s h =
    unwritten_stays bus (is_due before.regs.sr (is_flow i)) refused refused.rest.items before cpu s
finish_stays bus i (ended.LineFault fault line) before cpu s h =
    let page = page_size_by (bus ReadMmu s).0 in
    access_error_stays bus cpu.regs.pc (with_ct (traces_all before.regs.sr) (line_fields fault line page)) cpu (bus ReadMmu s).1
finish_stays bus i (ended.Movem refused) before cpu s h =
    untransferred_stays bus (traces_all before.regs.sr) refused (movem_words i) before cpu s

-- ---- an instruction

-- S is the processor's own, whatever registers an instruction leaves
supervisor_stays : (p : Plain) (cpu : Cpu) → is_supervisor (with_registers p cpu).regs.sr ≡ is_supervisor cpu.regs.sr
supervisor_stays p cpu =
    let e : with_ccr cpu.regs.sr p.ccr / 2 ^ 13 ≡ cpu.regs.sr / 2 ^ 13 = omega arith in ap (λ (x : ℕ). x % 2 == 1) e

in_user_mode : {S : Type 0} (bus : Bus S) (i : System) (n : ℕ) (cpu : Cpu) (supervisor : Bool) (s : S) → supervisor ≡ false
    → Stays (run bus (choose supervisor (execute_supervised_of i n cpu) (refuse_of PRIVILEGED cpu)) s).0
in_user_mode bus i n cpu true s h = absurd (cc h)
in_user_mode bus i n cpu false s h = refused_stays bus 8 cpu s

unprivileged_stays : {S : Type 0} (bus : Bus S) (i : Instr) (n : ℕ) (cpu : Cpu) (s : S) → is_supervisor cpu.regs.sr ≡ false
    → Stays (run bus (execute_unprivileged_of i n cpu) s).0
unprivileged_stays bus i n cpu s h =
    let p = plain_of cpu.regs in
    let q = run bus (closing (perform_of i p.pc (space_of cpu) (past n p))) s in
    finish_stays bus i q.0.0 cpu (with_registers q.0.1 cpu) q.1 (supervisor_stays q.0.1 cpu ∙ h)

executed_stays : {S : Type 0} (bus : Bus S) (i : Instr) (n : ℕ) (cpu : Cpu) (s : S) → is_supervisor cpu.regs.sr ≡ false
    → Stays (run bus (execute_of i n cpu) s).0
executed_stays bus (instr.Move i) n cpu s h = unprivileged_stays bus (instr.Move i) n cpu s h
executed_stays bus (instr.Arith i) n cpu s h = unprivileged_stays bus (instr.Arith i) n cpu s h
executed_stays bus (instr.Flow i) n cpu s h = unprivileged_stays bus (instr.Flow i) n cpu s h
executed_stays bus (instr.System i) n cpu s h = in_user_mode bus i n cpu (is_supervisor cpu.regs.sr) s h

found_stays : {S : Type 0} (bus : Bus S) (cpu : Cpu) (found : FoundInstr) (s : S) → is_supervisor cpu.regs.sr ≡ false
    → Stays (run bus (either found (λ unfound. unfound_of unfound cpu) (λ found. execute_of found.0 found.1 cpu)) s).0
unfolding finish_unread_of
found_stays bus cpu (Ok found) s h = executed_stays bus found.0 found.1 cpu s h
found_stays bus cpu (Err (NoInstruction vector)) s h = refused_stays bus vector cpu s
found_stays bus cpu (Err (Unfetched refused)) s h =
    let page = page_size_by (bus ReadMmu s).0 in
    access_error_stays bus cpu.regs.pc (read_fields refused.fault refused.first page) cpu (bus ReadMmu s).1

-- ---- a step

instruction_stays : {S : Type 0} (bus : Bus S) (cpu : Cpu) (s : S) → is_supervisor cpu.regs.sr ≡ false
    → Stays (run bus (execute_next_of cpu) s).0
instruction_stays bus cpu s h =
    let r = run bus (fetched_of (space_of cpu) cpu.regs.pc) s in found_stays bus cpu r.0 r.1 h

chosen_stays : {S : Type 0} (bus : Bus S) (level : ℕ) (cpu : Cpu) (above stopped : Bool) (s : S) → is_supervisor cpu.regs.sr ≡ false
    → Stays (run bus (choose above (interrupt_of level cpu) (choose stopped (Return (finish.Idle, cpu)) (execute_next_of cpu))) s).0
chosen_stays bus level cpu true stopped s h = interrupt_stays bus level cpu s
chosen_stays bus level cpu false true s h = h
chosen_stays bus level cpu false false s h = instruction_stays bus cpu s h

step_stays : {S : Type 0} (bus : Bus S) (level : ℕ) (cpu : Cpu) (s : S) → is_supervisor cpu.regs.sr ≡ false
    → Stays (run bus (step_of level cpu) s).0
step_stays bus level cpu s h = chosen_stays bus level cpu (nat_lt (interrupt_mask cpu) (rank level)) cpu.stopped s h

pub user-stays : (m : Machine) → is_supervisor m.cpu.regs.sr ≡ false → Stays ((user_step m).0, (user_step m).1.cpu)
user-stays m h = let b = begun [] m in step_stays (bus_of rule_a) (asked_of [] b) m.cpu b.world h
