-- A step is its attempt, and the finish of the end that the attempt came to.
use Rattle.std.proofs.Common.{◌≡◌, ◌∙◌, ◌≤◌, ℕ, Bool, true, false, nat_lt, not, Ok, Err, refl, ap, subst, arith}
use Rattle.std.proofs.lemmas.Bool.Decides.{nat_tests}
use Rattle.mb_port.specs.Routine.{Bus, Routine, Return, run, either, choose}
use Rattle.mb_port.specs.declared.types.Space.{Space}
use Rattle.mb_instr.specs.declared.instruction.Instr.{Instr}
use Rattle.mb_instr.specs.declared.instruction.Instr.TheVariants as instr
use Rattle.mb_instr.specs.declared.instruction.System.{System}
use Rattle.mb_instr.specs.declared.registers.Plain.{Plain}
use Rattle.mb_instr.specs.declared.vectors.TheConstants.{PRIVILEGED}
use Rattle.mb_instr.specs.Registers.{is_supervisor, plain_of}
use Rattle.mb_model.specs.declared.processor.Cpu.{Cpu}
use Rattle.mb_model.specs.Status.{space_of}
use Rattle.def_processor.specs.declared.Finish.TheVariants as finish
use Rattle.def_instructions.specs.Ends.{Carried, OtherEnd, Performed}
use Rattle.def_processor.specs.SystemEnds.{with_registers}
use Rattle.def_instructions.specs.Rows.{perform_of}
use Rattle.def_instructions.specs.Attempt.{Unfound, NoInstruction, Unfetched, found_none, FoundInstr, fetched_of, past}
use Rattle.def_processor.specs.Raise.{is_due, trace_if_of, interrupt_of, refuse_of}
use Rattle.def_processor.specs.Step.{execute_supervised_of, execute_of, unfound_of, execute_next_of, interrupt_mask, rank}
use Rattle.law_attempts.specs.Attempts.{AttemptsPerform, AttemptsFindNone, is_attempted, NoOther, finished_by, AttemptThenFinish, IsUntraced, UntracedStepsGo}

-- ---- an attempt

-- what an attempt does with an answer of the fetch
abbrev carrying : {S : Type 0} → Bus S → Space → Plain → FoundInstr × S → Performed × S
carrying bus space p r =
    run bus (either r.0 (λ unfound. Return (found_none unfound p)) (λ found. perform_of found.0 p.pc space (past found.1 p))) r.1

pub attempts_perform : {S : Type 0} → AttemptsPerform S
attempts_perform bus space p s t i n h = ap (carrying bus space p) h

pub attempts_find_none : {S : Type 0} → AttemptsFindNone S
attempts_find_none bus space p s t unfound h = ap (carrying bus space p) h

-- ---- a step

pub chosen : {S A : Type 0} (bus : Bus S) (b : Bool) (m n : Routine A) (s : S) → b ≡ false → run bus (choose b m n) s ≡ run bus n s
chosen bus b m n s h = rw h refl

not_above : (level mask : ℕ) → level ≤ mask → nat_lt mask level ≡ false
not_above level mask h = grind (arith, nat_tests)

-- a privileged instruction is refused in user mode
in_user_mode : {S : Type 0} (bus : Bus S) (cpu : Cpu) (t : S) (i : System) (n : ℕ) (supervisor : Bool) → not supervisor ≡ true
    → run bus (choose supervisor (execute_supervised_of i n cpu) (refuse_of PRIVILEGED cpu)) t ≡ run bus (refuse_of PRIVILEGED cpu) t
in_user_mode bus cpu t i n false h = refl
in_user_mode bus cpu t i n true h = absurd (cc h)

-- an instruction that was found is carried out as the attempt does it, and then finished
executed : {S : Type 0} (bus : Bus S) (i : Instr) (n : ℕ) (cpu : Cpu) (t : S) → is_attempted i cpu ≡ true
    → run bus (execute_of i n cpu) t
    ≡ finished_by bus i cpu (run bus (perform_of i (plain_of cpu.regs).pc (space_of cpu) (past n (plain_of cpu.regs))) t)
executed bus (instr.Move i) n cpu t k = refl
executed bus (instr.Arith i) n cpu t k = refl
executed bus (instr.Flow i) n cpu t k = refl
executed bus (instr.System i) n cpu t k = in_user_mode bus cpu t i n (is_supervisor cpu.regs.sr) k

-- where none was found, the end without one is finished, as any instruction's
none_found : {S : Type 0} (bus : Bus S) (i : Instr) (unfound : Unfound) (cpu : Cpu) (p : Plain) (t : S)
    → run bus (unfound_of unfound cpu) t ≡ finished_by bus i cpu (found_none unfound p, t)
none_found bus i (NoInstruction vector) cpu p t = refl
none_found bus i (Unfetched refused) cpu p t = refl

-- what a step does with an answer of the fetch
by_found : {S : Type 0} (bus : Bus S) (cpu : Cpu) (i : Instr) (r : FoundInstr × S) → NoOther i r.0 → is_attempted i cpu ≡ true
    → run bus (either r.0 (λ unfound. unfound_of unfound cpu) (λ found. execute_of found.0 found.1 cpu)) r.1
    ≡ finished_by bus i cpu (carrying bus (space_of cpu) (plain_of cpu.regs) r)
by_found bus cpu i (Ok (j, n), t) h k =
    let P : Instr → Type 0 = λ i. is_attempted i cpu ≡ true
    → run bus (execute_of j n cpu) t
    ≡ finished_by bus i cpu (run bus (perform_of j (plain_of cpu.regs).pc (space_of cpu) (past n (plain_of cpu.regs))) t) in
    subst P h (executed bus j n cpu t) k
by_found bus cpu i (Err unfound, t) h k = none_found bus i unfound cpu (plain_of cpu.regs) t

pub attempt_then_finish : {S : Type 0} → AttemptThenFinish S
attempt_then_finish bus level cpu s i masked going other k =
    chosen bus (nat_lt (interrupt_mask cpu) (rank level)) (interrupt_of level cpu) (choose cpu.stopped (Return (finish.Idle, cpu)) (execute_next_of cpu)) s
    (not_above (rank level) (interrupt_mask cpu) masked)
    ∙ chosen bus cpu.stopped (Return (finish.Idle, cpu)) (execute_next_of cpu) s going
    ∙ by_found bus cpu i (run bus (fetched_of (space_of cpu) cpu.regs.pc) s) other k

-- ---- one that is carried out, and not traced

none_due : (cpu : Cpu) (flow : Bool) → IsUntraced cpu → is_due cpu.regs.sr flow ≡ false
none_due cpu flow untraced = rw (untraced.all, untraced.flow) refl

-- what was carried out is finished with no exception
finished_done : {S : Type 0} (bus : Bus S) (i : Instr) (cpu : Cpu) (q : Performed × S) (t : S) (done : Carried) → IsUntraced cpu → q ≡ (Ok done, t)
    → finished_by bus i cpu q ≡ ((finish.Went, with_registers done.plain cpu), t)
finished_done bus i cpu q t done untraced e =
    ap (finished_by bus i cpu) e
    ∙ ap (λ (due : Bool). run bus (trace_if_of finish.Went due cpu.regs.pc (with_registers done.plain cpu)) t) (none_due cpu done.flow untraced)

-- what was stopped was not carried out
not_done : {S : Type 0} (stop : OtherEnd) (done : Carried) (u t : S) → (let q : Performed × S = (Err stop, u) in q) ≡ (Ok done, t) → ⊥
not_done {S = S} stop done u t e = let z : Err stop ≡ Ok done = ap (λ (q : Performed × S). q.0) e in let y : ⊥ = cc in y

goes_on : {S : Type 0} (bus : Bus S) (cpu : Cpu) (done : Carried) (t : S) (r : FoundInstr × S) → IsUntraced cpu
    → carrying bus (space_of cpu) (plain_of cpu.regs) r ≡ (Ok done, t)
    → run bus (either r.0 (λ unfound. unfound_of unfound cpu) (λ found. execute_of found.0 found.1 cpu)) r.1
    ≡ ((finish.Went, with_registers done.plain cpu), t)
goes_on bus cpu done t (Ok (instr.Move i, n), u) untraced e =
    executed bus (instr.Move i) n cpu u refl ∙ finished_done bus (instr.Move i) cpu _ t done untraced e
goes_on bus cpu done t (Ok (instr.Arith i, n), u) untraced e =
    executed bus (instr.Arith i) n cpu u refl ∙ finished_done bus (instr.Arith i) cpu _ t done untraced e
goes_on bus cpu done t (Ok (instr.Flow i, n), u) untraced e =
    executed bus (instr.Flow i) n cpu u refl ∙ finished_done bus (instr.Flow i) cpu _ t done untraced e
goes_on bus cpu done t (Ok (instr.System i, n), u) untraced e = absurd (not_done _ done u t e)
goes_on bus cpu done t (Err unfound, u) untraced e = absurd (not_done _ done u t e)

pub untraced_steps_go : {S : Type 0} → UntracedStepsGo S
untraced_steps_go bus level cpu s t done masked untraced e =
    chosen bus (nat_lt (interrupt_mask cpu) (rank level)) (interrupt_of level cpu) (choose cpu.stopped (Return (finish.Idle, cpu)) (execute_next_of cpu)) s
    (not_above (rank level) (interrupt_mask cpu) masked)
    ∙ chosen bus cpu.stopped (Return (finish.Idle, cpu)) (execute_next_of cpu) s untraced.going
    ∙ goes_on bus cpu done t (run bus (fetched_of (space_of cpu) cpu.regs.pc) s) untraced e
