-- The finish of an instruction whose function works on the registers in place.
use Rattle.std.proofs.Common.{◌≡◌, ◌∙◌, ℕ, ◌<◌, length, refl, ap, subst, sym, Bool, Result, Ok, Err, IfOk}
use Rattle.mb_port.specs.Routine.{Bus, run}
use Rattle.mb_port.specs.declared.types.Space.{Space}
use Rattle.mb_instr.specs.declared.instruction.Instr.{Instr}
use Rattle.mb_instr.specs.declared.registers.Plain.{Plain}
use Rattle.std.specs.Prelude.{true, false}
use Rattle.mb_instr.specs.Registers.{plain_of}
use Rattle.mb_model.specs.declared.processor.Cpu.{Cpu}
use Rattle.mb_model.specs.Status.{space_of}
use Rattle.mb_writes.specs.declared.ends.Ended.{Ended}
use Rattle.mb_writes.specs.declared.ends.Ended.TheVariants as ends
use Rattle.def_instructions.specs.Ends.{Performed, closed}
use Rattle.def_instructions.specs.Rows.{perform_of}
use Rattle.def_instructions.specs.Attempt.{past}
use Rattle.def_processor.specs.SystemEnds.{with_registers}
use Rattle.def_processor.specs.Raise.{Stepped, trace_of, trace_if_of, is_due}
use Rattle.def_processor.specs.declared.Finish.{Finish}
use Rattle.def_processor.specs.declared.Finish.TheVariants as finish
use Rattle.def_processor.specs.Step.{finish_instruction_of, execute_unprivileged_of}
use Rattle.mb_operands.specs.declared.endings.Undone.{Undone}
use Rattle.mb_operands.specs.Endings.{with_end, end_of, performed_in_place}
use Rattle.law_calls.specs.Codes.{LeavesFiveCodes}
use Rattle.law_calls.proofs.Rows.{perform_codes}
use Rattle.mb_step.proofs.Registers.{same_space, same_due, registers_over, registers_same, plain_again}

-- after a refused read the registers are those before the instruction, whatever its function left
finish_left : (i : Instr) (done : Result Bool Undone) (end : Ended) (cpu : Cpu) (before now : Plain)
    → finish_instruction_of i (closed (performed_in_place done end before now)).0 cpu (with_registers (closed (performed_in_place done end before now)).1 cpu)
    ≡ finish_instruction_of i (end_of (with_end done end)) cpu (with_registers now cpu)
finish_left i (Ok flow) end cpu before now = refl
finish_left i (Err undone) (ends.Done flow) cpu before now = refl
finish_left i (Err undone) (ends.Trap vector) cpu before now = refl
finish_left i (Err undone) (ends.Refused vector) cpu before now = refl
finish_left i (Err undone) (ends.ReadFault refused) cpu before now = refl
finish_left i (Err undone) (ends.WriteFault refused) cpu before now = refl
finish_left i (Err undone) (ends.LineFault fault line) cpu before now = refl
finish_left i (Err undone) (ends.Movem refused) cpu before now = refl

-- an instruction is finished by what its function answered, and by the registers that it left
pub unprivileged_left : {S : Type 0} (bus : Bus S) (i : Instr) (n : ℕ) (cpu : Cpu) (s t : S) (done : Result Bool Undone) (end : Ended) (now : Plain)
    → run bus (perform_of i (plain_of cpu.regs).pc (space_of cpu) (past n (plain_of cpu.regs))) s
    ≡ (let r : Performed × S = (performed_in_place done end (past n (plain_of cpu.regs)) now, t) in r)
    → run bus (execute_unprivileged_of i n cpu) s ≡ run bus (finish_instruction_of i (end_of (with_end done end)) cpu (with_registers now cpu)) t
unprivileged_left {S} bus i n cpu s t done end now h =
    ap (λ (r : Performed × S). run bus (finish_instruction_of i (closed r.0).0 cpu (with_registers (closed r.0).1 cpu)) r.1) h
    ∙ ap (λ m. run bus m t) (finish_left i done end cpu (past n (plain_of cpu.regs)) now)

-- a step that ended so
abbrev ended : {S : Type 0} → Finish → Cpu → S → Stepped × S
ended end cpu t = ((end, cpu), t)

-- An instruction is finished with the processor put together: `set` is that before it, and `left` that with which the step ended.
pub finish_over : {S : Type 0} (bus : Bus S) (i : Instr) (end : Ended) (cpu set left : Cpu) (before now back : Plain) (s t : S) (f : Finish)
    → set ≡ with_registers before cpu → run bus (finish_instruction_of i end set (with_registers now set)) s ≡ ((f, left), t)
    → back ≡ plain_of left.regs → length back.a ≡ 8
    → run bus (finish_instruction_of i end (with_registers before cpu) (with_registers now cpu)) s ≡ ((f, with_registers back left), t)
finish_over bus i end cpu set left before now back s t f k h e n =
    ap (λ (c : Cpu). run bus (finish_instruction_of i end c (with_registers now cpu)) s) (sym k)
    ∙ ap (λ (c : Cpu). run bus (finish_instruction_of i end set c) s) (sym (registers_over before now cpu) ∙ ap (with_registers now) (sym k))
    ∙ h ∙ ap (λ (c : Cpu). ended f c t) (sym (registers_same back left e n))

-- the same of a trace
pub trace_over : {S : Type 0} (bus : Bus S) (address : ℕ) (cpu set left : Cpu) (now back : Plain) (s t : S) (f : Finish)
    → set ≡ with_registers now cpu → run bus (trace_of address set) s ≡ ((f, left), t)
    → back ≡ plain_of left.regs → length back.a ≡ 8
    → run bus (trace_of address (with_registers now cpu)) s ≡ ((f, with_registers back left), t)
trace_over bus address cpu set left now back s t f k h e n =
    ap (λ (c : Cpu). run bus (trace_of address c) s) (sym k) ∙ h ∙ ap (λ (c : Cpu). ended f c t) (sym (registers_same back left e n))

-- an instruction that was carried out is traced, or not
pub left_traced : {S : Type 0} (bus : Bus S) (flow due : Bool) (at : ℕ) (cpu : Cpu) (now : Plain) (s : S) (stepped : Stepped × S)
    → due ≡ is_due cpu.regs.sr flow → due ≡ true → run bus (trace_of at (with_registers now cpu)) s ≡ stepped
    → run bus (trace_if_of finish.Went (is_due cpu.regs.sr flow) at (with_registers now cpu)) s ≡ stepped
left_traced bus flow due at cpu now s stepped asked traced h =
    ap (λ (b : Bool). run bus (trace_if_of finish.Went b at (with_registers now cpu)) s) (sym asked ∙ traced) ∙ h

pub left_untraced : {S : Type 0} (bus : Bus S) (flow due : Bool) (at : ℕ) (cpu : Cpu) (now : Plain) (s : S)
    → due ≡ is_due cpu.regs.sr flow → due ≡ false
    → run bus (trace_if_of finish.Went (is_due cpu.regs.sr flow) at (with_registers now cpu)) s ≡ ((finish.Went, with_registers now cpu), s)
left_untraced bus flow due at cpu now s asked untraced =
    ap (λ (b : Bool). run bus (trace_if_of finish.Went b at (with_registers now cpu)) s) (sym asked ∙ untraced)

-- an instruction that was carried out is finished so
pub done_left : {S : Type 0} (bus : Bus S) (i : Instr) (done : Result Bool Undone) (end : Ended) (flow : Bool) (cpu : Cpu) (before now : Plain) (s : S)
    (stepped : Stepped × S) → done ≡ Ok flow
    → run bus (trace_if_of finish.Went (is_due cpu.regs.sr flow) before.pc (with_registers now cpu)) s ≡ stepped
    → run bus (finish_instruction_of i (end_of (with_end done end)) (with_registers before cpu) (with_registers now cpu)) s ≡ stepped
done_left bus i done end flow cpu before now s stepped is h =
    ap (λ (d : Result Bool Undone). run bus (finish_instruction_of i (end_of (with_end d end)) (with_registers before cpu) (with_registers now cpu)) s) is
    ∙ ap (λ (b : Bool). run bus (trace_if_of finish.Went b before.pc (with_registers now cpu)) s) (sym (same_due before cpu flow)) ∙ h

-- one that was carried out has left five condition codes
pub performed_codes : {S : Type 0} (bus : Bus S) (i : Instr) (at : ℕ) (space : Space) (p now : Plain) (s t : S) (done : Result Bool Undone) (end : Ended)
    → p.ccr < 32 → run bus (perform_of i at space p) s ≡ (let r : Performed × S = (performed_in_place done end p now, t) in r)
    → IfOk done (λ flow. now.ccr < 32)
performed_codes bus i at space p now s t (Ok flow) end less h =
    subst (λ (r : Performed × _). LeavesFiveCodes r.0) h (perform_codes bus space i at p s less)
performed_codes bus i at space p now s t (Err undone) end less h = tt

-- An instruction that works on the registers apart: `value` is the processor put together.
pub unprivileged_apart : {S : Type 0} (bus : Bus S) (i : Instr) (n : ℕ) (cpu value : Cpu) (s t : S) (done : Result Bool Undone) (end : Ended)
    (before now : Plain) → with_registers before cpu ≡ value → length before.a ≡ 8 → before.ccr < 32
    → run bus (perform_of i before.pc (space_of cpu) (past n before)) s
    ≡ (let r : Performed × S = (performed_in_place done end (past n before) now, t) in r)
    → run bus (execute_unprivileged_of i n value) s
    ≡ run bus (finish_instruction_of i (end_of (with_end done end)) (with_registers before cpu) (with_registers now cpu)) t
unprivileged_apart {S} bus i n cpu value s t done end before now k len less h =
    let whole = with_registers before cpu in
    ap (λ (c : Cpu). run bus (execute_unprivileged_of i n c) s) (sym k)
    ∙ unprivileged_left bus i n whole s t done end now
    (ap (λ (q : Plain). run bus (perform_of i q.pc (space_of whole) (past n q)) s) (plain_again before cpu len less)
    ∙ ap (λ space. run bus (perform_of i before.pc space (past n before)) s) (sym (same_space before cpu)) ∙ h
    ∙ ap (λ (q : Plain). (let r : Performed × S = (performed_in_place done end (past n q) now, t) in r)) (sym (plain_again before cpu len less)))
    ∙ ap (λ (c : Cpu). run bus (finish_instruction_of i (end_of (with_end done end)) whole c) t) (registers_over before now cpu)
