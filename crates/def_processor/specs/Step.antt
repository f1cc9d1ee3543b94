-- One step of the processor: the entry of an interrupt, an idle tick, or an instruction with the exceptions that it
-- causes.
use Rattle.std.specs.Prelude.{◌≡◌, ℕ, ◌+◌, ◌*◌, ◌%◌, ◌^◌, ◌||◌, ◌&&◌, ◌==◌, not, nat_lt, Bool, true, false, List, [], ◌∷◌}
use Rattle.std.specs.Prelude.{if◌then◌else◌}
use Rattle.mb_port.specs.Routine.{Bus, Routine, Return, Then, caught, choose, mmu, run}
use Rattle.mb_instr.specs.declared.instruction.Instr.{Instr}
use Rattle.mb_instr.specs.declared.instruction.Instr.TheVariants as instr
use Rattle.mb_instr.specs.declared.instruction.System.{System}
use Rattle.mb_instr.specs.declared.instruction.System.TheVariants as system
use Rattle.mb_instr.specs.declared.vectors.TheConstants.{PRIVILEGED}
use Rattle.mb_instr.specs.Codes.{words_of}
use Rattle.mb_instr.specs.Shapes.{operands_at}
use Rattle.mb_instr.specs.Rows.{row, system_row}
use Rattle.mb_instr.specs.Registers.{is_supervisor, plain_of}
use Rattle.mb_instr.specs.Registers as registers
use Rattle.mb_frames.specs.declared.pend.Pend.{Pend}
use Rattle.mb_port.specs.declared.types.Fault.{Fault}
use Rattle.mb_frames.specs.AccessFields.{no_fields, read_fields, write_fields, line_fields, access_fields}
use Rattle.mb_model.specs.declared.processor.Cpu.{Cpu}
use Rattle.mb_model.specs.declared.status.TheConstants.{NON_MASKABLE}
use Rattle.mb_model.specs.Status.{space_of}
use Rattle.mb_model.specs.Pages.{page_size_by}
use Rattle.mb_ea.specs.declared.reading.ReadFault.{ReadFault}
use Rattle.mb_writes.specs.declared.ends.WriteFault.{WriteFault}
use Rattle.mb_writes.specs.declared.ends.MovemFault.{MovemFault}
use Rattle.mb_writes.specs.declared.ends.Ended.{Ended}
use Rattle.mb_writes.specs.declared.ends.Ended.TheVariants as ended
use Rattle.mb_writes.specs.Transfers.{movem_in, refused_transfer}
use Rattle.def_processor.specs.declared.Finish.TheVariants as finish
use Rattle.def_instructions.specs.Ends.{closing}
use Rattle.def_processor.specs.SystemEnds.{with_registers, system_closing}
use Rattle.def_processor.specs.System.{perform_system_of}
use Rattle.def_processor.specs.Return.{Held, continues, return_from_of, holding}
use Rattle.def_instructions.specs.Rows.{perform_of}
use Rattle.def_instructions.specs.Attempt.{Unfound, NoInstruction, Unfetched, past, fetched_of}
use Rattle.def_processor.specs.Raise.{Stepped, finish_in, traces_all, is_due, has_ct, with_ct, access_error_of, interrupt_of}
use Rattle.def_processor.specs.Raise.{trace_if_of, raise_trap_of, refuse_of}

-- ---- the finish of an instruction

-- by the bytes of a page of the tables: by them the frame of an access error says whether the refused piece lies in
-- another page than the first byte (MA)
abbrev pub by_page_size : (ℕ → Routine Stepped) → Routine Stepped
by_page_size finish = Then mmu (λ registers. finish (page_size_by registers))

-- a fetch, a read or a locked check was refused: all registers are as before
unfoldable pub finish_unread_of : ReadFault → Cpu → Routine Stepped
finish_unread_of refused before =
    by_page_size (λ page. access_error_of before.regs.pc (read_fields refused.fault refused.first page) before)

-- a write was refused of an operand that has pieces left: the instruction is otherwise complete, and CT says that a
-- trace is due
abbrev pub finish_unfinished_of : Bool → WriteFault → Cpu → Routine Stepped
finish_unfinished_of due refused cpu =
    by_page_size (λ page.
    let fields = write_fields refused.fault refused.first refused.rest.items page in
    access_error_of cpu.regs.pc (with_ct due fields) cpu)

-- a write was refused of which nothing is left: all registers are as before
abbrev pub unbegun_of : WriteFault → Cpu → Routine Stepped
unbegun_of refused before =
    by_page_size (λ page. access_error_of before.regs.pc (write_fields refused.fault refused.first [] page) before)

abbrev pub finish_unwritten_of : Bool → WriteFault → List Pend → Cpu → Cpu → Routine Stepped
finish_unwritten_of due refused [] before cpu = unbegun_of refused before
finish_unwritten_of due refused (piece ∷ pieces) before cpu = finish_unfinished_of due refused cpu

-- the write of a line was refused: the instruction is otherwise complete, and CT says that a trace is due
abbrev pub finish_unwritten_line_of : Bool → Fault → List ℕ → Cpu → Routine Stepped
finish_unwritten_line_of due fault line cpu =
    by_page_size (λ page. access_error_of cpu.regs.pc (with_ct due (line_fields fault line page)) cpu)

-- two words as a long
abbrev pub long_of : List ℕ → ℕ
long_of (first ∷ second ∷ others) = first * 2 ^ 16 + second
long_of _ = 0

-- the operation and mask words of a MOVEM
abbrev pub movem_words : Instr → ℕ
movem_words i = long_of (words_of (row i))

-- A transfer of a MOVEM was refused: what was loaded stays, and the frame has the PC of the instruction and the next
-- one. CT says that a trace is due, of a MOVEM that stores alone.
abbrev pub finish_untransferred_of : Bool → MovemFault → ℕ → Cpu → Cpu → Routine Stepped
finish_untransferred_of due refused words before cpu =
    by_page_size (λ page.
    let fields = access_fields (refused_transfer refused words cpu.regs.pc) page in
    access_error_of before.regs.pc (with_ct (due && not (movem_in words).is_load) fields) cpu)

-- BSR and JSR change the flow, and are the only ones of their family that write.
abbrev pub is_flow : Instr → Bool
is_flow (instr.Flow i) = true
is_flow _ = false

-- The finish of an instruction that ended so, by the processor before it and after it. Whether a trace is due is said
-- by the bits before it.
abbrev pub finish_instruction_of : Instr → Ended → Cpu → Cpu → Routine Stepped
finish_instruction_of i (ended.Done flow) before cpu =
    trace_if_of finish.Went (is_due before.regs.sr flow) before.regs.pc cpu
finish_instruction_of i (ended.Trap vector) before cpu = raise_trap_of vector before cpu
finish_instruction_of i (ended.Refused vector) before cpu = refuse_of vector before
finish_instruction_of i (ended.ReadFault refused) before cpu = finish_unread_of refused before
finish_instruction_of i (ended.WriteFault refused) before cpu =
    finish_unwritten_of (is_due before.regs.sr (is_flow i)) refused refused.rest.items before cpu
finish_instruction_of i (ended.LineFault fault line) before cpu =
    finish_unwritten_line_of (traces_all before.regs.sr) fault line cpu
finish_instruction_of i (ended.Movem refused) before cpu =
    finish_untransferred_of (traces_all before.regs.sr) refused (movem_words i) before cpu

-- ---- RTE

-- where no frame of an access error was taken
abbrev pub nothing_held : Held
nothing_held = record { access = no_fields; pc = 0 }

-- after RTE: the trace bits before it ask for a trace, or its frame does, by CT or by T1 where a MOVEM went on
abbrev pub is_due_by : Held → Cpu → Bool
is_due_by held cpu = has_ct held.access || (continues held.access && traces_all cpu.regs.sr)

-- A transfer of the MOVEM was refused again: a frame as the one that was taken.
abbrev pub finish_untransferred_again_of : Bool → MovemFault → Held → Cpu → Routine Stepped
finish_untransferred_again_of due refused held cpu =
    let old = held.access in
    by_page_size (λ page.
    let fields = access_fields (refused_transfer refused old.pd2 old.pd1) page in
    access_error_of held.pc (with_ct (due || has_ct old) fields) cpu)

-- The finish of RTE. A trace has the address of RTE where the bits before it asked for it, and else the frame's PC.
abbrev pub finish_return_of : Ended → Held → Cpu → Cpu → Routine Stepped
finish_return_of (ended.Done flow) held before cpu =
    let asked = is_due before.regs.sr flow in
    trace_if_of finish.Went (asked || is_due_by held cpu) (if asked then before.regs.pc else held.pc) cpu
finish_return_of (ended.Movem refused) held before cpu =
    finish_untransferred_again_of (is_due before.regs.sr true) refused held cpu
finish_return_of end held before cpu = finish_instruction_of (instr.System system.Rte) end before cpu

abbrev pub rte_of : Cpu → Routine Stepped
rte_of cpu =
    Then (holding nothing_held (return_from_of cpu)) (λ (end, after, held). finish_return_of end held cpu after)

-- ---- an instruction

-- the processor with PC past so many words
abbrev pub beyond : ℕ → Cpu → Cpu
beyond n cpu = record cpu { regs = record cpu.regs { pc = (cpu.regs.pc + 2 * n) % 2 ^ 32 } }

-- a privileged instruction of so many words, in supervisor mode
abbrev pub execute_supervised_of : System → ℕ → Cpu → Routine Stepped
execute_supervised_of system.Rte n cpu = rte_of cpu
execute_supervised_of i n cpu =
    let moved = beyond n cpu in
    Then (system_closing moved (perform_system_of i (operands_at (system_row i) cpu.regs.pc) moved))
    (λ (end, after). finish_instruction_of (instr.System i) end cpu after)

-- an instruction of so many words that is not privileged: it knows the space of its accesses alone
abbrev pub execute_unprivileged_of : Instr → ℕ → Cpu → Routine Stepped
execute_unprivileged_of i n cpu =
    let p = plain_of cpu.regs in
    Then (closing (perform_of i p.pc (space_of cpu) (past n p)))
    (λ (end, after). finish_instruction_of i end cpu (with_registers after cpu))

-- An instruction is carried out, and finished. A privileged one needs supervisor mode.
abbrev pub execute_of : Instr → ℕ → Cpu → Routine Stepped
execute_of (instr.System i) n cpu =
    choose (is_supervisor cpu.regs.sr) (execute_supervised_of i n cpu) (refuse_of PRIVILEGED cpu)
execute_of i n cpu = execute_unprivileged_of i n cpu

-- no instruction was found
abbrev pub unfound_of : Unfound → Cpu → Routine Stepped
unfound_of (NoInstruction vector) cpu = refuse_of vector cpu
unfound_of (Unfetched refused) cpu = finish_unread_of refused cpu

-- An instruction is fetched at PC, one word at a time, and carried out.
abbrev pub execute_next_of : Cpu → Routine Stepped
execute_next_of cpu =
    caught (fetched_of (space_of cpu) cpu.regs.pc)
    (λ unfound. unfound_of unfound cpu)
    (λ (i, n). execute_of i n cpu)

-- ---- a step

abbrev pub interrupt_mask : Cpu → ℕ
interrupt_mask cpu = registers.interrupt_mask cpu.regs.sr

-- how high an interrupt of a level stands beside a mask: one that is not masked is above every mask
abbrev pub rank : ℕ → ℕ
rank level = if level == NON_MASKABLE then 8 else level

-- One step, with an interrupt of this level asked for, or of level 0 for none. Above the mask, or at level 7, it is
-- entered, and the step has nothing else; a processor that is stopped idles.
abbrev pub step_of : ℕ → Cpu → Routine Stepped
step_of level cpu =
    choose (nat_lt (interrupt_mask cpu) (rank level)) (interrupt_of level cpu)
    (choose cpu.stopped (Return (finish.Idle, cpu)) (execute_next_of cpu))

-- The processor halts at the step: the frame of an access error has no place, or a vector can't be read.
abbrev pub Halts : {S : Type 0} → Bus S → ℕ → Cpu → S → Type 0
Halts bus level cpu s = finish_in (run bus (step_of level cpu) s) ≡ finish.Halted
