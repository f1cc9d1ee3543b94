-- The rest of a step that a board began: what follows from the point that it came to, up to the step's end. A trap is
-- entered, pending pieces or a line are written, or a MOVEM goes on.
--
-- T1 and T0 are clear, so no trace follows.
use Rattle.std.specs.Prelude.{ℕ, false, List, Result, Ok, Err}
use Rattle.mb_port.specs.Routine.{Routine, Return, Then, caught, write_line}
use Rattle.mb_instr.specs.declared.registers.Plain.{Plain}
use Rattle.mb_instr.specs.Registers.{plain_of}
use Rattle.mb_frames.specs.declared.pend.Pend.{Pend}
use Rattle.mb_model.specs.declared.processor.Cpu.{Cpu}
use Rattle.mb_model.specs.Status.{space_of}
use Rattle.mb_writes.specs.Transfers.{movem_in}
use Rattle.mb_writes.specs.Writing.{write_pieces_of}
use Rattle.mb_writes.specs.Moving.{Halfway, transfer_of}
use Rattle.def_processor.specs.declared.entering.Cause.{Cause}
use Rattle.def_processor.specs.declared.Finish.TheVariants as finish
use Rattle.def_processor.specs.SystemEnds.{with_registers}
use Rattle.def_processor.specs.Raise.{Stepped, raise_of, raise_last_of}
use Rattle.def_processor.specs.Step.{finish_unfinished_of, finish_unwritten_line_of, finish_untransferred_of}

-- A cause is entered. Where its frame has no place the registers become those before, and an access error is entered.
abbrev pub finish_trap_of : Cause → (before : Plain) → Cpu → Routine Stepped
finish_trap_of cause before cpu = raise_last_of cause.vector (raise_of false cause (with_registers before cpu) cpu)

-- The pieces are written, of an operand whose first byte is at `first`. At a refused one an access error is entered
-- that names it and those after it.
abbrev pub finish_writes_of : List Pend → (first : ℕ) → Cpu → Routine Stepped
finish_writes_of pending first cpu =
    caught (write_pieces_of (space_of cpu) first pending)
    (λ refused. finish_unfinished_of false refused cpu) (λ done. Return (finish.Went, cpu))

-- The line is written, or an access error is entered.
abbrev pub finish_line_of : (at : ℕ) → (line : List ℕ) → Cpu → Routine Stepped
finish_line_of at line cpu =
    caught (write_line (space_of cpu) at line)
    (λ fault. finish_unwritten_line_of false fault line cpu) (λ done. Return (finish.Went, cpu))

-- the registers with PC at the next instruction
abbrev pub at_next : ℕ → Cpu → Plain
at_next next cpu = record (plain_of cpu.regs) { pc = next }

-- by what became of the transfers of a MOVEM whose own PC the processor has
abbrev pub moved_on : (words : ℕ) → Cpu → Result Plain Halfway → Routine Stepped
moved_on words cpu (Ok p) = Return (finish.Went, with_registers p cpu)
moved_on words cpu (Err half) = finish_untransferred_of false half.fault words cpu (with_registers half.plain cpu)

-- A MOVEM, by its words and the address of its first transfer, goes on behind the first `done` transfers, and PC goes
-- to the next instruction. Until then the processor's PC is the MOVEM's own.
abbrev pub finish_movem_of : (words ea done next : ℕ) → Cpu → Routine Stepped
finish_movem_of words ea done next cpu =
    Then (transfer_of (movem_in words) ea done (space_of cpu) (at_next next cpu)) (moved_on words cpu)
