-- Exceptions in a step: how each is entered, and what follows where its frame has no place.
use Rattle.std.specs.Prelude.{ℕ, ◌+◌, ◌-◌, ◌%◌, ◌||◌, ◌&&◌, bit_or, Bool, true, false, if◌then◌else◌}
use Rattle.std.specs.Prelude.{Some, None, Result, Ok, Err}
use Rattle.mb_port.specs.Routine.{Routine, Return, Then, caught, choose}
use Rattle.mb_port.specs.declared.types.Fault.{Fault}
use Rattle.mb_port.specs.Bits.{has_bit}
use Rattle.mb_instr.specs.declared.status.TheConstants.{T0, T1}
use Rattle.mb_instr.specs.declared.vectors.TheConstants.{ACCESS_ERROR, TRACE, INTERRUPT}
use Rattle.mb_frames.specs.declared.frame.Access.{Access}
use Rattle.mb_frames.specs.declared.status_bits.TheConstants.{CT}
use Rattle.mb_frames.specs.AccessFields.{check_fields}
use Rattle.mb_model.specs.declared.processor.Cpu.{Cpu}
use Rattle.def_processor.specs.declared.entering.Cause.{Cause}
use Rattle.def_processor.specs.declared.entering.Entered.{Entered}
use Rattle.def_processor.specs.declared.entering.Entered.TheVariants as entered
use Rattle.def_processor.specs.declared.StepEnd.{StepEnd}
use Rattle.def_processor.specs.declared.StepEnd.TheVariants as step
use Rattle.def_processor.specs.declared.Finish.{Finish}
use Rattle.def_processor.specs.declared.Finish.TheVariants as finish
use Rattle.def_processor.specs.Entry.{enter_of}

-- how a step ended, and the processor then
abbrev pub Stepped : Type 0
Stepped = Finish × Cpu

-- how a step ended that came to this
abbrev pub finish_in : {S : Type 0} → Stepped × S → Finish
finish_in ((end, _), _) = end

-- the same without a word of exceptions
abbrev pub step_end : Finish → StepEnd
step_end finish.Went = step.Went
step_end (finish.Entered vector) = step.Went
step_end finish.Idle = step.Idle
step_end finish.Halted = step.Halted

abbrev pub by_its_end : {S : Type 0} → Stepped × S → (StepEnd × Cpu) × S
by_its_end ((ended, cpu), s) = ((step_end ended, cpu), s)

-- ---- trace bits

-- T1 asks for a trace after each instruction
abbrev pub traces_all : ℕ → Bool
traces_all sr = has_bit sr T1

-- T0 asks for a trace after each change of flow
abbrev pub traces_flow : ℕ → Bool
traces_flow sr = has_bit sr T0

-- a trace is due after an instruction that is done, by the bits at its start and whether it changed the flow
abbrev pub is_due : ℕ → Bool → Bool
is_due sr flow = traces_all sr || (traces_flow sr && flow)

-- ---- access errors

-- CT: a trace was due
abbrev pub has_ct : Access → Bool
has_ct access = has_bit access.ssw CT

abbrev pub with_ct : Bool → Access → Access
with_ct due access = if due then record access { ssw = bit_or access.ssw CT } else access

abbrev pub access_cause : ℕ → Access → Cause
access_cause pc access = record { vector = ACCESS_ERROR; pc = pc; address = 0; access = Some access; level = 0 }

-- the entry of an access error, which ends the step
abbrev pub ends_step : Entered → Finish
ends_step entered.Done = finish.Entered ACCESS_ERROR
ends_step _ = finish.Halted

-- An access error is entered with this PC and these fields. Where its own frame has no place the processor halts.
abbrev pub access_error_of : ℕ → Access → Cpu → Routine Stepped
access_error_of pc access cpu =
    Then (enter_of (access_cause pc access) cpu) (λ (end, after). Return (ends_step end, after))

-- ---- other exceptions

-- an exception was entered, or the step ended instead
abbrev pub Raised : Type 0
Raised = Result Cpu Stepped

-- A check of a frame was refused: an access error is entered from the processor as it is kept for that, with its PC.
-- CT is set where it was a trace's frame.
abbrev pub unchecked_of : Bool → Fault → Cpu → Routine Stepped
unchecked_of is_trace fault kept = access_error_of kept.regs.pc (with_ct is_trace (check_fields fault)) kept

-- what follows an entry that came to this
abbrev pub raised : Bool → Cpu → Entered → Cpu → Routine Raised
raised is_trace kept entered.Done cpu = Return (Ok cpu)
raised is_trace kept (entered.Faulted fault) cpu =
    Then (unchecked_of is_trace fault kept) (λ stepped. Return (Err stepped))
raised is_trace kept entered.DoubleFault cpu = Return (Err (finish.Halted, cpu))

-- An exception is entered: a trace, or any other one but an access error. `kept` is the processor as an access error
-- in its place finds it.
abbrev pub raise_of : Bool → Cause → Cpu → Cpu → Routine Raised
raise_of is_trace c kept cpu = Then (enter_of c cpu) (λ (end, after). raised is_trace kept end after)

-- the exception of this vector, which ends the step
abbrev pub raise_last_of : ℕ → Routine Raised → Routine Stepped
raise_last_of vector m = caught m (λ stepped. Return stepped) (λ cpu. Return (finish.Entered vector, cpu))

-- ---- interrupts

abbrev pub interrupt_cause : ℕ → ℕ → Cause
interrupt_cause level pc = record { vector = INTERRUPT + level; pc = pc; address = 0; access = None; level = level }

-- The entry of an interrupt. Where its frames have no place no register has changed.
abbrev pub interrupt_of : ℕ → Cpu → Routine Stepped
interrupt_of level cpu = raise_last_of (INTERRUPT + level) (raise_of false (interrupt_cause level cpu.regs.pc) cpu cpu)

-- ---- exceptions of instructions

abbrev pub cause_at : ℕ → ℕ → ℕ → Cause
cause_at vector pc address = record { vector = vector; pc = pc; address = address; access = None; level = 0 }

-- Trace: the frame has the PC now, and the address of the instruction. It is the last exception of a step.
abbrev pub trace_of : ℕ → Cpu → Routine Stepped
trace_of address cpu = raise_last_of TRACE (raise_of true (cause_at TRACE cpu.regs.pc address) cpu cpu)

-- a trace of the instruction at an address, where it is due; else the step ends so
abbrev pub trace_if_of : Finish → Bool → ℕ → Cpu → Routine Stepped
trace_if_of so_far due address cpu = choose due (trace_of address cpu) (Return (so_far, cpu))

-- An instruction traps: the frame has the next PC, and the address of the instruction. T1 asks for a trace behind it,
-- with the handler's PC. Where the frame has no place all registers are as before the instruction.
abbrev pub raise_trap_of : ℕ → Cpu → Cpu → Routine Stepped
raise_trap_of vector before cpu =
    let at = before.regs.pc in
    caught (raise_of false (cause_at vector cpu.regs.pc at) before cpu)
    (λ stepped. Return stepped)
    (λ handler. trace_if_of (finish.Entered vector) (traces_all before.regs.sr) at handler)

-- An instruction is not carried out: the frame has its own PC, and for an odd PC the even address below. All registers
-- are as before, and no trace is due.
unfoldable pub refuse_of : ℕ → Cpu → Routine Stepped
refuse_of vector before =
    let at = before.regs.pc in
    raise_last_of vector (raise_of false (cause_at vector at (at - at % 2)) before before)
