-- A step, its attempt, and the finish of the end that the attempt came to.
use Rattle.std.specs.Prelude.{◌≡◌, ℕ, ◌≤◌, Bool, true, false, not, Ok, Err}
use Rattle.mb_port.specs.Routine.{Bus, run}
use Rattle.mb_port.specs.declared.types.Space.{Space}
use Rattle.mb_instr.specs.declared.instruction.Instr.{Instr}
use Rattle.mb_instr.specs.declared.instruction.Instr.TheVariants as instr
use Rattle.mb_instr.specs.declared.registers.Plain.{Plain}
use Rattle.mb_instr.specs.Registers.{is_supervisor, plain_of}
use Rattle.mb_model.specs.declared.processor.Cpu.{Cpu}
use Rattle.mb_model.specs.Status.{space_of}
use Rattle.def_processor.specs.declared.Finish.TheVariants as finish
use Rattle.def_instructions.specs.Ends.{Carried, Performed, closed}
use Rattle.def_processor.specs.SystemEnds.{with_registers}
use Rattle.def_instructions.specs.Rows.{perform_of}
use Rattle.def_instructions.specs.Attempt.{Unfound, found_none, FoundInstr, fetched_of, past, attempt_of}
use Rattle.def_processor.specs.Raise.{Stepped, traces_all, traces_flow}
use Rattle.def_processor.specs.Step.{finish_instruction_of, interrupt_mask, rank, step_of}

-- ---- an attempt

-- An instruction was found: the attempt is what its row does, from where it was fetched.
abbrev pub AttemptsPerform : Type 0 → Type 0
AttemptsPerform S = (bus : Bus S) (space : Space) (p : Plain) (s t : S) (i : Instr) (n : ℕ)
    → run bus (fetched_of space p.pc) s ≡ (Ok (i, n), t)
    → run bus (attempt_of space p) s ≡ run bus (perform_of i p.pc space (past n p)) t

-- None was found: the attempt ends with the fetch, and the registers are as before.
abbrev pub AttemptsFindNone : Type 0 → Type 0
AttemptsFindNone S = (bus : Bus S) (space : Space) (p : Plain) (s t : S) (unfound : Unfound)
    → run bus (fetched_of space p.pc) s ≡ (Err unfound, t)
    → run bus (attempt_of space p) s ≡ (found_none unfound p, t)

-- ---- a step

-- an attempt carries out all instructions but the privileged ones of a supervisor
abbrev pub is_attempted : Instr → Cpu → Bool
is_attempted (instr.System i) cpu = not (is_supervisor cpu.regs.sr)
is_attempted _ cpu = true

-- no other instruction was found than this one
abbrev pub NoOther : Instr → FoundInstr → Type 0
NoOther i (Ok (found, _)) = found ≡ i
NoOther i (Err unfound) = Unit {0}

-- the fetch of a step, and its attempt
abbrev pub fetched_by : {S : Type 0} → Bus S → Cpu → S → FoundInstr × S
fetched_by bus cpu s = run bus (fetched_of (space_of cpu) cpu.regs.pc) s

abbrev pub attempted_by : {S : Type 0} → Bus S → Cpu → S → Performed × S
attempted_by bus cpu s = run bus (attempt_of (space_of cpu) (plain_of cpu.regs)) s

-- the finish of an attempt that came to this
abbrev pub finished_by : {S : Type 0} → Bus S → Instr → Cpu → Performed × S → Stepped × S
finished_by bus i cpu (performed, after) =
    let (end, registers) = closed performed in run bus
    (finish_instruction_of i end cpu (with_registers registers cpu)) after

-- A step that takes no interrupt, of a processor that is not stopped, is its attempt and the finish of the attempt's
-- end. Where no instruction was found that end says all, and the finish is that of any instruction.
abbrev pub AttemptThenFinish : Type 0 → Type 0
AttemptThenFinish S = (bus : Bus S) (level : ℕ) (cpu : Cpu) (s : S) (i : Instr)
    → rank level ≤ interrupt_mask cpu → cpu.stopped ≡ false
    → let (found, _) = fetched_by bus cpu s in NoOther i found
    → is_attempted i cpu ≡ true
    → run bus (step_of level cpu) s ≡ finished_by bus i cpu (attempted_by bus cpu s)

-- neither stopped nor traced
pub record IsUntraced (cpu : Cpu) : Type 0 where
  pub going : cpu.stopped ≡ false
  pub all : traces_all cpu.regs.sr ≡ false
  pub flow : traces_flow cpu.regs.sr ≡ false

-- Such a step whose attempt is carried out enters no exception, and has the attempt's registers.
abbrev pub UntracedStepsGo : Type 0 → Type 0
UntracedStepsGo S = (bus : Bus S) (level : ℕ) (cpu : Cpu) (s t : S) (done : Carried)
    → rank level ≤ interrupt_mask cpu → IsUntraced cpu → attempted_by bus cpu s ≡ (Ok done, t)
    → run bus (step_of level cpu) s ≡ ((finish.Went, with_registers done.plain cpu), t)
