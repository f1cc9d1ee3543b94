-- The steps that a board in user mode leaves by an exception: which these are, and what the frame says of their rest.
use Rattle.std.specs.Prelude.{◌≡◌, ℕ, ◌%◌, ◌^◌, ◌==◌, ◌||◌, not, Bool, true, false, if◌then◌else◌, [], ◌∷◌, ◌++◌}
use Rattle.std.specs.Prelude.{◌≤◌, Option, Some, None}
use Rattle.mb_port.specs.Routine.{Bus, Routine, run}
use Rattle.mb_instr.specs.declared.registers.Plain.{Plain}
use Rattle.mb_instr.specs.declared.registers.Regs.{Regs}
use Rattle.mb_instr.specs.declared.vectors.TheConstants.{ACCESS_ERROR, ODD_COUNTER, ILLEGAL, PRIVILEGED, LINE_A, LINE_F}
use Rattle.mb_instr.specs.Registers.{is_supervisor, plain_of}
use Rattle.mb_frames.specs.declared.frame.Access.{Access}
use Rattle.mb_frames.specs.declared.frame.Frame.{Frame}
use Rattle.mb_frames.specs.declared.frame.Frame.TheVariants as frame
use Rattle.mb_model.specs.declared.processor.Cpu.{Cpu}
use Rattle.def_processor.specs.declared.Finish.{Finish}
use Rattle.def_processor.specs.declared.Finish.TheVariants as finish
use Rattle.def_processor.specs.SystemEnds.{with_registers}
use Rattle.def_processor.specs.Raise.{Stepped, finish_in, cause_at}
use Rattle.def_processor.specs.Step.{interrupt_mask, step_of, rank}
use Rattle.law_attempts.specs.Attempts.{IsUntraced, attempted_by}
use Rattle.def_runs.specs.Finishes.{finish_trap_of}
use Rattle.def_runs.specs.Frames.{left_in}
use Rattle.def_guests.specs.declared.class.Class.{Class}
use Rattle.def_guests.specs.declared.class.Class.TheVariants.{Privileged, Denied, Trapped}
use Rattle.def_guests.specs.Classes.{class_by, is_exit}
use Rattle.def_guests.specs.Rests.{rest_by}
use Rattle.mb_frames.specs.Layout.{sr_of, pc_of}

-- ---- which steps are left

-- a processor in user mode whose step is an untraced instruction
pub record IsNative (level : ℕ) (cpu : Cpu) : Type 0 where
  pub user : is_supervisor cpu.regs.sr ≡ false
  pub untraced : IsUntraced cpu
  pub masked : rank level ≤ interrupt_mask cpu

-- no exception was entered, and the processor goes on
abbrev pub is_going : Finish → Bool
is_going finish.Went = true
is_going (finish.Entered vector) = false
is_going finish.Idle = false
is_going finish.Halted = false

-- Such a step enters an exception, or halts, exactly where its attempt is not carried out.
abbrev pub ExitsTell : Type 0 → Type 0
ExitsTell S = (bus : Bus S) (level : ℕ) (cpu : Cpu) (s : S) → IsNative level cpu
    → let (performed, _) = attempted_by bus cpu s in
    is_going (finish_in (run bus (step_of level cpu) s)) ≡ not (is_exit (class_by performed))

-- ---- vectors and classes

-- the vectors of what is no instruction that user mode carries out
abbrev pub is_refusal : ℕ → Bool
is_refusal vector =
    (vector == ODD_COUNTER) || (vector == ILLEGAL) || (vector == PRIVILEGED) || (vector == LINE_A) || (vector == LINE_F)

-- the class of a step by the vector that the board entered
abbrev pub class_of_vector : ℕ → Class
class_of_vector vector = if vector == ACCESS_ERROR then Denied else if is_refusal vector then Privileged else Trapped

-- ---- what the board hands back

-- the fields of an access error
abbrev pub frame_access : Frame → Option Access
frame_access (frame.Access sr pc offset access) = Some access
frame_access _ = None

-- The guest's registers: D, and A with USP, of the board; PC and condition codes of the frame.
abbrev pub handed_by : Regs → Frame → Plain
handed_by r f = record { d = r.d; a = r.a ++ r.usp ∷ []; pc = pc_of f; ccr = sr_of f % 2 ^ 5 }

-- where no access was denied: the step is done by the guest alone, or its trap is entered
abbrev pub rest_without : Bool → ℕ → (level : ℕ) → Cpu → Plain → Routine Stepped
rest_without true vector level guest p = step_of level guest
rest_without false vector level guest p =
    finish_trap_of (cause_at vector p.pc guest.regs.pc) (plain_of guest.regs) (with_registers p guest)

-- The rest of the guest's step by the board's exit: from the guest's processor before the step, at its own interrupt
-- level, with the registers that the board hands back.
abbrev pub rest_by_frame : (vector : ℕ) → Option Access → (level : ℕ) → Cpu → Plain → Routine Stepped
rest_by_frame vector None level guest p = rest_without (is_refusal vector) vector level guest p
rest_by_frame vector (Some access) level guest p = rest_by (left_in access) level guest p
