-- The run of a board in user mode, for a monitor, and what is counted of it.
use Rattle.std.specs.Prelude.{◌≡◌, ℕ, zero, suc, ◌+◌, ◌<◌, Bool, true, false, if◌then◌else◌, [], ◌∷◌}
use Rattle.mb_instr.specs.declared.registers.Plain.{Plain}
use Rattle.mb_instr.specs.Registers.{is_supervisor, plain_of}
use Rattle.mb_model.specs.Keeping.{rule_a}
use Rattle.def_processor.specs.declared.Finish.{Finish}
use Rattle.def_processor.specs.declared.Finish.TheVariants as finish
use Rattle.def_machine.specs.Machine.{Machine, stepping, takes_steps}
use Rattle.def_runs.specs.declared.RunEnd.{RunEnd}
use Rattle.def_runs.specs.declared.RunEnd.TheVariants.{Counted, Exit, Gone}
use Rattle.def_runs.specs.Marks.{trail}

-- what is counted: the steps that the board carried out, its exits by exceptions, and the trail of those steps
pub record NativeState : Type 0 where
  pub retired : ℕ
  pub exceptions : ℕ
  pub trail : ℕ

abbrev pub nothing_counted : NativeState
nothing_counted = record { retired = 0; exceptions = 0; trail = 0 }

-- ---- a step

-- A step by the board's rule, at which nothing arrives. The board's own count of steps stays.
abbrev pub user_step : Machine → Finish × Machine
user_step m = let (ended, after) = stepping rule_a [] m in (ended, record after { steps = m.steps })

-- ---- a run

-- a run so far: how it ended, the machine, what was counted, and the registers at the beginning of the last step
pub record Ran : Type 0 where
  pub end : RunEnd
  pub machine : Machine
  pub native : NativeState
  pub before : Plain

-- a step was carried out, from these registers to those
abbrev pub with_retired : Plain → Plain → NativeState → NativeState
with_retired before after native =
    record native { retired = native.retired + 1; trail = trail native.trail (before ∷ after ∷ []) }

-- an exception was entered, by which the run is left
abbrev pub with_exception : NativeState → NativeState
with_exception native = record native { exceptions = native.exceptions + 1 }

-- What a step counts, by how it ended and the machine after it. One that entered no exception and did not halt was
-- carried out, also where it switched off.
abbrev pub with_step : Finish → Plain → Machine → NativeState → NativeState
with_step (finish.Entered vector) before after native =
    if takes_steps after.state then with_exception native else native
with_step finish.Halted before after native = native
with_step _ before after native = with_retired before (plain_of after.cpu.regs) native

-- how a run ends with a step behind which the board takes steps, or that it goes on
abbrev pub end_of : Finish → RunEnd
end_of (finish.Entered vector) = Exit vector
end_of _ = Counted

abbrev pub ended_by : Finish → Machine → RunEnd
ended_by ended after = if takes_steps after.state then end_of ended else Gone

abbrev pub goes_on : RunEnd → Bool
goes_on Counted = true
goes_on (Exit vector) = false
goes_on Gone = false

-- the run with one more step
abbrev pub ran_by : Finish × Machine → Ran → Ran
ran_by (ended, after) r = let before = plain_of r.machine.cpu.regs in record {
  end = ended_by ended after;
  machine = after;
  native = with_step ended before after r.native;
  before = before;
}

-- So many steps more, or fewer: the run ends with its first step that enters an exception, halts or switches off.
unfoldable pub user_run : ℕ → Ran → Ran
user_run zero r = r
user_run (suc n) r =
    let after = ran_by (user_step r.machine) r in if goes_on after.end then user_run n after else after

-- what a run begins with
abbrev pub about_to_run : Machine → NativeState → Plain → Ran
about_to_run m native before = record { end = Counted; machine = m; native = native; before = before }

-- ---- how it ends

-- The run's last step ended so and left this machine, behind so many steps that were carried out. It began in user
-- mode.
pub record LastStep (n : ℕ) (r : Ran) (ended : Finish) (after : Machine) : Type 0 where
  pub retired : ℕ
  pub within : retired < n
  pub counted : (user_run retired r).end ≡ Counted
  pub user : is_supervisor (user_run retired r).machine.cpu.regs.sr ≡ false
  pub step : user_step (user_run retired r).machine ≡ (ended, after)

-- Counted: the board can go on, and just so many steps were carried out.
pub record EndsCounted (n : ℕ) (r ran : Ran) : Type 0 where
  pub going : takes_steps ran.machine.state ≡ true
  pub retired : ran.native.retired ≡ r.native.retired + n
  pub exceptions : ran.native.exceptions ≡ r.native.exceptions

-- Exit: the last step entered an exception, by this vector last, and the board can go on.
pub record EndsByExit (n : ℕ) (r ran : Ran) (vector : ℕ) : Type 0 where
  pub going : takes_steps ran.machine.state ≡ true
  pub last : LastStep n r (finish.Entered vector) ran.machine
  pub retired : ran.native.retired ≡ r.native.retired + last.retired
  pub exceptions : ran.native.exceptions ≡ r.native.exceptions + 1

-- Gone: the board is halted or off.
pub record EndsGone (r ran : Ran) : Type 0 where
  pub gone : takes_steps ran.machine.state ≡ false
  pub exceptions : ran.native.exceptions ≡ r.native.exceptions

abbrev pub EndsBy : ℕ → Ran → Ran → RunEnd → Type 0
EndsBy n r ran Counted = EndsCounted n r ran
EndsBy n r ran (Exit vector) = EndsByExit n r ran vector
EndsBy n r ran Gone = EndsGone r ran

-- Each end of a run has its cause, where it began with a machine in user mode that takes steps.
abbrev pub RunsEndByCause : Type 0
RunsEndByCause = (n : ℕ) (r : Ran) → r.end ≡ Counted → takes_steps r.machine.state ≡ true
    → is_supervisor r.machine.cpu.regs.sr ≡ false → EndsBy n r (user_run n r) (user_run n r).end
