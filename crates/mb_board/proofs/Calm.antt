-- Calm steps: nothing happens at them but what their instructions do to registers and RAM.
use Rattle.std.proofs.Common.{◌≡◌, ◌∙◌, ℕ, ◌+◌, [], Bool, false, cond, refl, ap, sym, subst}
use Rattle.mb_port.specs.Routine.{run}
use Rattle.mb_model.specs.declared.processor.Cpu.{Cpu}
use Rattle.mb_model.specs.declared.outcome.RunState.TheVariants.{Running, Stopped, Off}
use Rattle.mb_model.specs.Keeping.{rule_a}
use Rattle.mb_devices.specs.Devices.{DeviceState, level_of, ticked}
use Rattle.def_processor.specs.declared.Finish.{Finish}
use Rattle.def_processor.specs.declared.Finish.TheVariants as finish
use Rattle.def_processor.specs.Raise.{step_end}
use Rattle.def_processor.specs.Step.{step_of}
use Rattle.def_machine.specs.Bus.{bus_of}
use Rattle.def_machine.specs.Machine.{Machine, processed, run_of, state_after, stepped, takes_steps}
use Rattle.def_runs.specs.Native.{user_step}
use Rattle.mb_step.specs.Modes.{KeepsMode}
use Rattle.mb_board.specs.Calm.{IsCalm}
use Rattle.mb_board.proofs.Runs.{run_of-split, run_of-step, run_of-zero}
use Rattle.mb_board.proofs.UserRuns.{quick_step}

-- the third of three by two tests
third : {A : Type 0} (a b : Bool) (x y z : A) → a ≡ false → b ≡ false → cond a x (cond b y z) ≡ z
third a b x y z e f = rw e (rw f refl)

runs_on : (cpu : Cpu) (d : DeviceState) → d.off ≡ false → cpu.stopped ≡ false → state_after (step_end finish.Went) cpu d ≡ Running
runs_on cpu d on awake = third d.off cpu.stopped Off Stopped Running on awake

-- What the instruction of a calm step leaves alone of a machine.
pub record LeavesCalm (m after : Machine) : Type 0 where
  pub devices : after.world.devices ≡ m.world.devices
  pub mode : KeepsMode m.cpu after.cpu
  pub state : after.state ≡ m.state

pub calm_on : (m after : Machine) → IsCalm m → LeavesCalm m after → IsCalm after
calm_on m after calm leaves = record {
  running = leaves.state ∙ calm.running;
  awake = leaves.mode.stopped ∙ calm.awake;
  untraced = λ flow. leaves.mode.due flow ∙ calm.untraced flow;
  still = subst (λ (d : DeviceState). ticked d ≡ d) (sym leaves.devices) calm.still;
  unasked = ap level_of leaves.devices ∙ calm.unasked;
  on = ap (λ (d : DeviceState). d.off) leaves.devices ∙ calm.on;
}

-- its instruction is the step's
pub calm_step : (m after : Machine) → IsCalm m → LeavesCalm m after → after.steps ≡ m.steps
    → run (bus_of rule_a) (step_of 0 m.cpu) m.world ≡ ((finish.Went, after.cpu), after.world) → (finish.Went, after) ≡ user_step m
calm_step m after calm leaves steps went =
    let later = calm_on m after calm leaves in
    let means : processed rule_a [] m ≡ ((finish.Went, after.cpu), after.world) =
    ap (λ (level : ℕ). run (bus_of rule_a) (step_of level m.cpu) m.world) calm.unasked ∙ went in
    quick_step m after calm.still means steps (later.running ∙ sym (runs_on after.cpu after.world.devices later.on later.awake))

-- ---- many, which are counted at their end

abbrev pub counted : ℕ → Machine → Machine
counted n m = record m { steps = n }

counted_step : (m after : Machine) (n : ℕ) → (finish.Went, after) ≡ user_step m → stepped rule_a [] (counted n m) ≡ counted (n + 1) after
counted_step m after n step = ap (λ (r : Finish × Machine). counted (n + 1) r.1) (sym step)

-- one more
pub calm_runs : (from m after : Machine) (n k : ℕ) → run_of rule_a [] k from ≡ counted n m → IsCalm m → (finish.Went, after) ≡ user_step m
    → run_of rule_a [] (k + 1) from ≡ counted (n + 1) after
calm_runs from m after n k so_far calm step =
    sym (run_of-split rule_a [] k 1 (k + 1) from refl) ∙ ap (run_of rule_a [] 1) so_far
    ∙ run_of-step rule_a [] 1 0 (counted n m) refl (ap takes_steps calm.running)
    ∙ run_of-zero rule_a [] 0 (stepped rule_a [] (counted n m)) refl ∙ counted_step m after n step
