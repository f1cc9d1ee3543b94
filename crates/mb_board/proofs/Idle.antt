-- Steps at which STOP holds a machine: nothing happens at them but the ticks of the timer, so as many as are not due are one subtraction.
use Rattle.std.proofs.Common.{◌≡◌, ◌∙◌, ℕ, zero, suc, ◌+◌, ◌-◌, ◌≤◌, ◌==◌, Bool, true, false, cond, nat_lt, [], refl, ap, sym, subst, inl, inr, arith}
use Rattle.std.proofs.lemmas.Bool.Decides.{nat_tests}
use Rattle.mb_port.specs.Routine.{Routine, Return, choose, run}
use Rattle.mb_model.specs.declared.processor.Cpu.{Cpu}
use Rattle.mb_model.specs.declared.outcome.RunState.{RunState}
use Rattle.mb_model.specs.declared.outcome.RunState.TheVariants.{Running, Stopped, Off}
use Rattle.mb_model.specs.Keeping.{Rule}
use Rattle.mb_devices.specs.Devices.{DeviceState, ticked, ticks, passed, level_of, IsNotDue}
use Rattle.mb_devices.proofs.Passing.{ticks_pass}
use Rattle.def_processor.specs.declared.Finish.TheVariants as finish
use Rattle.def_processor.specs.Raise.{Stepped, interrupt_of, step_end}
use Rattle.def_processor.specs.Step.{interrupt_mask, execute_next_of, rank, step_of}
use Rattle.def_machine.specs.Bus.{bus_of}
use Rattle.def_machine.specs.Machine.{Machine, run_of, state_after, stepped, takes_steps, with_finish}
use Rattle.def_runs.proofs.Batches.{one_tick}
use Rattle.mb_board.specs.Idle.{IsHeld}
use Rattle.mb_board.proofs.Runs.{run_of-step}

-- ---- one

-- the second of three by two tests
second : {A : Type 0} (a b : Bool) (x y z : A) → a ≡ false → b ≡ true → cond a x (cond b y z) ≡ y
second a b x y z e f = rw e (rw f refl)

chosen : (a b : Bool) (x y z : Routine Stepped) → a ≡ false → b ≡ true → choose a x (choose b y z) ≡ y
chosen a b x y z e f = rw e (rw f refl)

not_above : (mask level : ℕ) → level ≤ mask → nat_lt mask level ≡ false
not_above mask level h = grind (arith, nat_tests)

-- the processor has nothing to do
idles : (level : ℕ) (cpu : Cpu) → rank level ≤ interrupt_mask cpu → cpu.stopped ≡ true → step_of level cpu ≡ Return (finish.Idle, cpu)
idles level cpu masked stopped =
    chosen (nat_lt (interrupt_mask cpu) (rank level)) cpu.stopped (interrupt_of level cpu) (Return (finish.Idle, cpu)) (execute_next_of cpu)
    (not_above (interrupt_mask cpu) (rank level) masked) stopped

stays_stopped : (cpu : Cpu) (d : DeviceState) → d.off ≡ false → cpu.stopped ≡ true → state_after (step_end finish.Idle) cpu d ≡ Stopped
stays_stopped cpu d on stopped = second d.off cpu.stopped Off Stopped Running on stopped

off_by : (a b : Bool) (d e f : DeviceState) → e.off ≡ d.off → f.off ≡ d.off → (cond a d (cond b e f)).off ≡ d.off
off_by true b d e f h k = refl
off_by false true d e f h k = h
off_by false false d e f h k = k

off_ticked : (d : DeviceState) → (ticked d).off ≡ d.off
unfolding ticked
off_ticked d = off_by (d.period == 0) (d.count - 1 == 0) d (record d { pending = true; count = d.period }) (record d { count = d.count - 1 }) refl refl

-- a machine behind so many idle steps, with its devices then
abbrev pub idled : ℕ → DeviceState → Machine → Machine
idled k d m = record m { world = record m.world { devices = d }; steps = m.steps + k }

idle_step : (rule : Rule) (m : Machine) → IsHeld m → rank (level_of (ticked m.world.devices)) ≤ interrupt_mask m.cpu
    → stepped rule [] m ≡ idled 1 (ticked m.world.devices) m
idle_step rule m held masked =
    let d = ticked m.world.devices in
    let of : RunState → Machine = λ s. record m { world = record m.world { devices = d }; steps = m.steps + 1; state = s } in
    ap (λ (r : Routine Stepped). (with_finish m (run (bus_of rule) r (record m.world { devices = d }))).1)
    (idles (level_of d) m.cpu masked held.stopped)
    ∙ ap of (stays_stopped m.cpu d (off_ticked m.world.devices ∙ held.on) held.stopped ∙ sym held.state)

-- ---- many

one_of : (n : ℕ) (d : DeviceState) → IsNotDue (suc n) d → IsNotDue 1 d
one_of n d (inl still) = inl still
one_of n d (inr less) = inr (omega arith)

idle_ticks : (rule : Rule) (n : ℕ) (m : Machine) → IsHeld m → IsNotDue n m.world.devices → run_of rule [] n m ≡ idled n (ticks n m.world.devices) m
unfolding run_of
idle_ticks rule zero m held due = ap (λ (k : ℕ). record m { steps = k }) (let e : m.steps ≡ m.steps + 0 = omega arith in e)
idle_ticks rule (suc n) m held due =
    let d = m.world.devices in
    let once = ticks_pass 1 d (one_of n d due) in
    let level : level_of (ticked d) ≡ level_of d = ap level_of once.at_once ∙ once.level in
    let masked : rank (level_of (ticked d)) ≤ interrupt_mask m.cpu =
    subst (λ (k : ℕ). rank k ≤ interrupt_mask m.cpu) (sym level) held.masked in
    let next : IsHeld (idled 1 (ticked d) m) = record {
      state = held.state;
      stopped = held.stopped;
      on = off_ticked d ∙ held.on;
      masked = masked;
    } in
    run_of-step rule [] (suc n) n m refl (ap takes_steps held.state) ∙ ap (run_of rule [] n) (idle_step rule m held masked)
    ∙ idle_ticks rule n (idled 1 (ticked d) m) next (one_tick d n due)
    ∙ ap (λ (k : ℕ). record m { world = record m.world { devices = ticks (suc n) d }; steps = k })
    (let e : m.steps + 1 + n ≡ m.steps + suc n = omega arith in e)

pub idle_run : (rule : Rule) (n : ℕ) (m : Machine) → IsHeld m → IsNotDue n m.world.devices → run_of rule [] n m ≡ idled n (passed n m.world.devices) m
idle_run rule n m held due =
    idle_ticks rule n m held due ∙ ap (λ (d : DeviceState). idled n d m) (ticks_pass n m.world.devices due).at_once
