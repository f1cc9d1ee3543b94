-- Runs from a machine, one after the other.
use Rattle.std.proofs.Common.{◌≡◌, ◌∙◌, ℕ, zero, suc, ◌+◌, refl, ap, sym, subst, true, inl, inr, arith}
use Rattle.std.proofs.lemmas.Bool.{cases_Bool}
use Rattle.mb_model.specs.Keeping.{Rule}
use Rattle.mb_model.specs.declared.processor.Cpu.{Cpu}
use Rattle.mb_devices.specs.Devices.{DeviceState}
use Rattle.def_processor.specs.declared.Finish.{Finish}
use Rattle.def_processor.specs.declared.Finish.TheVariants as finish
use Rattle.def_processor.specs.Raise.{step_end}
use Rattle.def_machine.specs.Machine.{Entries, Machine, begun, going, processed, reset_with, run_of, state_after, stepped, takes_steps}
use Rattle.vm_saved.specs.Begins.{RunsAdd, HaltedRunsStay, GoingRunsCount, RunsCount, IsGoing, RunsAreGoing, StartsAreGoing}

pub halted_run : HaltedRunsStay
unfolding run_of
halted_run rule script zero m h = refl
halted_run rule script (suc n) m h = rw h refl

pub going_run : (rule : Rule) (script : Entries) (n : ℕ) (m : Machine) → takes_steps m.state ≡ true
    → run_of rule script (suc n) m ≡ run_of rule script n (stepped rule script m)
unfolding run_of
going_run rule script n m h = rw h refl

pub nothing_run : (rule : Rule) (script : Entries) (m : Machine) → run_of rule script zero m ≡ m
unfolding run_of
nothing_run rule script m = refl

pub runs_add : RunsAdd
runs_add rule script zero k m =
    ap (λ (j : ℕ). run_of rule script j m) (let e : zero + k ≡ k = omega arith in e)
    ∙ ap (run_of rule script k) (sym (nothing_run rule script m))
runs_add rule script (suc n) k m =
    ap (λ (j : ℕ). run_of rule script j m) (let e : suc n + k ≡ suc (n + k) = omega arith in e)
    ∙ elim (cases_Bool (takes_steps m.state)) [
      | inl going ↦
          going_run rule script (n + k) m going ∙ runs_add rule script n k (stepped rule script m)
          ∙ ap (run_of rule script k) (sym (going_run rule script n m going))
      | inr still ↦
          halted_run rule script (suc (n + k)) m still ∙ sym (halted_run rule script k m still)
          ∙ ap (run_of rule script k) (sym (halted_run rule script (suc n) m still))
    ]

-- ---- how many steps they take

pub stepped_steps : (rule : Rule) (script : Entries) (m : Machine) → (stepped rule script m).steps ≡ m.steps + 1
stepped_steps rule script m = refl

pub going_runs_count : GoingRunsCount
going_runs_count rule script zero m h =
    ap (λ (x : Machine). x.steps) (nothing_run rule script m) ∙ (let e : m.steps ≡ m.steps + 0 = omega arith in e)
going_runs_count rule script (suc n) m h = elim (cases_Bool (takes_steps m.state)) [
  | inl going ↦
      let same = going_run rule script n m going in
      ap (λ (x : Machine). x.steps) same
      ∙ going_runs_count rule script n (stepped rule script m) (ap (λ (x : Machine). takes_steps x.state) (sym same) ∙ h)
      ∙ (let e = stepped_steps rule script m in omega arith)
  | inr still ↦
      absurd (cc (sym still ∙ ap (λ (x : Machine). takes_steps x.state) (sym (halted_run rule script (suc n) m still)) ∙ h))
]

pub runs_count : RunsCount
runs_count rule script zero m =
    let e = ap (λ (x : Machine). x.steps) (nothing_run rule script m) in record { least = omega arith; most = omega arith }
runs_count rule script (suc n) m = elim (cases_Bool (takes_steps m.state)) [
  | inl going ↦
      let e = ap (λ (x : Machine). x.steps) (going_run rule script n m going) in
      let s = stepped_steps rule script m in
      let r = runs_count rule script n (stepped rule script m) in
      let least = r.least in
      let most = r.most in record { least = omega arith; most = omega arith }
  | inr still ↦
      let e = ap (λ (x : Machine). x.steps) (halted_run rule script (suc n) m still) in
      record { least = omega arith; most = omega arith }
]

-- ---- what their state says

state_goes : (ended : Finish) (cpu : Cpu) (d : DeviceState) → takes_steps (state_after (step_end ended) cpu d) ≡ true
    → state_after (step_end ended) cpu d ≡ going cpu d
state_goes finish.Went cpu d h = refl
state_goes (finish.Entered vector) cpu d h = refl
state_goes finish.Idle cpu d h = refl
state_goes finish.Halted cpu d h = absurd (cc h)

stepped_goes : (rule : Rule) (script : Entries) (m : Machine) → IsGoing (stepped rule script m)
stepped_goes rule script m h =
    let p = processed rule script (begun script m) in state_goes p.0.0 p.0.1 p.1.devices h

pub runs_are_going : RunsAreGoing
runs_are_going rule script zero m g = subst IsGoing (sym (nothing_run rule script m)) g
runs_are_going rule script (suc n) m g = elim (cases_Bool (takes_steps m.state)) [
  | inl going ↦
      subst IsGoing (sym (going_run rule script n m going))
      (runs_are_going rule script n (stepped rule script m) (stepped_goes rule script m))
  | inr still ↦ subst IsGoing (sym (halted_run rule script (suc n) m still)) g
]

pub starts_are_going : StartsAreGoing
unfolding reset_with
starts_are_going rule opening size = λ h. refl
