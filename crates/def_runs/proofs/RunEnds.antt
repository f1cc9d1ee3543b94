-- How a run in user mode ends.
use Rattle.std.proofs.Common.{◌≡◌, ◌∙◌, ℕ, zero, suc, ◌+◌, [], refl, ap, sym, subst, true, false, inl, inr, arith}
use Rattle.std.proofs.lemmas.Bool.{cases_Bool}
use Rattle.mb_instr.specs.Registers.{is_supervisor}
use Rattle.mb_model.specs.Keeping.{rule_a}
use Rattle.def_processor.specs.declared.Finish.{Finish}
use Rattle.def_processor.specs.declared.Finish.TheVariants as finish
use Rattle.def_processor.specs.Raise.{step_end}
use Rattle.def_machine.specs.Machine.{Machine, processed, begun, takes_steps, state_after}
use Rattle.def_runs.specs.declared.RunEnd.{RunEnd}
use Rattle.def_runs.specs.declared.RunEnd.TheVariants.{Counted, Exit, Gone}
use Rattle.def_runs.specs.Native.{Ran, user_step, user_run, ran_by, ended_by, goes_on}
use Rattle.def_runs.specs.Native.{EndsBy, RunsEndByCause}
use Rattle.def_runs.proofs.UserMode.{Stays, user-stays}

-- ---- a run by its first step

pub run-none : (r : Ran) → user_run zero r ≡ r
unfolding user_run
run-none r = refl

pub run-on : (n : ℕ) (r : Ran) → goes_on (ran_by (user_step r.machine) r).end ≡ true → user_run (suc n) r ≡ user_run n (ran_by (user_step r.machine) r)
unfolding user_run
run-on n r h = rw h refl

pub run-off : (n : ℕ) (r : Ran) → goes_on (ran_by (user_step r.machine) r).end ≡ false → user_run (suc n) r ≡ ran_by (user_step r.machine) r
unfolding user_run
run-off n r h = rw h refl

-- ---- a step

-- a step that halts leaves a machine that takes no more
halted_by : (m after : Machine) (f : Finish) → user_step m ≡ (f, after) → f ≡ finish.Halted → takes_steps after.state ≡ false
halted_by m after f s h =
    let r = processed rule_a [] (begun [] m) in
    let of_step : r.0.0 ≡ finish.Halted = ap (λ (x : Finish × Machine). x.0) s ∙ h in
    ap (λ (x : Finish × Machine). takes_steps x.1.state) (sym s)
    ∙ ap (λ (x : Finish). takes_steps (state_after (step_end x) r.0.1 r.1.devices)) of_step

-- what a step says behind which the run goes on
pub record GoesOn (f : Finish) (r : Ran) (after : Machine) : Type 0 where
  pub counted : ended_by f after ≡ Counted
  pub going : takes_steps after.state ≡ true
  pub retired : (ran_by (f, after) r).native.retired ≡ r.native.retired + 1
  pub exceptions : (ran_by (f, after) r).native.exceptions ≡ r.native.exceptions

pub goes-on : (f : Finish) (r : Ran) (after : Machine) → user_step r.machine ≡ (f, after) → goes_on (ended_by f after) ≡ true → GoesOn f r after
goes-on finish.Went r after s h = elim (cases_Bool (takes_steps after.state)) [
  | inl on ↦ record { counted = rw on refl; going = on; retired = refl; exceptions = refl }
  | inr off ↦ absurd (cc (rw off at h))
]
goes-on (finish.Entered vector) r after s h = elim (cases_Bool (takes_steps after.state)) [
  | inl on ↦ absurd (cc (rw on at h))
  | inr off ↦ absurd (cc (rw off at h))
]
goes-on finish.Idle r after s h = elim (cases_Bool (takes_steps after.state)) [
  | inl on ↦ record { counted = rw on refl; going = on; retired = refl; exceptions = refl }
  | inr off ↦ absurd (cc (rw off at h))
]
goes-on finish.Halted r after s h = absurd (cc (rw (halted_by r.machine after finish.Halted s refl) at h))

-- and it is still in user mode
user_on : (m after : Machine) (f : Finish) → user_step m ≡ (f, after) → goes_on (ended_by f after) ≡ true → Stays (f, after.cpu)
    → is_supervisor after.cpu.regs.sr ≡ false
user_on m after finish.Went s h stays = stays
user_on m after (finish.Entered vector) s h stays = elim (cases_Bool (takes_steps after.state)) [
  | inl on ↦ absurd (cc (rw on at h))
  | inr off ↦ absurd (cc (rw off at h))
]
user_on m after finish.Idle s h stays = stays
user_on m after finish.Halted s h stays = absurd (cc (rw (halted_by m after finish.Halted s refl) at h))

gone_by : (f : Finish) (after : Machine) → takes_steps after.state ≡ false → Gone ≡ ended_by f after
gone_by f after off = rw off refl

exit_by : (vector : ℕ) (after : Machine) → takes_steps after.state ≡ true → Exit vector ≡ ended_by (finish.Entered vector) after
exit_by vector after on = rw on refl

-- the run ends with its next step
ends_with : (n : ℕ) (f : Finish) (r : Ran) (after : Machine) → r.end ≡ Counted → is_supervisor r.machine.cpu.regs.sr ≡ false
    → user_step r.machine ≡ (f, after) → goes_on (ended_by f after) ≡ false → EndsBy (suc n) r (ran_by (f, after) r) (ended_by f after)
ends_with n (finish.Entered vector) r after c user s h =
    let ran = ran_by (finish.Entered vector, after) r in
    elim (cases_Bool (takes_steps after.state)) [
      | inl on ↦ subst (λ (e : RunEnd). EndsBy (suc n) r ran e) (exit_by vector after on) (record {
        going = on;
        last = record {
          retired = zero;
          within = omega arith;
          counted = ap (λ (x : Ran). x.end) (run-none r) ∙ c;
          user = ap (λ (x : Ran). is_supervisor x.machine.cpu.regs.sr) (run-none r) ∙ user;
          step = ap (λ (x : Ran). user_step x.machine) (run-none r) ∙ s;
        };
        retired = rw on (let e : r.native.retired ≡ r.native.retired + 0 = omega arith in e);
        exceptions = rw on refl;
      })
      | inr off ↦
          subst (λ (e : RunEnd). EndsBy (suc n) r ran e) (gone_by (finish.Entered vector) after off)
          (record { gone = off; exceptions = rw off refl })
    ]
ends_with n finish.Went r after c user s h = elim (cases_Bool (takes_steps after.state)) [
  | inl on ↦ absurd (cc (rw on at h))
  | inr off ↦
      subst (λ (e : RunEnd). EndsBy (suc n) r (ran_by (finish.Went, after) r) e) (gone_by finish.Went after off)
      (record { gone = off; exceptions = refl })
]
ends_with n finish.Idle r after c user s h = elim (cases_Bool (takes_steps after.state)) [
  | inl on ↦ absurd (cc (rw on at h))
  | inr off ↦
      subst (λ (e : RunEnd). EndsBy (suc n) r (ran_by (finish.Idle, after) r) e) (gone_by finish.Idle after off)
      (record { gone = off; exceptions = refl })
]
ends_with n finish.Halted r after c user s h = elim (cases_Bool (takes_steps after.state)) [
  | inl on ↦ absurd (cc (rw on at h))
  | inr off ↦
      subst (λ (e : RunEnd). EndsBy (suc n) r (ran_by (finish.Halted, after) r) e) (gone_by finish.Halted after off)
      (record { gone = off; exceptions = refl })
]

-- ---- a run

-- what is said of the rest of a run is said of all of it
behind : (n : ℕ) (r next ran : Ran) (e : RunEnd) → next ≡ ran_by (user_step r.machine) r → goes_on next.end ≡ true
    → next.native.retired ≡ r.native.retired + 1 → next.native.exceptions ≡ r.native.exceptions
    → EndsBy n next ran e → EndsBy (suc n) r ran e
behind n r next ran Counted is on one same h = record {
  going = h.going;
  retired = (let a = h.retired in omega arith);
  exceptions = h.exceptions ∙ same;
}
behind n r next ran (Exit vector) is on one same h =
    let rest : user_run (suc h.last.retired) r ≡ user_run h.last.retired next =
    run-on h.last.retired r (sym (ap (λ (x : Ran). goes_on x.end) is) ∙ on) ∙ ap (λ (x : Ran). user_run h.last.retired x) (sym is) in record {
      going = h.going;
      last = record {
        retired = suc h.last.retired;
        within = (let a = h.last.within in omega arith);
        counted = ap (λ (x : Ran). x.end) rest ∙ h.last.counted;
        user = ap (λ (x : Ran). is_supervisor x.machine.cpu.regs.sr) rest ∙ h.last.user;
        step = ap (λ (x : Ran). user_step x.machine) rest ∙ h.last.step;
      };
      retired = (let a = h.retired in omega arith);
      exceptions = h.exceptions ∙ ap (λ (x : ℕ). x + 1) same;
    }
behind n r next ran Gone is on one same h = record { gone = h.gone; exceptions = h.exceptions ∙ same }

pub runs-end_by_cause : RunsEndByCause
runs-end_by_cause zero r c going user =
    subst (λ (ran : Ran). EndsBy zero r ran ran.end) (sym (run-none r))
    (subst (λ (e : RunEnd). EndsBy zero r r e) (sym c)
    (record { going = going; retired = (let e : r.native.retired ≡ r.native.retired + 0 = omega arith in e); exceptions = refl }))
runs-end_by_cause (suc n) r c going user =
    let s = user_step r.machine in
    let next = ran_by s r in
    elim (cases_Bool (goes_on next.end)) [
      | inl on ↦
          let so = goes-on s.0 r s.1 refl on in
          let stays = user_on r.machine s.1 s.0 refl on (user-stays r.machine user) in
          let rest = runs-end_by_cause n next so.counted so.going stays in
          subst (λ (ran : Ran). EndsBy (suc n) r ran ran.end) (sym (run-on n r on))
          (behind n r next (user_run n next) (user_run n next).end refl on so.retired so.exceptions rest)
      | inr off ↦
          subst (λ (ran : Ran). EndsBy (suc n) r ran ran.end) (sym (run-off n r off)) (ends_with n s.0 r s.1 c user refl off)
    ]

-- ---- what stays

step_keeps : (m : Machine) → (user_step m).1.steps ≡ m.steps
step_keeps m = refl

-- the board's own count of steps stays
pub run-keeps_steps : (n : ℕ) (r : Ran) → (user_run n r).machine.steps ≡ r.machine.steps
run-keeps_steps zero r = ap (λ (x : Ran). x.machine.steps) (run-none r)
run-keeps_steps (suc n) r =
    let next = ran_by (user_step r.machine) r in
    elim (cases_Bool (goes_on next.end)) [
      | inl on ↦ ap (λ (x : Ran). x.machine.steps) (run-on n r on) ∙ run-keeps_steps n next ∙ step_keeps r.machine
      | inr off ↦ ap (λ (x : Ran). x.machine.steps) (run-off n r off) ∙ step_keeps r.machine
    ]
