-- A run in user mode by its first step.
use Rattle.std.proofs.Common.{◌≡◌, ◌∙◌, ℕ, zero, suc, ◌+◌, ◌-◌, ◌<◌, ◌≤◌, ◌⊎◌, [], arith, inl, inr, refl, ap, sym, subst, Bool, true, false}
use Rattle.std.specs.Prelude.{if◌then◌else◌}
use Rattle.std.proofs.lemmas.Bool.{cases_Bool}
use Rattle.mb_instr.specs.declared.registers.Plain.{Plain}
use Rattle.mb_instr.specs.Registers.{is_supervisor, plain_of}
use Rattle.mb_model.specs.Keeping.{rule_a}
use Rattle.mb_model.specs.declared.outcome.RunState.{RunState}
use Rattle.mb_devices.specs.Devices.{DeviceState, ticked}
use Rattle.def_processor.specs.Raise.{Stepped, step_end}
use Rattle.def_processor.specs.declared.Finish.{Finish}
use Rattle.def_processor.specs.declared.Finish.TheVariants as finish
use Rattle.def_machine.specs.World.{World}
use Rattle.def_machine.specs.Machine.{Machine, processed, state_after, takes_steps, with_devices, with_finish}
use Rattle.def_runs.specs.declared.RunEnd.{RunEnd}
use Rattle.def_runs.specs.declared.RunEnd.TheVariants.{Counted}
use Rattle.def_runs.specs.Native.{NativeState, Ran, user_step, user_run, ran_by, about_to_run, ended_by, goes_on, with_retired, with_step, EndsBy}
use Rattle.mb_board.specs.Fits.{Continues, IsFit, FitsAlong}
use Rattle.mb_board.specs.Spelling.{gathered, Begins, Leads}
use Rattle.def_runs.proofs.RunEnds.{run-none, run-on, run-off, goes-on, runs-end_by_cause}

abbrev pub ran_of : RunEnd → Machine → NativeState → Plain → Ran
ran_of end m native before = record { end = end; machine = m; native = native; before = before }

-- a step behind which the run goes on
steps-on : (k n : ℕ) (r : Ran) (m : Machine) (native : NativeState) (before : Plain) → k ≡ suc n
    → ran_of Counted m native before ≡ ran_by (user_step r.machine) r → user_run n (about_to_run m native before) ≡ user_run k r
steps-on k n r m native before count is =
    let on : goes_on (ran_by (user_step r.machine) r).end ≡ true = sym (ap (λ (x : Ran). goes_on x.end) is) in
    ap (λ (x : Ran). user_run n x) is ∙ sym (run-on n r on) ∙ ap (λ (j : ℕ). user_run j r) (sym count)

-- a step with which the run ends
step-off : (k n : ℕ) (r ran : Ran) → k ≡ suc n → ran ≡ ran_by (user_step r.machine) r → goes_on ran.end ≡ false → ran ≡ user_run k r
step-off k n r ran count is left =
    is ∙ sym (run-off n r (sym (ap (λ (x : Ran). goes_on x.end) is) ∙ left)) ∙ ap (λ (j : ℕ). user_run j r) (sym count)

-- ---- registers that fit

fits-next : (n : ℕ) (r ran : Ran) → ran ≡ ran_by (user_step r.machine) r → IsFit (plain_of r.machine.cpu.regs)
    → (goes_on ran.end ≡ true → FitsAlong n ran) → FitsAlong (suc n) r
fits-next n r ran is fit later = subst (λ (x : Ran). IsFit (plain_of r.machine.cpu.regs) × (goes_on x.end ≡ true → FitsAlong n x)) is (fit, later)

-- of a run that goes on
fits-on : (k n : ℕ) (r : Ran) (m : Machine) (native : NativeState) (before : Plain) → k ≡ suc n
    → ran_of Counted m native before ≡ ran_by (user_step r.machine) r → IsFit (plain_of r.machine.cpu.regs)
    → FitsAlong n (about_to_run m native before) → FitsAlong k r
fits-on k n r m native before count is fit later =
    subst (λ (j : ℕ). FitsAlong j r) (sym count) (fits-next n r (about_to_run m native before) is fit (λ on. later))

-- of one that ends
fits-off : (k n : ℕ) (r ran : Ran) → k ≡ suc n → ran ≡ ran_by (user_step r.machine) r → goes_on ran.end ≡ false
    → IsFit (plain_of r.machine.cpu.regs) → FitsAlong k r
fits-off k n r ran count is left fit =
    subst (λ (j : ℕ). FitsAlong j r) (sym count)
    (fits-next n r ran is fit (λ on. absurd (let e : false ≡ true = sym left ∙ on in let z : ⊥ = cc in z)))

pub fits-none : (k : ℕ) (r : Ran) → k ≡ 0 → FitsAlong k r
fits-none k r e = subst (λ (j : ℕ). FitsAlong j r) (sym e) tt

pub no-step : (k : ℕ) (r : Ran) → k ≡ 0 → r ≡ user_run k r
no-step k r e = sym (ap (λ (j : ℕ). user_run j r) e ∙ run-none r)

-- how a run that led here ended
pub cause-of : (n : ℕ) (from ran : Ran) → ran ≡ user_run n from → from.end ≡ Counted → takes_steps from.machine.state ≡ true
    → is_supervisor from.machine.cpu.regs.sr ≡ false → EndsBy n from ran ran.end
cause-of n from ran is counted going user =
    subst (λ (x : Ran). EndsBy n from x x.end) (sym is) (runs-end_by_cause n from counted going user)

-- ---- what stands beside a run

-- the registers before it do not count where it takes a step
any_before : (k : ℕ) (m : Machine) (native : NativeState) (b c : Plain) → 0 < k
    → user_run k (about_to_run m native b) ≡ user_run k (about_to_run m native c)
unfolding user_run
any_before zero m native b c some = absurd (omega arith)
any_before (suc n) m native b c some = refl

fits_any : (k : ℕ) (m : Machine) (native : NativeState) (b c : Plain) → FitsAlong k (about_to_run m native b)
    → FitsAlong k (about_to_run m native c)
fits_any zero m native b c h = h
fits_any (suc n) m native b c h = h

ends_so : (b : Bool) (r : Ran) → (if b then user_run 0 r else r) ≡ r
unfolding user_run
ends_so true r = refl
ends_so false r = refl

-- a run of one step
one_step : (r : Ran) → user_run 1 r ≡ ran_by (user_step r.machine) r
unfolding user_run
one_step r = let after = ran_by (user_step r.machine) r in ends_so (goes_on after.end) after

fits_once : (r : Ran) → IsFit (plain_of r.machine.cpu.regs) → FitsAlong 1 r
fits_once r fit = (fit, λ on. tt)

-- ---- runs that go on

pub continues_here : (n k : ℕ) (r : Ran) → k ≡ n → Continues n r k r
continues_here n k r same = record { run = ap (λ (j : ℕ). user_run j r) same; fit = subst (λ (j : ℕ). FitsAlong j r) same }

pub continues_on : (n k j : ℕ) (from at behind : Ran) → Continues n from k at → Continues k at j behind → Continues n from j behind
continues_on n k j from at behind first second =
    record { run = second.run ∙ first.run; fit = λ later. first.fit (second.fit later) }

-- behind a step
pub continues_behind : (k n : ℕ) (r : Ran) (m : Machine) (native : NativeState) (b before : Plain) → k ≡ n + 1 → 0 < n
    → ran_of Counted m native b ≡ ran_by (user_step r.machine) r → IsFit (plain_of r.machine.cpu.regs)
    → Continues k r n (about_to_run m native before)
continues_behind k n r m native b before count some is fit =
    let by : k ≡ suc n = omega arith in record {
      run = any_before n m native before b some ∙ steps-on k n r m native b by is;
      fit = λ later. fits-on k n r m native b by is fit (fits_any n m native before b later);
    }

-- a step with which the run ends
ends_behind : (n k : ℕ) (from at ran : Ran) → Continues n from k at → 0 < k → ran ≡ ran_by (user_step at.machine) at → goes_on ran.end ≡ false
    → ran ≡ user_run n from
ends_behind n k from at ran continues some is left = step-off k (k - 1) at ran (omega arith) is left ∙ continues.run

fit_behind : (n k : ℕ) (from at ran : Ran) → Continues n from k at → 0 < k → ran ≡ ran_by (user_step at.machine) at → goes_on ran.end ≡ false
    → IsFit (plain_of at.machine.cpu.regs) → FitsAlong n from
fit_behind n k from at ran continues some is left fit = continues.fit (fits-off k (k - 1) at ran (omega arith) is left fit)

-- the last step
ends_last : (n k : ℕ) (from at ran : Ran) → Continues n from k at → k ≡ 1 → ran ≡ ran_by (user_step at.machine) at → ran ≡ user_run n from
ends_last n k from at ran continues one is =
    is ∙ sym (one_step at) ∙ ap (λ (j : ℕ). user_run j at) (sym one) ∙ continues.run

fit_last : (n k : ℕ) (from at : Ran) → Continues n from k at → k ≡ 1 → IsFit (plain_of at.machine.cpu.regs) → FitsAlong n from
fit_last n k from at continues one fit = continues.fit (subst (λ (j : ℕ). FitsAlong j at) (sym one) (fits_once at fit))

-- ---- a step behind which a run goes on

-- it is retired
retired_by : (f : Finish) (m after : Machine) (native : NativeState) → (f, after) ≡ user_step m → goes_on (ended_by f after) ≡ true
    → with_step f (plain_of m.cpu.regs) after native ≡ with_retired (plain_of m.cpu.regs) (plain_of after.cpu.regs) native
retired_by finish.Went m after native step on = refl
retired_by (finish.Entered vector) m after native step on = elim (cases_Bool (takes_steps after.state)) [
  | inl going ↦ absurd (cc (rw going at on))
  | inr gone ↦ absurd (cc (rw gone at on))
]
retired_by finish.Idle m after native step on = refl
retired_by finish.Halted m after native step on =
    let one = (goes-on finish.Halted (about_to_run m native (plain_of m.cpu.regs)) after (sym step) on).retired in
    absurd (let z : ⊥ = omega (arith, one) in z)

went_ran : (f : Finish) (m after : Machine) (native : NativeState) → (f, after) ≡ user_step m → goes_on (ended_by f after) ≡ true
    → ran_of Counted after (with_retired (plain_of m.cpu.regs) (plain_of after.cpu.regs) native) (plain_of m.cpu.regs)
    ≡ ran_by (user_step m) (about_to_run m native (plain_of m.cpu.regs))
went_ran f m after native step on =
    let p = plain_of m.cpu.regs in
    let r = about_to_run m native p in
    ap (λ (e : RunEnd). ran_of e after (with_retired p (plain_of after.cpu.regs) native) p) (sym (goes-on f r after (sym step) on).counted)
    ∙ ap (λ (n : NativeState). ran_of (ended_by f after) after n p) (sym (retired_by f m after native step on))
    ∙ ap (λ (s : Finish × Machine). ran_by s r) step

-- a step that is carried out, and leaves a machine that takes steps
pub went_on : (after : Machine) → takes_steps after.state ≡ true → goes_on (ended_by finish.Went after) ≡ true
went_on after going = rw going refl

-- ---- a step at which the timer stands still

abbrev pub ended_with : Machine → Stepped × World → Finish × Machine
ended_with m x = let (ended, after) = with_finish m x in (ended, record after { steps = m.steps })

pub quick_step : (m after : Machine) → ticked m.world.devices ≡ m.world.devices
    → processed rule_a [] m ≡ ((finish.Went, after.cpu), after.world) → after.steps ≡ m.steps
    → after.state ≡ state_after (step_end finish.Went) after.cpu after.world.devices → (finish.Went, after) ≡ user_step m
quick_step m after still means steps state =
    ap (λ (n : ℕ). (let r : Finish × Machine = (finish.Went, record after { steps = n }) in r)) steps
    ∙ ap (λ (s : RunState). (let r : Finish × Machine = (finish.Went, record after { steps = m.steps; state = s }) in r)) state
    ∙ sym (ap (ended_with m) means)
    ∙ sym (ap (λ (d : DeviceState). ended_with m (processed rule_a [] (with_devices m d))) still)

-- ---- calm steps

pub leads_nowhere : (limit : ℕ) (m : Machine) (native : NativeState) (trail : ℕ) → Begins (plain_of m.cpu.regs) native trail
    → Leads limit (limit - limit) m m native trail
leads_nowhere limit m native trail begins = record {
  counted = native;
  begins = begins;
  retired = (omega arith);
  exceptions = refl;
  continues = λ n more. continues_here n (n - (limit - limit)) (about_to_run m native (plain_of m.cpu.regs)) (omega arith);
}

-- one more
pub leads_on : (limit left : ℕ) (from m after : Machine) (f : Finish) (native : NativeState) (trail behind : ℕ) → 0 < left → left ≤ limit
    → (f, after) ≡ user_step m → goes_on (ended_by f after) ≡ true
    → ((counted : NativeState) → Begins (plain_of m.cpu.regs) counted trail
    → Begins (plain_of after.cpu.regs) (with_retired (plain_of m.cpu.regs) (plain_of after.cpu.regs) counted) behind)
    → Leads limit (limit - left) from m native trail → Leads limit (limit - (left - 1)) from after native behind
leads_on limit left from m after f native trail behind some within step on begins l =
    let p = plain_of m.cpu.regs in
    let counted = with_retired p (plain_of after.cpu.regs) l.counted in
    let r = about_to_run m l.counted p in
    let taken = limit - left in
    let more = limit - (left - 1) in record {
      counted = counted;
      begins = begins l.counted l.begins;
      retired = (let e = l.retired in omega arith);
      exceptions = l.exceptions;
      continues = λ n less. continues_on n (n - taken) (n - more) _ r _ (l.continues n less)
          (continues_behind (n - taken) (n - more) r after counted p (plain_of after.cpu.regs) (omega arith) (omega arith)
          (went_ran f m after l.counted step on) l.begins.fit);
    }

-- with the ends of the steps by themselves
pub led_nowhere : (limit : ℕ) (m : Machine) (ends : ℕ) (native : NativeState) (begun steps : ℕ)
    → Begins (plain_of m.cpu.regs) native (gathered begun steps ends)
    → Leads limit (limit - limit) m m native (gathered begun (steps + (limit - limit)) ends)
led_nowhere limit m ends native begun steps begins =
    subst (λ (n : ℕ). Leads limit (limit - limit) m m native (gathered begun n ends)) (let e : steps ≡ steps + (limit - limit) = omega arith in e)
    (leads_nowhere limit m native (gathered begun steps ends) begins)

pub led_on : (limit left taken more : ℕ) (from m after : Machine) (f : Finish) (native : NativeState) (begun ends behind : ℕ) → 0 < left → left ≤ limit
    → more ≡ taken + 1 → (f, after) ≡ user_step m → goes_on (ended_by f after) ≡ true
    → ((counted : NativeState) → Begins (plain_of m.cpu.regs) counted (gathered begun taken ends)
    → Begins (plain_of after.cpu.regs) (with_retired (plain_of m.cpu.regs) (plain_of after.cpu.regs) counted) (gathered begun (taken + 1) behind))
    → Leads limit (limit - left) from m native (gathered begun taken ends)
    → Leads limit (limit - (left - 1)) from after native (gathered begun more behind)
led_on limit left taken more from m after f native begun ends behind some within one step on begins l =
    subst (λ (n : ℕ). Leads limit (limit - (left - 1)) from after native (gathered begun n behind)) (sym one)
    (leads_on limit left from m after f native (gathered begun taken ends) (gathered begun (taken + 1) behind) some within step on begins l)

-- some more
pub leads_behind : (limit left rest : ℕ) (from m after : Machine) (native : NativeState) (trail behind : ℕ) → left ≤ limit → rest ≤ left
    → Leads limit (limit - left) from m native trail
    → ((counted : NativeState) → Begins (plain_of m.cpu.regs) counted trail → Leads left (left - rest) m after counted behind)
    → Leads limit (limit - rest) from after native behind
leads_behind limit left rest from m after native trail behind within fewer l later =
    let s = later l.counted l.begins in record {
      counted = s.counted;
      begins = s.begins;
      retired = (let e = l.retired in let f = s.retired in omega arith);
      exceptions = s.exceptions ∙ l.exceptions;
      continues = λ n less.
          let k = n - (limit - left) in
          let j : k - (left - rest) ≡ n - (limit - rest) = omega arith in
          let r = about_to_run m l.counted (plain_of m.cpu.regs) in
          continues_on n k (n - (limit - rest)) _ r _ (l.continues n less)
          (subst (λ (i : ℕ). Continues k r i (about_to_run after s.counted (plain_of after.cpu.regs))) j (s.continues k (omega arith)));
    }

pub led_behind : (limit left rest : ℕ) (from m after : Machine) (native : NativeState) (begun ends behind : ℕ) → left ≤ limit → rest ≤ left
    → Leads limit (limit - left) from m native (gathered begun (limit - left) ends)
    → ((counted : NativeState) (start steps : ℕ) → Begins (plain_of m.cpu.regs) counted (gathered start steps ends)
    → Leads left (left - rest) m after counted (gathered start (steps + (left - rest)) behind))
    → Leads limit (limit - rest) from after native (gathered begun (limit - rest) behind)
led_behind limit left rest from m after native begun ends behind within fewer l later =
    let steps : (limit - left) + (left - rest) ≡ limit - rest = omega arith in
    subst (λ (n : ℕ). Leads limit (limit - rest) from after native (gathered begun n behind)) steps
    (leads_behind limit left rest from m after native (gathered begun (limit - left) ends) (gathered begun ((limit - left) + (left - rest)) behind)
    within fewer l (λ counted begins. later counted begun (limit - left) begins))

-- The next step is the last, or the run does not go on behind it.
abbrev pub IsLast : (left : ℕ) (f : Finish) (after : Machine) → Type 0
IsLast left f after = (left ≡ 0) ⊎ (goes_on (ended_by f after) ≡ false)

pub run_ends : (limit left : ℕ) (from m after : Machine) (f : Finish) (native : NativeState) (b : Plain) (trail : ℕ) → left < limit
    → (l : Leads (limit - 1) (limit - 1 - left) from m native trail) → (f, after) ≡ user_step m → IsLast left f after
    → Continues limit (about_to_run from native b) 0 (ran_by (f, after) (about_to_run m l.counted (plain_of m.cpu.regs)))
run_ends limit left from m after f native b trail less l step last =
    let p = plain_of from.cpu.regs in
    let k = limit - (limit - 1 - left) in
    let r = about_to_run m l.counted (plain_of m.cpu.regs) in
    let ran = ran_by (f, after) r in
    let is : ran ≡ ran_by (user_step m) r = ap (λ (s : Finish × Machine). ran_by s r) step in
    let continues = l.continues limit (omega arith) in
    let same = any_before limit from native p b (omega arith) in
    let fits = fits_any limit from native p b in
    elim last [
      | inl none ↦ record {
        run = run-none ran ∙ ends_last limit k (about_to_run from native p) r ran continues (omega arith) is ∙ same;
        fit = λ end. fits (fit_last limit k (about_to_run from native p) r continues (omega arith) l.begins.fit);
      }
      | inr off ↦ record {
        run = run-none ran ∙ ends_behind limit k (about_to_run from native p) r ran continues (omega arith) is off ∙ same;
        fit = λ end. fits (fit_behind limit k (about_to_run from native p) r ran continues (omega arith) is off l.begins.fit);
      }
    ]
