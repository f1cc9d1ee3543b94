-- The counts of a guest's steps, and their marks.
use Rattle.std.proofs.Common.{◌≡◌, ◌∙◌, ℕ, zero, suc, ◌+◌, ◌-◌, ◌*◌, List, ◌++◌, length, refl, ap, sym, subst, inl, inr, arith, ◌≤◌, Option, Some, None}
use Rattle.std.proofs.lemmas.Bool.{cases_Bool}
use Rattle.std.proofs.lemmas.List.{length-append}
use Rattle.mb_instr.specs.declared.registers.Plain.{Plain}
use Rattle.mb_model.specs.declared.processor.Cpu.{Cpu}
use Rattle.def_machine.specs.Machine.{Entries, takes_steps, reset_with}
use Rattle.def_guests.specs.declared.class.Class.{Class}
use Rattle.def_guests.specs.declared.class.Class.TheVariants.{Entered, Idle, Traced, Privileged, Denied, Trapped, Retired}
use Rattle.def_guests.specs.Turns.{Tally, Turned, tallied, with_refills, steps_in, marks_of, class_of_step, refills_of_step, guest_stepped, advanced, turn_of}
use Rattle.def_guests.specs.Turns.{prepared, afresh, exits, exceptions_of, guest_begun, bus_side}
use Rattle.def_guests.specs.Guests.{Guest}
use Rattle.def_guests.specs.Refills.{refilled_by, begun_again, going_on}
use Rattle.def_guests.specs.declared.limits.TheConstants.{MOST_REFILLS}
use Rattle.def_guests.specs.Laws.{CountsAreSteps, MarksAreOfRetired, MarksAppend, AreBounded, ExceptionsAreBounded}
use Rattle.def_guests.proofs.TurnLaws.{halted_turn, going_turn, nothing_turned, turns_add, afresh_before, marks_stay_before}

-- ---- one step

one_more : (class : Class) (t : Tally) → steps_in (tallied class t) ≡ steps_in t + 1
one_more Entered t = omega arith
one_more Idle t = omega arith
one_more Traced t = omega arith
one_more Privileged t = omega arith
one_more Denied t = omega arith
one_more Trapped t = omega arith
one_more Retired t = omega arith

-- a refilled step is counted once, among the retired ones
pub refills_aside : (class : Class) (n : ℕ) (t : Tally)
    → (steps_in (with_refills class n t) ≡ steps_in t) × ((with_refills class n t).retired ≡ t.retired) × (exits (with_refills class n t) ≡ exits t)
refills_aside Retired zero t = (refl, refl, refl)
refills_aside Retired (suc n) t = (refl, refl, refl)
refills_aside Entered n t = (refl, refl, refl)
refills_aside Idle n t = (refl, refl, refl)
refills_aside Traced n t = (refl, refl, refl)
refills_aside Privileged n t = (refl, refl, refl)
refills_aside Denied n t = (refl, refl, refl)
refills_aside Trapped n t = (refl, refl, refl)

-- what a class adds to the retired ones and to the marks
both_more : (class : Class) (t : Tally) (before after : Cpu) → (tallied class t).retired * 2 ≡ t.retired * 2 + length (marks_of class before after)
both_more Entered t before after = omega arith
both_more Idle t before after = omega arith
both_more Traced t before after = omega arith
both_more Privileged t before after = omega arith
both_more Denied t before after = omega arith
both_more Trapped t before after = omega arith
both_more Retired t before after = omega arith

-- ---- a turn

-- steps that are counted and steps of the machine stay apart by as much
abbrev AsMany : Turned → Turned → Type 0
AsMany t u = steps_in u.tally + t.guest.machine.steps ≡ steps_in t.tally + u.guest.machine.steps

step_counts : (script : Entries) (t : Turned) → AsMany t (advanced script t)
step_counts script t =
    let class = class_of_step script t.guest in
    let e = one_more class t.tally in
    let f = (refills_aside class (refills_of_step script t.guest) (tallied class t.tally)).0 in omega arith

abbrev Doubled : Turned → Turned → Type 0
Doubled t u = u.tally.retired * 2 + length t.marks ≡ t.tally.retired * 2 + length u.marks

step_doubles : (script : Entries) (t : Turned) → Doubled t (advanced script t)
step_doubles script t =
    let class = class_of_step script t.guest in
    let more = marks_of class t.guest.machine.cpu (guest_stepped script t.guest).machine.cpu in
    let e = both_more class t.tally t.guest.machine.cpu (guest_stepped script t.guest).machine.cpu in
    let r = (refills_aside class (refills_of_step script t.guest) (tallied class t.tally)).1 in
    let f : length (t.marks ++ more) ≡ length t.marks + length more = length-append t.marks more in omega arith

pub turn_counts : (script : Entries) (n : ℕ) (t : Turned) → AsMany t (turn_of script n t)
turn_counts script zero t = ap (λ (u : Turned). steps_in u.tally + t.guest.machine.steps) (nothing_turned script t)
    ∙ ap (λ (u : Turned). steps_in t.tally + u.guest.machine.steps) (sym (nothing_turned script t))
turn_counts script (suc n) t = elim (cases_Bool (takes_steps t.guest.machine.state)) [
  | inl going ↦
      let a = step_counts script t in
      let b = turn_counts script n (advanced script t) in
      let c = ap (λ (u : Turned). steps_in u.tally) (going_turn script n t going) in
      let d = ap (λ (u : Turned). u.guest.machine.steps) (going_turn script n t going) in omega arith
  | inr still ↦
      let c = ap (λ (u : Turned). steps_in u.tally) (halted_turn script (suc n) t still) in
      let d = ap (λ (u : Turned). u.guest.machine.steps) (halted_turn script (suc n) t still) in omega arith
]

pub turn_doubles : (script : Entries) (n : ℕ) (t : Turned) → Doubled t (turn_of script n t)
turn_doubles script zero t = ap (λ (u : Turned). u.tally.retired * 2 + length t.marks) (nothing_turned script t)
    ∙ ap (λ (u : Turned). t.tally.retired * 2 + length u.marks) (sym (nothing_turned script t))
turn_doubles script (suc n) t = elim (cases_Bool (takes_steps t.guest.machine.state)) [
  | inl going ↦
      let a = step_doubles script t in
      let b = turn_doubles script n (advanced script t) in
      let c = ap (λ (u : Turned). u.tally.retired) (going_turn script n t going) in
      let d = ap (λ (u : Turned). length u.marks) (going_turn script n t going) in omega arith
  | inr still ↦
      let c = ap (λ (u : Turned). u.tally.retired) (halted_turn script (suc n) t still) in
      let d = ap (λ (u : Turned). length u.marks) (halted_turn script (suc n) t still) in omega arith
]

-- ---- exceptions

-- it begins again no more often than it may
few_on : (n : ℕ) (cpu : Cpu) (g : Guest) → ((h : Guest) → (refilled_by n cpu h).refills ≤ n) → (o : Option Guest)
    → (going_on (refilled_by n cpu) g o).refills ≤ suc n
few_on n cpu g few None = omega arith
few_on n cpu g few (Some h) = let less = few h in let z : (refilled_by n cpu h).refills + 1 ≤ suc n = omega arith in z

few_refills : (n : ℕ) (cpu : Cpu) (g : Guest) → (refilled_by n cpu g).refills ≤ n
unfolding refilled_by
few_refills zero cpu g = omega arith
few_refills (suc n) cpu g = few_on n cpu g (few_refills n cpu) (begun_again cpu g)

few_exceptions : (class : Class) (refills : ℕ) → refills ≤ 31 → exceptions_of class refills ≤ 32
few_exceptions Entered n few = omega arith
few_exceptions Idle n few = omega arith
few_exceptions Traced n few = omega arith
few_exceptions Privileged n few = omega arith
few_exceptions Denied n few = omega arith
few_exceptions Trapped n few = omega arith
few_exceptions Retired n few = omega arith

-- a step that is left is left once or more
some_exceptions : (class : Class) (refills : ℕ) (t : Tally) → exits (tallied class t) ≤ exits t + exceptions_of class refills
some_exceptions Entered n t = omega arith
some_exceptions Idle n t = omega arith
some_exceptions Traced n t = omega arith
some_exceptions Privileged n t = omega arith
some_exceptions Denied n t = omega arith
some_exceptions Trapped n t = omega arith
some_exceptions Retired n t = omega arith

step_bounded : (script : Entries) (t : Turned) → AreBounded t (advanced script t)
step_bounded script t =
    let class = class_of_step script t.guest in
    let refills = refills_of_step script t.guest in
    let b = guest_begun script t.guest in
    let aside = (refills_aside class refills (tallied class t.tally)).2 in
    let some = some_exceptions class refills t.tally in
    let few = few_exceptions class refills (few_refills MOST_REFILLS b.machine.cpu (bus_side b)) in
    record { least = omega arith; most = omega arith }

bounded_on : (t u v : Turned) → AreBounded t u → AreBounded u v → AreBounded t v
bounded_on t u v a b =
    let p = a.least in let q = b.least in
    let x = a.most in let y = b.most in record { least = omega (arith, p, q); most = omega (arith, x, y) }

unturned : (t : Turned) → AreBounded t t
unturned t = record { least = omega arith; most = omega arith }

pub exceptions_are_bounded : ExceptionsAreBounded
exceptions_are_bounded script zero t = subst (AreBounded t) (sym (nothing_turned script t)) (unturned t)
exceptions_are_bounded script (suc n) t = elim (cases_Bool (takes_steps t.guest.machine.state)) [
  | inl going ↦
      subst (AreBounded t) (sym (going_turn script n t going))
      (bounded_on t (advanced script t) (turn_of script n (advanced script t)) (step_bounded script t)
      (exceptions_are_bounded script n (advanced script t)))
  | inr still ↦ subst (AreBounded t) (sym (halted_turn script (suc n) t still)) (unturned t)
]

-- ---- a guest's run

pub counts_are_steps : CountsAreSteps
unfolding reset_with
counts_are_steps opening script size n = let e = turn_counts script n (prepared opening size) in omega arith

-- behind no step the marks are those of the run
pub marks_from_start : (script : Entries) (n : ℕ) (t : Turned) → afresh t ≡ t
    → turn_of script (n - 0) (afresh (turn_of script 0 t)) ≡ turn_of script n t
marks_from_start script n t e =
    ap (λ (k : ℕ). turn_of script k (afresh (turn_of script 0 t))) (let z : n - 0 ≡ n = omega arith in z)
    ∙ ap (λ (u : Turned). turn_of script n (afresh u)) (nothing_turned script t) ∙ ap (turn_of script n) e

pub marks_are_of_retired : MarksAreOfRetired
marks_are_of_retired opening script size n =
    let p = prepared opening size in
    let e = turn_doubles script n p in
    let f = ap (λ (u : Turned). length u.marks) (marks_from_start script n p refl) in omega arith

-- marks of a turn that began with others
pub marks_behind : (script : Entries) (n : ℕ) (t : Turned) → (turn_of script n t).marks ≡ t.marks ++ (turn_of script n (afresh t)).marks
marks_behind script n t =
    ap (λ (u : Turned). (turn_of script n u).marks) (sym (afresh_before t))
    ∙ ap (λ (u : Turned). u.marks) (marks_stay_before script n t.marks t.exceptions (afresh t))

pub marks_append : MarksAppend
marks_append opening script size k n few =
    let p = prepared opening size in
    let at = turn_of script k p in
    ap (λ (u : Turned). u.marks) (marks_from_start script n p refl)
    ∙ ap (λ (m : ℕ). (turn_of script m p).marks) (let e : n ≡ k + (n - k) = omega arith in e)
    ∙ ap (λ (u : Turned). u.marks) (turns_add script k (n - k) p)
    ∙ marks_behind script (n - k) at
    ∙ ap (λ (marks : List Plain). marks
    ++ (turn_of script (n - k) (afresh at)).marks) (sym (ap (λ (u : Turned). u.marks) (marks_from_start script k p refl)))
