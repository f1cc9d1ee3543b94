-- What a debugger's commands do and print.
use Rattle.std.proofs.Common.{◌≡◌, ◌∙◌, ℕ, zero, suc, ◌+◌, ◌-◌, ◌<◌, ◌≤◌, ◌==◌, List, [], ◌∷◌, ◌++◌, length, refl, ap, sym, subst, true, false, inl, inr, arith}
use Rattle.std.specs.Prelude.{not, nat_lt}
use Rattle.std.proofs.lemmas.Bool.{cases_Bool, cases_eq}
use Rattle.std.proofs.lemmas.Bool.Decides.{nat_tests}
use Rattle.std.proofs.lemmas.List.{append_assoc, length_push}
use Rattle.std.proofs.lemmas.List.Sums.{length-filter, count_by-le-length}
use Rattle.mb_model.specs.Keeping.{rule_k}
use Rattle.def_machine.specs.Machine.{Machine, run_of, takes_steps}
use Rattle.vm_debug.specs.declared.command.Command.{Command}
use Rattle.vm_debug.specs.declared.command.Command.TheVariants.{Step, Go, Break, Clear, Regs, Mem, Kept}
use Rattle.vm_debug.specs.declared.debugger.TheConstants.{MOST_BREAKS}
use Rattle.vm_debug.specs.Laws.{IsLeast, GoingEndsFirst, StepsStay, CommandsAdd, TextsAdd, CoursesShow, BoundIsKept, BreaksAreFew, CoursesGoOn}
use Rattle.vm_debug.specs.Debugs.{Course, Debugging, after, course_from, debugged, ends_at, going_on, printed, printed_by, stands, up_to}
use Rattle.vm_debug.specs.Debugs.{with_break, without_break}
use Rattle.vm_saved.proofs.Runs.{going_runs_count, halted_run, runs_add}

-- ---- `go`

pub going_stays : (course : Course) (breaks : List ℕ) (steps : ℕ) → going_on course breaks steps zero ≡ steps
unfolding going_on
going_stays course breaks steps = refl

pub going_ends : (course : Course) (breaks : List ℕ) (steps n : ℕ) → ends_at breaks (course (steps + 1)) ≡ true
    → going_on course breaks steps (suc n) ≡ steps + 1
unfolding going_on
going_ends course breaks steps n h = rw h refl

pub going_further : (course : Course) (breaks : List ℕ) (steps n : ℕ) → ends_at breaks (course (steps + 1)) ≡ false
    → going_on course breaks steps (suc n) ≡ going_on course breaks (steps + 1) n
unfolding going_on
going_further course breaks steps n h = rw h refl

first_further : (course : Course) (breaks : List ℕ) (steps n end : ℕ) → ends_at breaks (course (steps + 1)) ≡ false
    → IsLeast course breaks (steps + 1) n end → IsLeast course breaks steps (suc n) end
first_further course breaks steps n end fails r =
    let least = r.least in
    let most = r.most in record {
      least = omega arith;
      most = omega arith;
      some = λ h. omega arith;
      ended = elim r.ended [ inl holds ↦ inl holds | inr e ↦ inr (omega arith) ];
      first = λ k low high. elim (cases_eq k (steps + 1)) [
        | inl e ↦ subst (λ (j : ℕ). ends_at breaks (course j) ≡ false) (sym e) fails
        | inr other ↦ r.first k (omega (arith, other)) high
      ];
    }

pub going_ends_first : GoingEndsFirst
going_ends_first course breaks steps zero = subst (IsLeast course breaks steps zero) (sym (going_stays course breaks steps)) (record {
  least = omega arith;
  most = omega arith;
  some = λ h. absurd (omega arith);
  ended = inr (omega arith);
  first = λ k low high. absurd (omega arith);
})
going_ends_first course breaks steps (suc n) = elim (cases_Bool (ends_at breaks (course (steps + 1)))) [
  | inl holds ↦ subst (IsLeast course breaks steps (suc n)) (sym (going_ends course breaks steps n holds)) (record {
    least = omega arith;
    most = omega arith;
    some = λ h. omega arith;
    ended = inl holds;
    first = λ k low high. absurd (omega arith);
  })
  | inr fails ↦
      subst (IsLeast course breaks steps (suc n)) (sym (going_further course breaks steps n fails))
      (first_further course breaks steps n _ fails (going_ends_first course breaks (steps + 1) n))
]

-- courses that agree
going_agrees : (course other : Course) (breaks : List ℕ) (n steps : ℕ) → ((k : ℕ) → steps ≤ k → k ≤ steps + n → course k ≡ other k)
    → going_on course breaks steps n ≡ going_on other breaks steps n
going_agrees course other breaks zero steps same = going_stays course breaks steps ∙ sym (going_stays other breaks steps)
going_agrees course other breaks (suc n) steps same =
    let here : ends_at breaks (course (steps + 1)) ≡ ends_at breaks (other (steps + 1)) =
    ap (ends_at breaks) (same (steps + 1) (omega arith) (omega arith)) in
    elim (cases_Bool (ends_at breaks (other (steps + 1)))) [
      | inl holds ↦ going_ends course breaks steps n (here ∙ holds) ∙ sym (going_ends other breaks steps n holds)
      | inr fails ↦
          going_further course breaks steps n (here ∙ fails)
          ∙ going_agrees course other breaks n (steps + 1) (λ k low high. same k (omega arith) (omega arith))
          ∙ sym (going_further other breaks steps n fails)
    ]

-- ---- one command

up_to_bound : (bound steps n : ℕ) → steps ≤ bound → steps + up_to bound steps n ≤ bound
up_to_bound bound steps n h = omega arith

pub within_bound : (course : Course) (bound : ℕ) (c : Command) (d : Debugging) → d.steps ≤ bound → StepsStay bound d.steps (after course bound c d).steps
within_bound course bound (Step n) d h = let e = up_to_bound bound d.steps n h in record { least = omega arith; most = omega arith }
within_bound course bound (Go n) d h =
    let e = up_to_bound bound d.steps n h in
    let r = going_ends_first course d.breaks d.steps (up_to bound d.steps n) in
    let least = r.least in
    let most = r.most in record { least = omega arith; most = omega arith }
within_bound course bound (Break at) d h = record { least = omega arith; most = h }
within_bound course bound (Clear at) d h = record { least = omega arith; most = h }
within_bound course bound Regs d h = record { least = omega arith; most = h }
within_bound course bound (Mem at count) d h = record { least = omega arith; most = h }
within_bound course bound Kept d h = record { least = omega arith; most = h }

-- the courses agree from so many steps on, up to the bound
abbrev Agree : Course → Course → (from to : ℕ) → Type 0
Agree course other from to = (k : ℕ) → from ≤ k → k ≤ to → course k ≡ other k

pub same_after : (course other : Course) (bound : ℕ) (c : Command) (d : Debugging) → d.steps ≤ bound → Agree course other d.steps bound
    → after course bound c d ≡ after other bound c d
same_after course other bound (Step n) d h same = refl
same_after course other bound (Go n) d h same =
    let e = up_to_bound bound d.steps n h in
    ap (λ (k : ℕ). (let x : Debugging = record { steps = k; breaks = d.breaks } in x))
    (going_agrees course other d.breaks (up_to bound d.steps n) d.steps (λ k low high. same k low (omega arith)))
same_after course other bound (Break at) d h same = refl
same_after course other bound (Clear at) d h same = refl
same_after course other bound Regs d h same = refl
same_after course other bound (Mem at count) d h same = refl
same_after course other bound Kept d h same = refl

-- ---- all commands

pub commands_add : CommandsAdd
unfolding debugged
commands_add course bound [] more d = refl
commands_add course bound (c ∷ first) more d = commands_add course bound first more (after course bound c d)

pub texts_add : TextsAdd
unfolding debugged printed
texts_add course bound [] more d = refl
texts_add course bound (c ∷ first) more d =
    let later = after course bound c d in
    let own = printed_by c d.breaks (course later.steps) in
    ap (λ (t : List ℕ). own ++ t) (texts_add course bound first more later)
    ∙ sym (append_assoc own (printed course bound first later) (printed course bound more (debugged course bound first later)))

pub bound_is_kept : BoundIsKept
unfolding debugged
bound_is_kept course bound [] d h = record { least = omega arith; most = h }
bound_is_kept course bound (c ∷ commands) d h =
    let first = within_bound course bound c d h in
    let rest = bound_is_kept course bound commands (after course bound c d) first.most in
    let a = first.least in
    let b = rest.least in record { least = omega arith; most = rest.most }

pub courses_show : CoursesShow
unfolding debugged printed
courses_show course other bound [] d h same = record { states = refl; texts = refl }
courses_show course other bound (c ∷ commands) d h same =
    let later = after course bound c d in
    let next = after other bound c d in
    let e : later ≡ next = same_after course other bound c d h same in
    let w = within_bound course bound c d h in
    let least = w.least in
    let rest = courses_show course other bound commands later w.most (λ k low high. same k (omega arith) high) in
    let here : course later.steps ≡ other later.steps = same later.steps w.least w.most in record {
      states = rest.states ∙ ap (debugged other bound commands) e;
      texts = ap (λ (m : Machine). printed_by c d.breaks m ++ printed course bound commands later) here
          ∙ ap (λ (t : List ℕ). printed_by c d.breaks (other later.steps) ++ t) rest.texts
          ∙ ap (λ (x : Debugging). printed_by c d.breaks (other x.steps) ++ printed other bound commands x) e;
    }

-- ---- break points

few_after : (at : ℕ) (breaks : List ℕ) → length breaks ≤ MOST_BREAKS → length (with_break at breaks) ≤ MOST_BREAKS
few_after at breaks h = elim (cases_Bool (stands at breaks)) [
  | inl holds ↦ rw holds h
  | inr fails ↦ elim (cases_Bool (nat_lt (length breaks) MOST_BREAKS)) [
    | inl room ↦
        let less : length breaks < MOST_BREAKS = grind (arith, nat_tests) in
        let e = length_push breaks at in rw (fails, room) (omega arith)
    | inr full ↦ rw (fails, full) h
  ]
]

fewer_after : (at : ℕ) (breaks : List ℕ) → length breaks ≤ MOST_BREAKS → length (without_break at breaks) ≤ MOST_BREAKS
fewer_after at breaks h =
    let test = λ (other : ℕ). not (other == at) in
    let e = length-filter test breaks in
    let f = count_by-le-length test breaks in omega arith

few_by : (course : Course) (bound : ℕ) (c : Command) (d : Debugging) → length d.breaks ≤ MOST_BREAKS → length (after course bound c d).breaks ≤ MOST_BREAKS
few_by course bound (Step n) d h = h
few_by course bound (Go n) d h = h
few_by course bound (Break at) d h = few_after at d.breaks h
few_by course bound (Clear at) d h = fewer_after at d.breaks h
few_by course bound Regs d h = h
few_by course bound (Mem at count) d h = h
few_by course bound Kept d h = h

pub breaks_are_few : BreaksAreFew
unfolding debugged
breaks_are_few course bound [] d h = h
breaks_are_few course bound (c ∷ commands) d h =
    breaks_are_few course bound commands (after course bound c d) (few_by course bound c d h)

-- ---- along a course

pub courses_go_on : CoursesGoOn
courses_go_on script m k j least most =
    let at = course_from script m k in
    let more : run_of rule_k script (j - k) at ≡ course_from script m j =
    sym (runs_add rule_k script (k - m.steps) (j - k) m)
    ∙ ap (λ (n : ℕ). run_of rule_k script n m) (let e : k - m.steps + (j - k) ≡ j - m.steps = omega arith in e) in
    elim (cases_Bool (takes_steps at.state)) [
      | inl going ↦
          let count = going_runs_count rule_k script (k - m.steps) m going in
          ap (λ (n : ℕ). run_of rule_k script n at) (let e : j - at.steps ≡ j - k = omega arith in e) ∙ more
      | inr still ↦
          halted_run rule_k script (j - at.steps) at still ∙ sym (halted_run rule_k script (j - k) at still) ∙ more
    ]
