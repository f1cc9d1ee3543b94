-- Rounds in which no more than one guest has steps left: how long its turns are has no part in what comes of them.
use Rattle.std.proofs.Common.{◌≡◌, ◌∙◌, ◌⊎◌, ℕ, zero, suc, ◌+◌, ◌-◌, ◌≤◌, min, List, [], ◌∷◌, ◌++◌, refl, ap, sym, true, false, inl, inr, arith}
use Rattle.std.proofs.Common.{append_assoc}
use Rattle.std.specs.Prelude.{nat_le}
use Rattle.std.proofs.lemmas.Bool.{cases_Bool}
use Rattle.std.proofs.lemmas.Bool.Decides.{nat_tests}
use Rattle.std.proofs.lemmas.List.{append-nil}
use Rattle.mb_instr.specs.declared.registers.Plain.{Plain}
use Rattle.def_machine.specs.Machine.{takes_steps}
use Rattle.def_guests.specs.Turns.{Turned, turn_of}
use Rattle.def_guests.specs.Laws.{with_before}
use Rattle.def_guests.specs.Rounds.{Member, Hosted, left, is_done, opened, closed_by, turn_in, whole_turn, members_after, marks_after, exceptions_after}
use Rattle.def_guests.specs.Rounds.{all_done, left_of_all, round, rounds, host_run}
use Rattle.def_guests.proofs.Rounds.{left_going, left_still, turn_steps}
use Rattle.def_guests.proofs.TurnLaws.{afresh_before, halted_turn, marks_stay_before, nothing_turned, turns_add}
use Rattle.vm_slices.specs.Members.{after_turn, going}
use Rattle.vm_slices.proofs.RoundLaws.{go_on, nothing_left, round_left, rounds_go, rounds_stay}

-- ---- the turns of one guest

no_left : (n : ℕ) → nat_le n 0 ≡ true → n ≤ 0
no_left n h = grind (arith, nat_tests)

-- a guest that has nothing left stays as it is
nothing_in : (slice : ℕ) (m : Member) → is_done m ≡ true → turn_in slice m ≡ opened m
nothing_in slice m done =
    let none = no_left (left m) done in
    ap (λ (n : ℕ). turn_of m.script n (opened m)) (let e : min slice (left m) ≡ 0 = omega arith in e) ∙ nothing_turned m.script (opened m)

nothing_whole : (m : Member) → is_done m ≡ true → whole_turn m ≡ opened m
nothing_whole m done =
    let none = no_left (left m) done in
    ap (λ (n : ℕ). turn_of m.script n (opened m)) (let e : left m ≡ 0 = omega arith in e) ∙ nothing_turned m.script (opened m)

-- behind a turn as much is left as that did not take, or the guest takes no more
rest_is_whole : (slice : ℕ) (m : Member) → let t = turn_in slice m in let k = closed_by t m in
    turn_of m.script (left k) t ≡ turn_of m.script (left m - min slice (left m)) t
rest_is_whole slice m =
    let t = turn_in slice m in
    let k = closed_by t m in
    let n = min slice (left m) in
    elim (cases_Bool (takes_steps t.guest.machine.state)) [
      | inl on ↦
          elim (cases_Bool (takes_steps m.guest.machine.state)) [
            | inl before ↦
                let e = left_going m before in
                let f = left_going k on in
                let s = turn_steps m.script n (opened m) on in
                ap (λ (j : ℕ). turn_of m.script j t) (let z : left k ≡ left m - n = omega arith in z)
            | inr still ↦
                let same = ap (λ (u : Turned). left (closed_by u m)) (halted_turn m.script n (opened m) still) in
                let none = left_still m still in
                ap (λ (j : ℕ). turn_of m.script j t) (let z : left k ≡ left m - n = omega arith in z)
          ]
      | inr off ↦ halted_turn m.script (left k) t off ∙ sym (halted_turn m.script (left m - n) t off)
    ]

-- a turn, and then all that is left, are one turn of all
turns_are_whole : (slice : ℕ) (m : Member) → let t = turn_in slice m in
    with_before t.marks t.exceptions (whole_turn (closed_by t m)) ≡ whole_turn m
turns_are_whole slice m =
    let t = turn_in slice m in
    let k = closed_by t m in
    let n = min slice (left m) in
    sym (marks_stay_before m.script (left k) t.marks t.exceptions (opened k))
    ∙ ap (turn_of m.script (left k)) (afresh_before t)
    ∙ rest_is_whole slice m
    ∙ sym (turns_add m.script n (left m - n) (opened m))
    ∙ ap (λ (j : ℕ). turn_of m.script j (opened m)) (let z : n + (left m - n) ≡ left m = omega arith in z)

-- ---- of all guests

abbrev members_whole : List Member → List Member
members_whole [] = []
members_whole (m ∷ ms) = closed_by (whole_turn m) m ∷ members_whole ms

abbrev marks_whole : List Member → List Plain
marks_whole [] = []
marks_whole (m ∷ ms) = (whole_turn m).marks ++ marks_whole ms

abbrev exceptions_whole : List Member → ℕ
exceptions_whole [] = 0
exceptions_whole (m ∷ ms) = (whole_turn m).exceptions + exceptions_whole ms

-- all guests once each has taken what it has left
abbrev whole : Hosted → Hosted
whole h = record {
  members = members_whole h.members;
  marks = h.marks ++ marks_whole h.members;
  exceptions = h.exceptions + exceptions_whole h.members;
}

-- where all are done that is nothing
none_whole : (ms : List Member) → all_done ms ≡ true
    → (members_whole ms ≡ ms) × (marks_whole ms ≡ []) × (exceptions_whole ms ≡ 0)
none_whole [] done = (refl, refl, refl)
none_whole (m ∷ ms) done = elim (cases_Bool (is_done m)) [
  | inl own ↦
      let nothing = nothing_whole m own in
      let rest = none_whole ms (rw own at done) in (
        ap (λ (t : Turned). closed_by t m ∷ members_whole ms) nothing ∙ ap (λ (ks : List Member). m ∷ ks) rest.0,
        ap (λ (t : Turned). t.marks ++ marks_whole ms) nothing ∙ rest.1,
        (let e = ap (λ (t : Turned). t.exceptions) nothing in let r = rest.2 in omega arith),
      )
  | inr more ↦ absurd (cc (rw more at done))
]

-- a round of such is nothing either
none_after : (slice : ℕ) (ms : List Member) → all_done ms ≡ true
    → (members_after slice ms ≡ ms) × (marks_after slice ms ≡ []) × (exceptions_after slice ms ≡ 0)
none_after slice [] done = (refl, refl, refl)
none_after slice (m ∷ ms) done = elim (cases_Bool (is_done m)) [
  | inl own ↦
      let nothing = nothing_in slice m own in
      let rest = none_after slice ms (rw own at done) in (
        ap (λ (t : Turned). closed_by t m ∷ members_after slice ms) nothing ∙ ap (λ (ks : List Member). m ∷ ks) rest.0,
        ap (λ (t : Turned). t.marks ++ marks_after slice ms) nothing ∙ rest.1,
        (let e = ap (λ (t : Turned). t.exceptions) nothing in let r = rest.2 in omega arith),
      )
  | inr more ↦ absurd (cc (rw more at done))
]

all_are_done : (ms : List Member) → going ms ≤ 0 → all_done ms ≡ true
all_are_done [] none = refl
all_are_done (m ∷ ms) none = elim (cases_Bool (is_done m)) [
  | inl own ↦ rw own (all_are_done ms (let z : 0 + going ms ≤ 0 = rw own at none in omega arith))
  | inr more ↦ absurd (let z : 1 + going ms ≤ 0 = rw more at none in omega arith)
]

-- a round before all that is left has no part in that, where no more than one has something left
record IsPart (slice : ℕ) (ms : List Member) : Type 0 where
  members : members_whole (members_after slice ms) ≡ members_whole ms
  marks : marks_after slice ms ++ marks_whole (members_after slice ms) ≡ marks_whole ms
  exceptions : exceptions_after slice ms + exceptions_whole (members_after slice ms) ≡ exceptions_whole ms

round_is_part : (slice : ℕ) (ms : List Member) → going ms ≤ 1 → IsPart slice ms
round_is_part slice [] few = record { members = refl; marks = refl; exceptions = refl }
round_is_part slice (m ∷ ms) few = elim (cases_Bool (is_done m)) [
  | inl own ↦
      let rest = round_is_part slice ms (let z : 0 + going ms ≤ 1 = rw own at few in omega arith) in
      let now = nothing_in slice m own in
      let all = nothing_whole m own in
      record {
        members =
            ap (λ (t : Turned). closed_by (whole_turn (closed_by t m)) m ∷ members_whole (members_after slice ms)) now
            ∙ ap (λ (ks : List Member). closed_by (whole_turn m) m ∷ ks) rest.members;
        marks =
            ap (λ (t : Turned). (t.marks ++ marks_after slice ms) ++ ((whole_turn (closed_by t m)).marks ++ marks_whole (members_after slice ms))) now
            ∙ ap (λ (t : Turned). marks_after slice ms ++ (t.marks ++ marks_whole (members_after slice ms))) all
            ∙ rest.marks ∙ sym (ap (λ (t : Turned). t.marks ++ marks_whole ms) all);
        exceptions =
            let n = ap (λ (t : Turned). t.exceptions) now in
            let w = ap (λ (t : Turned). t.exceptions) all in
            let same = ap (λ (t : Turned). (whole_turn (closed_by t m)).exceptions) now in
            let r = rest.exceptions in omega arith;
      }
  | inr more ↦
      let others = all_are_done ms (let z : 1 + going ms ≤ 1 = rw more at few in omega arith) in
      let after = none_after slice ms others in
      let t = turn_in slice m in
      let k = closed_by t m in
      let both = turns_are_whole slice m in
      record {
        members =
            ap (λ (ks : List Member). closed_by (whole_turn k) k ∷ members_whole ks) after.0
            ∙ ap (λ (u : Turned). closed_by u m ∷ members_whole ms) both;
        marks =
            ap (λ (ks : List Member). (t.marks ++ marks_after slice ms) ++ ((whole_turn k).marks ++ marks_whole ks)) after.0
            ∙ ap (λ (xs : List Plain). (t.marks ++ xs) ++ ((whole_turn k).marks ++ marks_whole ms)) after.1
            ∙ ap (λ (xs : List Plain). xs ++ ((whole_turn k).marks ++ marks_whole ms)) (append-nil t.marks)
            ∙ sym (append_assoc t.marks (whole_turn k).marks (marks_whole ms))
            ∙ ap (λ (u : Turned). u.marks ++ marks_whole ms) both;
        exceptions =
            let of = after.2 in
            let same = ap (λ (u : Turned). u.exceptions) both in
            let here = ap exceptions_whole after.0 in omega arith;
      }
]

-- nor does it leave more that have
going_after : (slice : ℕ) (ms : List Member) → going (members_after slice ms) ≤ going ms
going_after slice [] = omega arith
going_after slice (m ∷ ms) =
    let rest = going_after slice ms in
    elim (cases_Bool (is_done m)) [
      | inl own ↦
          let still : is_done (after_turn slice m) ≡ true = ap (λ (t : Turned). is_done (closed_by t m)) (nothing_in slice m own) ∙ own in
          rw own (rw still (omega arith))
      | inr more ↦ elim (cases_Bool (is_done (after_turn slice m))) [
        | inl done ↦ rw more (rw done (omega arith))
        | inr on ↦ rw more (rw on (omega arith))
      ]
    ]

-- ---- rounds

of_parts : {ms ks : List Member} {x y : List Plain} {d e : ℕ} → ms ≡ ks → x ≡ y → d ≡ e
    → (let a : Hosted = record { members = ms; marks = x; exceptions = d } in a) ≡ (record { members = ks; marks = y; exceptions = e })
of_parts {ms} {ks} {x} {y} {d} {e} members marks exceptions =
    ap (λ (all : List Member). (let a : Hosted = record { members = all; marks = x; exceptions = d } in a)) members
    ∙ ap (λ (z : List Plain). (let a : Hosted = record { members = ks; marks = z; exceptions = d } in a)) marks
    ∙ ap (λ (n : ℕ). (let a : Hosted = record { members = ks; marks = y; exceptions = n } in a)) exceptions

done_whole : (h : Hosted) → all_done h.members ≡ true → whole h ≡ h
done_whole h done =
    let none = none_whole h.members done in
    of_parts none.0 (ap (λ (xs : List Plain). h.marks ++ xs) none.1 ∙ append-nil h.marks) (let e = none.2 in omega arith)

round_whole : (slice : ℕ) (h : Hosted) → going h.members ≤ 1 → whole (round slice h) ≡ whole h
round_whole slice h few =
    let part = round_is_part slice h.members few in
    of_parts part.members
    (append_assoc h.marks (marks_after slice h.members) (marks_whole (members_after slice h.members)) ∙ ap (λ (xs : List Plain). h.marks ++ xs) part.marks)
    (let e = part.exceptions in omega arith)

rounds_whole : (slice n : ℕ) (h : Hosted) → 1 ≤ slice → going h.members ≤ 1 → left_of_all h.members ≤ n → rounds slice n h ≡ whole h
rounds_whole slice zero h some few none =
    let done = nothing_left h.members none in rounds_stay slice zero h done ∙ sym (done_whole h done)
rounds_whole slice (suc n) h some few most = elim (cases_Bool (all_done h.members)) [
  | inl done ↦ rounds_stay slice (suc n) h done ∙ sym (done_whole h done)
  | inr on ↦
      let less = round_left slice h.members some on in
      let after = going_after slice h.members in
      rounds_go slice n h on
      ∙ rounds_whole slice n (round slice h) some (omega arith) (omega arith)
      ∙ round_whole slice h few
]

-- rounds of turns of so many steps go on from one of turns of another number
abbrev pub GoesOn : (slice other : ℕ) → List Member → Type 0
GoesOn slice other now = (h : Hosted) → h.members ≡ now → host_run slice (round other h) ≡ host_run slice h

pub goes_on : (slice other : ℕ) (now : List Member) → 1 ≤ slice → all_done now ≡ false → (other ≡ slice) ⊎ (going now ≤ 1) → GoesOn slice other now
goes_on slice other now some more (inl same) h is =
    ap (λ (n : ℕ). host_run slice (round n h)) same ∙ go_on slice h some (ap all_done is ∙ more)
goes_on slice other now some more (inr few) h is =
    let few : going h.members ≤ 1 = (let e = ap going is in omega arith) in
    let after = going_after other h.members in
    rounds_whole slice (left_of_all (round other h).members) (round other h) some (omega arith) (omega arith)
    ∙ round_whole other h few
    ∙ sym (rounds_whole slice (left_of_all h.members) h some few (omega arith))
