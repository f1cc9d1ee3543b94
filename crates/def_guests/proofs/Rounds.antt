-- Rounds end, and give each guest its whole bound.
use Rattle.std.proofs.Common.{◌≡◌, ◌∙◌, ℕ, zero, suc, ◌+◌, ◌-◌, ◌≤◌, ◌<◌, min, List, [], ◌∷◌, refl, ap, sym, subst, Bool, true, false, inl, inr, arith}
use Rattle.std.specs.Prelude.{nat_le, ◌&&◌}
use Rattle.std.proofs.lemmas.Bool.{cases_Bool, cases_lt}
use Rattle.std.proofs.lemmas.Bool.Decides.{nat_tests}
use Rattle.def_machine.specs.Machine.{Entries, takes_steps}
use Rattle.def_guests.specs.Turns.{Turned, afresh, advanced, turn_of}
use Rattle.def_guests.specs.Rounds.{Member, left, is_done, opened, closed_by, turn_in, Hosted, members_after, round, all_done, left_of_all}
use Rattle.def_guests.specs.Rounds.{rounds, whole_turn, WholeTurns}
use Rattle.def_guests.specs.Laws.{RoundsEnd}
use Rattle.def_guests.proofs.TurnLaws.{halted_turn, going_turn, nothing_turned, turns_add, afresh_before, marks_stay_before}

-- ---- the steps of a turn

pub advanced_steps : (script : Entries) (t : Turned) → (advanced script t).guest.machine.steps ≡ t.guest.machine.steps + 1
advanced_steps script t = refl

-- a machine that still goes has taken them all
pub turn_steps : (script : Entries) (n : ℕ) (t : Turned) → takes_steps (turn_of script n t).guest.machine.state ≡ true
    → (turn_of script n t).guest.machine.steps ≡ t.guest.machine.steps + n
turn_steps script zero t h =
    ap (λ (x : Turned). x.guest.machine.steps) (nothing_turned script t)
    ∙ (let e : t.guest.machine.steps ≡ t.guest.machine.steps + 0 = omega arith in e)
turn_steps script (suc n) t h = elim (cases_Bool (takes_steps t.guest.machine.state)) [
  | inl going ↦
      let same = going_turn script n t going in
      ap (λ (x : Turned). x.guest.machine.steps) same
      ∙ turn_steps script n (advanced script t) (ap (λ (x : Turned). takes_steps x.guest.machine.state) (sym same) ∙ h)
      ∙ (let e = advanced_steps script t in omega arith)
  | inr still ↦
      absurd (cc (sym still ∙ ap (λ (x : Turned). takes_steps x.guest.machine.state) (sym (halted_turn script (suc n) t still)) ∙ h))
]

-- ---- what a guest has left

pub left_going : (m : Member) → takes_steps m.guest.machine.state ≡ true → left m ≡ m.bound - m.guest.machine.steps
left_going m h = rw h refl

pub left_still : (m : Member) → takes_steps m.guest.machine.state ≡ false → left m ≡ 0
left_still m h = rw h refl

-- after a turn of no more than it has left
abbrev pub after_turn : Member → ℕ → Member
after_turn m n = closed_by (turn_of m.script n (opened m)) m

turned_left : (m : Member) (n : ℕ) → n ≤ left m → left (after_turn m n) ≤ left m - n
turned_left m n few = elim (cases_Bool (takes_steps m.guest.machine.state)) [
  | inl going ↦ elim (cases_Bool (takes_steps (after_turn m n).guest.machine.state)) [
    | inl on ↦
        let e = left_going m going in
        let f = left_going (after_turn m n) on in
        let s = turn_steps m.script n (opened m) on in omega arith
    | inr off ↦ let f = left_still (after_turn m n) off in omega arith
  ]
  | inr still ↦
      let e = left_still m still in
      let same = ap (λ (t : Turned). left (closed_by t m)) (halted_turn m.script n (opened m) still) in omega arith
]

min_few : (a b : ℕ) → min a b ≤ b
min_few a b = omega arith

min_some : (a b : ℕ) → 1 ≤ a → 1 ≤ b → 1 ≤ min a b
min_some a b h k = omega arith

round_left : (slice : ℕ) (m : Member) → 1 ≤ slice
    → (left (closed_by (turn_in slice m) m) ≤ left m) × (1 ≤ left m → left (closed_by (turn_in slice m) m) < left m)
round_left slice m h =
    let few = min_few slice (left m) in
    let less = turned_left m (min slice (left m)) few in (
      omega arith,
      λ some. let more = min_some slice (left m) h some in omega arith,
    )

rounds_left : (slice : ℕ) (members : List Member) → 1 ≤ slice
    → (left_of_all (members_after slice members) ≤ left_of_all members)
    × (1 ≤ left_of_all members → left_of_all (members_after slice members) < left_of_all members)
rounds_left slice [] h = (omega arith, λ some. some)
rounds_left slice (m ∷ members) h =
    let one = round_left slice m h in
    let rest = rounds_left slice members h in
    let a = one.0 in let b = rest.0 in (
      omega arith,
      λ some. elim (cases_lt 0 (left m)) [
        | inl has ↦ let c = one.1 (omega arith) in omega arith
        | inr none ↦ let c = rest.1 (omega arith) in omega arith
      ],
    )

-- ---- all are done where nothing is left

pub no_more : (n : ℕ) → n ≤ 0 → nat_le n 0 ≡ true
no_more n h = grind (arith, nat_tests)

pub some_more : (n : ℕ) → nat_le n 0 ≡ false → 1 ≤ n
some_more n h = grind (arith, nat_tests)

done_all : (members : List Member) → left_of_all members ≤ 0 → all_done members ≡ true
done_all [] h = refl
done_all (m ∷ members) h = rw (no_more (left m) (omega arith)) (done_all members (omega arith))

left_some : (members : List Member) → all_done members ≡ false → 1 ≤ left_of_all members
left_some [] h = absurd (cc h)
left_some (m ∷ members) h = elim (cases_Bool (is_done m)) [
  | inl done ↦ let r = left_some members (rw done at h) in omega arith
  | inr more ↦ let r = some_more (left m) more in omega arith
]

-- ---- rounds

rounds_done : (slice n : ℕ) (h : Hosted) → all_done h.members ≡ true → rounds slice n h ≡ h
unfolding rounds
rounds_done slice zero h d = refl
rounds_done slice (suc n) h d = rw d refl

rounds_none : (slice : ℕ) (h : Hosted) → rounds slice zero h ≡ h
unfolding rounds
rounds_none slice h = refl

rounds_go : (slice n : ℕ) (h : Hosted) → all_done h.members ≡ false → rounds slice (suc n) h ≡ rounds slice n (round slice h)
unfolding rounds
rounds_go slice n h d = rw d refl

rounds_end : (slice n : ℕ) (h : Hosted) → 1 ≤ slice → left_of_all h.members ≤ n → all_done (rounds slice n h).members ≡ true
rounds_end slice zero h some few = ap (λ (x : Hosted). all_done x.members) (rounds_done slice zero h (done_all h.members few)) ∙ done_all h.members few
rounds_end slice (suc n) h some few = elim (cases_Bool (all_done h.members)) [
  | inl d ↦ ap (λ (x : Hosted). all_done x.members) (rounds_done slice (suc n) h d) ∙ d
  | inr g ↦
      let less = (rounds_left slice h.members some).1 (left_some h.members g) in
      ap (λ (x : Hosted). all_done x.members) (rounds_go slice n h g) ∙ rounds_end slice n (round slice h) some (omega arith)
]

-- ---- the turns of a guest are one

-- a guest after some turns: as after one of so many steps, no more than it had left
pub record Along (m k : Member) : Type 0 where
  pub steps : ℕ
  pub few : steps ≤ left m
  pub same : k ≡ after_turn m steps

abbrev AllAlong : List Member → List Member → Type 0
AllAlong [] [] = Unit {0}
AllAlong (m ∷ ms) (k ∷ ks) = Along m k × AllAlong ms ks
AllAlong _ _ = ⊥

-- marks and exceptions before a turn have no part in it
pub unmarked_turn : (script : Entries) (n : ℕ) (t : Turned) (m : Member) → closed_by (turn_of script n (afresh t)) m ≡ closed_by (turn_of script n t) m
unmarked_turn script n t m =
    ap (λ (x : Turned). closed_by x m) (sym (marks_stay_before script n t.marks t.exceptions (afresh t)))
    ∙ ap (λ (x : Turned). closed_by (turn_of script n x) m) (afresh_before t)

turn_more : (m : Member) (n k : ℕ) → closed_by (turn_of m.script k (opened (after_turn m n))) (after_turn m n) ≡ after_turn m (n + k)
turn_more m n k =
    unmarked_turn m.script k (turn_of m.script n (opened m)) m
    ∙ ap (λ (x : Turned). closed_by x m) (sym (turns_add m.script n k (opened m)))

along_more : (slice : ℕ) (m k : Member) → Along m k → Along m (closed_by (turn_in slice k) k)
along_more slice m k a =
    let n = min slice (left (after_turn m a.steps)) in
    let few = min_few slice (left (after_turn m a.steps)) in
    let rest = turned_left m a.steps a.few in
    subst (λ (x : Member). Along m (closed_by (turn_of x.script (min slice (left x)) (opened x)) x)) (sym a.same) (record {
      steps = a.steps + n;
      few = let f = a.few in omega arith;
      same = turn_more m a.steps n;
    })

all_along : (slice : ℕ) (ms ks : List Member) → AllAlong ms ks → AllAlong ms (members_after slice ks)
all_along slice [] [] h = tt
all_along slice (m ∷ ms) (k ∷ ks) h = (along_more slice m k h.0, all_along slice ms ks h.1)
all_along slice [] (k ∷ ks) h = absurd h
all_along slice (m ∷ ms) [] h = absurd h

begin_along : (ms : List Member) → AllAlong ms ms
begin_along [] = tt
begin_along (m ∷ ms) = (
  record { steps = 0; few = omega arith; same = ap (λ (t : Turned). closed_by t m) (sym (nothing_turned m.script (opened m))) },
  begin_along ms,
)

rounds_along : (slice n : ℕ) (ms : List Member) (h : Hosted) → AllAlong ms h.members → AllAlong ms (rounds slice n h).members
rounds_along slice zero ms h a = subst (λ (x : Hosted). AllAlong ms x.members) (sym (rounds_none slice h)) a
rounds_along slice (suc n) ms h a = elim (cases_Bool (all_done h.members)) [
  | inl d ↦ subst (λ (x : Hosted). AllAlong ms x.members) (sym (rounds_done slice (suc n) h d)) a
  | inr g ↦
      subst (λ (x : Hosted). AllAlong ms x.members) (sym (rounds_go slice n h g))
      (rounds_along slice n ms (round slice h) (all_along slice ms h.members a))
]

-- ---- the end

left_most : (m : Member) → left m ≤ m.bound - m.guest.machine.steps
left_most m = elim (cases_Bool (takes_steps m.guest.machine.state)) [
  | inl going ↦ let e = left_going m going in omega arith
  | inr still ↦ let e = left_still m still in omega arith
]

-- the rest of its steps change nothing
rest_turned : (m : Member) (n : ℕ) → left (after_turn m n) ≤ 0
    → turn_of m.script (left m - n) (turn_of m.script n (opened m)) ≡ turn_of m.script n (opened m)
rest_turned m n none = elim (cases_Bool (takes_steps (after_turn m n).guest.machine.state)) [
  | inl on ↦
      let e = left_going (after_turn m n) on in
      let s = turn_steps m.script n (opened m) on in
      let f = left_most m in
      ap (λ (k : ℕ). turn_of m.script k (turn_of m.script n (opened m))) (let z : left m - n ≡ 0 = omega arith in z)
      ∙ nothing_turned m.script (turn_of m.script n (opened m))
  | inr off ↦ halted_turn m.script (left m - n) (turn_of m.script n (opened m)) off
]

whole_by : (m : Member) (n : ℕ) → n ≤ left m → left (after_turn m n) ≤ 0 → after_turn m n ≡ closed_by (whole_turn m) m
whole_by m n few none =
    ap (λ (t : Turned). closed_by t m) (
    sym (rest_turned m n none) ∙ sym (turns_add m.script n (left m - n) (opened m))
    ∙ ap (λ (k : ℕ). turn_of m.script k (opened m)) (let z : n + (left m - n) ≡ left m = omega arith in z)
    )

no_left : (n : ℕ) → nat_le n 0 ≡ true → n ≤ 0
no_left n h = grind (arith, nat_tests)

along_done : (m k : Member) → Along m k → is_done k ≡ true → k ≡ closed_by (whole_turn m) m
along_done m k a d =
    a.same ∙ whole_by m a.steps a.few (subst (λ (x : Member). left x ≤ 0) a.same (no_left (left k) d))

first_done : (a b : Bool) → (a && b) ≡ true → a ≡ true
first_done true b h = refl
first_done false b h = absurd (cc h)

second_done : (a b : Bool) → (a && b) ≡ true → b ≡ true
second_done true b h = h
second_done false b h = absurd (cc h)

all_whole : (ms ks : List Member) → AllAlong ms ks → all_done ks ≡ true → WholeTurns ms ks
all_whole [] [] h d = tt
all_whole (m ∷ ms) (k ∷ ks) h d =
    (along_done m k h.0 (first_done (is_done k) (all_done ks) d), all_whole ms ks h.1 (second_done (is_done k) (all_done ks) d))
all_whole [] (k ∷ ks) h d = absurd h
all_whole (m ∷ ms) [] h d = absurd h

pub rounds_end_all : RoundsEnd
rounds_end_all slice h some =
    let done = rounds_end slice (left_of_all h.members) h some (omega arith) in
    let after = rounds slice (left_of_all h.members) h in record {
      done = done;
      whole = all_whole h.members after.members (rounds_along slice (left_of_all h.members) h.members h (begin_along h.members)) done;
      again = rounds_done slice (left_of_all after.members) after done;
    }
