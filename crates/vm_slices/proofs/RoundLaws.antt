-- Rounds of a session.
use Rattle.std.proofs.Common.{◌≡◌, ◌∙◌, ℕ, zero, suc, ◌+◌, ◌*◌, ◌^◌, ◌≤◌, ◌<◌, List, [], ◌∷◌, ◌++◌, length, map}
use Rattle.std.proofs.Common.{refl, ap, sym, subst, true, false, inl, inr, arith}
use Rattle.std.specs.Prelude.{All}
use Rattle.std.proofs.lemmas.Bool.{cases_Bool, cases_lt}
use Rattle.mb_instr.specs.declared.registers.Plain.{Plain}
use Rattle.def_machine.specs.Machine.{Machine, takes_steps}
use Rattle.def_runs.specs.Native.{NativeState}
use Rattle.def_guests.specs.Turns.{Tally}
use Rattle.def_guests.specs.Rounds.{Member, left, is_done, opened, Hosted, members_after, marks_after, exceptions_after, round, all_done, left_of_all}
use Rattle.def_guests.specs.Rounds.{rounds, host_run, WholeTurns}
use Rattle.def_guests.proofs.ByRule.{turns_by_rule}
use Rattle.def_guests.proofs.Rounds.{rounds_end_all, no_more, some_more}
use Rattle.vm_slices.specs.Counting.{AreCounted, HasRoom, RisesBy}
use Rattle.vm_slices.specs.Members.{machine_at_end, tally_at_end, after_rounds, machines_of, tallies_of, IsBounded}
use Rattle.vm_slices.proofs.Places.{counted_on, nothing_counted}
use Rattle.vm_slices.proofs.Turns.{turn_left}

-- ---- what is left

pub nothing_left : (ms : List Member) → left_of_all ms ≤ 0 → all_done ms ≡ true
nothing_left [] h = refl
nothing_left (m ∷ ms) h = rw (no_more (left m) (omega arith)) (nothing_left ms (omega arith))

left_some : (ms : List Member) → all_done ms ≡ false → 1 ≤ left_of_all ms
left_some [] h = absurd (cc h)
left_some (m ∷ ms) h = elim (cases_Bool (is_done m)) [
  | inl done ↦ let r = left_some ms (rw done at h) in omega arith
  | inr more ↦ let r = some_more (left m) more in omega arith
]

turns_left : (slice : ℕ) (ms : List Member) → 1 ≤ slice
    → (left_of_all (members_after slice ms) ≤ left_of_all ms)
    × (1 ≤ left_of_all ms → left_of_all (members_after slice ms) < left_of_all ms)
turns_left slice [] h = (omega arith, λ some. some)
turns_left slice (m ∷ ms) h =
    let one = turn_left slice m in
    let rest = turns_left slice ms h in
    let b = rest.0 in (
      omega arith,
      λ some. elim (cases_lt 0 (left m)) [
        | inl has ↦ omega arith
        | inr none ↦ let c = rest.1 (omega arith) in omega arith
      ],
    )

pub round_left : (slice : ℕ) (ms : List Member) → 1 ≤ slice → all_done ms ≡ false
    → left_of_all (members_after slice ms) < left_of_all ms
round_left slice ms h more = (turns_left slice ms h).1 (left_some ms more)

-- no guest has more left than its bound
left_few : (m : Member) → left m ≤ m.bound
left_few m = elim (cases_Bool (takes_steps m.guest.machine.state)) [
  | inl going ↦ rw going (omega arith)
  | inr still ↦ rw still (omega arith)
]

pub all_left_few : (ms : List Member) → All IsBounded ms → left_of_all ms ≤ 4294967296 * length ms
all_left_few [] all = omega arith
all_left_few (m ∷ ms) all =
    let own = all zero m (omega arith) in
    let few = left_few m in
    let rest = all_left_few ms (λ k d less. all (suc k) d (omega arith)) in omega arith

-- ---- rounds

pub rounds_stay : (slice n : ℕ) (h : Hosted) → all_done h.members ≡ true → rounds slice n h ≡ h
unfolding rounds
rounds_stay slice zero h done = refl
rounds_stay slice (suc n) h done = rw done refl

pub rounds_go : (slice n : ℕ) (h : Hosted) → all_done h.members ≡ false → rounds slice (suc n) h ≡ rounds slice n (round slice h)
unfolding rounds
rounds_go slice n h more = rw more refl

-- as many as are left are enough
enough : (slice n k : ℕ) (h : Hosted) → 1 ≤ slice → left_of_all h.members ≤ n → left_of_all h.members ≤ k → rounds slice n h ≡ rounds slice k h
enough slice zero k h some few more =
    let done = nothing_left h.members few in rounds_stay slice zero h done ∙ sym (rounds_stay slice k h done)
enough slice (suc n) zero h some few more =
    let done = nothing_left h.members more in rounds_stay slice (suc n) h done ∙ sym (rounds_stay slice zero h done)
enough slice (suc n) (suc k) h some few more = elim (cases_Bool (all_done h.members)) [
  | inl done ↦ rounds_stay slice (suc n) h done ∙ sym (rounds_stay slice (suc k) h done)
  | inr on ↦
      let less = round_left slice h.members some on in
      rounds_go slice n h on
      ∙ enough slice n k (round slice h) some (omega arith) (omega arith)
      ∙ sym (rounds_go slice k h on)
]

-- they go on from a round,
pub go_on : (slice : ℕ) (h : Hosted) → 1 ≤ slice → all_done h.members ≡ false → host_run slice (round slice h) ≡ host_run slice h
go_on slice h some more =
    let n = left_of_all h.members in
    let less = round_left slice h.members some more in
    enough slice (left_of_all (round slice h).members) n (round slice h) some (omega arith) (omega arith)
    ∙ sym (rounds_go slice n h more)
    ∙ enough slice (suc n) n h some (omega arith) (omega arith)

-- and end where all are done
end_where : (slice : ℕ) (h : Hosted) → all_done h.members ≡ true → host_run slice h ≡ h
end_where slice h done = rounds_stay slice (left_of_all h.members) h done

-- ---- the rounds of a session, so far

pub record SoFar (slice : ℕ) (first now : List Member) (old new : NativeState) : Type 0 where
  pub marks : List Plain
  pub left_times : ℕ
  pub run : host_run slice (record { members = now; marks = marks; exceptions = left_times }) ≡ after_rounds slice first
  pub counts : AreCounted first now marks left_times old new
  pub rises : RisesBy (left_of_all first) (left_of_all now) old new

pub none_so_far : (slice : ℕ) (ms : List Member) (native : NativeState) → SoFar slice ms ms native native
none_so_far slice ms native = record { marks = []; left_times = 0; run = refl; counts = nothing_counted ms native; rises = (omega arith, omega arith) }

-- so that a round of turns of another number of steps, from which they go on, leads to the same end
pub one_round : (slice other : ℕ) (first now next : List Member) (o p q : NativeState)
    → ((h : Hosted) → h.members ≡ now → host_run slice (round other h) ≡ host_run slice h)
    → next ≡ members_after other now → SoFar slice first now o p → AreCounted now next (marks_after other now) (exceptions_after other now) p q
    → RisesBy (left_of_all now) (left_of_all next) p q → SoFar slice first next o q
one_round slice other first now next o p q goes is far counts rises =
    let marks = far.marks ++ marks_after other now in
    let left_times = far.left_times + exceptions_after other now in
    let a = far.rises.0 in let b = rises.0 in let c = far.rises.1 in let d = rises.1 in
    record {
      marks = marks;
      left_times = left_times;
      run = ap (λ (ms : List Member). host_run slice (record { members = ms; marks = marks; exceptions = left_times })) is
          ∙ goes (record { members = now; marks = far.marks; exceptions = far.left_times }) refl ∙ far.run;
      counts = counted_on first now next far.marks (marks_after other now) far.left_times (exceptions_after other now) o p q far.counts counts;
      rises = (omega arith, omega arith);
    }

pub run_ends : (slice : ℕ) (first now : List Member) (o p : NativeState) → all_done now ≡ true → SoFar slice first now o p
    → (now ≡ (after_rounds slice first).members) × AreCounted first now (after_rounds slice first).marks (after_rounds slice first).exceptions o p
run_ends slice first now o p done far =
    let h : Hosted = record { members = now; marks = far.marks; exceptions = far.left_times } in
    let same : h ≡ after_rounds slice first = sym (end_where slice h done) ∙ far.run in (
      ap (λ (x : Hosted). x.members) same,
      subst (λ (x : Hosted). AreCounted first now x.marks x.exceptions o p) same far.counts,
    )

-- ---- room for what is left

-- for all of it at first
pub first_room : (ms : List Member) (native : NativeState) → All IsBounded ms → length ms ≤ 16 → native.retired < 2 ^ 61 → native.exceptions < 2 ^ 61
    → HasRoom (left_of_all ms) native
first_room ms native bounds few retired exceptions = let left = all_left_few ms bounds in (omega arith, omega arith)

-- and for the rest
pub room_after : (left more : ℕ) (old new : NativeState) → HasRoom left old → RisesBy left more old new → HasRoom more new
room_after left more old new room rises =
    let a = room.0 in let b = room.1 in let c = rises.0 in let d = rises.1 in (omega arith, omega arith)

-- No more can be counted of them all than of sixteen that take all steps.
pub rises_few : (ms : List Member) (left : ℕ) (old new : NativeState) → All IsBounded ms → length ms ≤ 16 → RisesBy (left_of_all ms) left old new
    → (new.retired ≤ old.retired + 2 ^ 36) × (new.exceptions ≤ old.exceptions + 2 ^ 41)
rises_few ms left old new bounds few rises =
    let all = all_left_few ms bounds in let a = rises.0 in let b = rises.1 in (omega arith, omega arith)

-- ---- what comes of each guest

whole_machines : (ms ks : List Member) → WholeTurns ms ks → machines_of ks ≡ map machine_at_end ms
whole_machines [] [] h = refl
whole_machines (m ∷ ms) (k ∷ ks) h =
    ap (λ (x : Machine). x ∷ machines_of ks)
    (ap (λ (x : Member). x.guest.machine) h.0 ∙ turns_by_rule m.script (left m) (opened m))
    ∙ ap (λ (xs : List Machine). machine_at_end m ∷ xs) (whole_machines ms ks h.1)
whole_machines [] (k ∷ ks) h = absurd h
whole_machines (m ∷ ms) [] h = absurd h

whole_tallies : (ms ks : List Member) → WholeTurns ms ks → tallies_of ks ≡ map tally_at_end ms
whole_tallies [] [] h = refl
whole_tallies (m ∷ ms) (k ∷ ks) h =
    ap (λ (x : Tally). x ∷ tallies_of ks) (ap (λ (x : Member). x.tally) h.0)
    ∙ ap (λ (xs : List Tally). tally_at_end m ∷ xs) (whole_tallies ms ks h.1)
whole_tallies [] (k ∷ ks) h = absurd h
whole_tallies (m ∷ ms) [] h = absurd h

-- its machine is that of its own run, and so are its counts
pub machines_end : (slice : ℕ) (ms : List Member) → 1 ≤ slice → machines_of (after_rounds slice ms).members ≡ map machine_at_end ms
machines_end slice ms some =
    let from : Hosted = record { members = ms; marks = []; exceptions = 0 } in
    whole_machines ms (host_run slice from).members (rounds_end_all slice from some).whole

pub tallies_end : (slice : ℕ) (ms : List Member) → 1 ≤ slice → tallies_of (after_rounds slice ms).members ≡ map tally_at_end ms
tallies_end slice ms some =
    let from : Hosted = record { members = ms; marks = []; exceptions = 0 } in
    whole_tallies ms (host_run slice from).members (rounds_end_all slice from some).whole
