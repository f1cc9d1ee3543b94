-- A guest's turn of a round, on its board.
use Rattle.std.proofs.Common.{◌≡◌, ◌∙◌, ℕ, ◌+◌, ◌≤◌, min, List, [], ◌∷◌, ap, sym, inl, inr, arith}
use Rattle.std.proofs.lemmas.Bool.{cases_Bool}
use Rattle.def_machine.specs.Machine.{Entries, takes_steps}
use Rattle.def_runs.specs.Marks.{trail}
use Rattle.def_runs.specs.Native.{NativeState}
use Rattle.def_guests.specs.Turns.{Turned, exits, turn_of}
use Rattle.def_guests.specs.Seats.{Seat, turned_on, Takes}
use Rattle.def_guests.specs.Rounds.{Member, left, opened, closed_by, turn_in}
use Rattle.def_guests.proofs.TurnLaws.{halted_turn}
use Rattle.vm_guest.specs.Turns.{scene, RisesByAtMost}
use Rattle.vm_slices.specs.declared.host_guest.HostGuest.{HostGuest}
use Rattle.def_guests.proofs.Counts.{exceptions_are_bounded}
use Rattle.vm_slices.specs.Counting.{AreCounted}
use Rattle.vm_slices.specs.Members.{after_turn}
use Rattle.vm_slices.specs.Places.{member_of}
use Rattle.def_guests.proofs.Rounds.{turn_steps, left_going, left_still}

-- what its turn of so many steps promises is its turn of a round
pub record HasTaken (slice : ℕ) (m k : Member) (old new : NativeState) : Type 0 where
  pub turn : k ≡ after_turn slice m
  pub counts : AreCounted (m ∷ []) (k ∷ []) (turn_in slice m).marks (turn_in slice m).exceptions old new

turned_in : (slice steps : ℕ) (m : Member) (t : Turned) → steps ≡ min slice (left m) → t ≡ turn_of m.script steps (opened m) → t ≡ turn_in slice m
turned_in slice steps m t is turned = turned ∙ ap (λ (n : ℕ). turn_of m.script n (opened m)) is

pub member_taken : (slice steps : ℕ) (g : HostGuest) (h : Seat) (x y : List ℕ) (old new : NativeState) → steps ≡ min slice (left (member_of x g))
    → Takes steps (scene g.guest x old) (scene h y new) → RisesByAtMost g.guest.steps h.steps old new
    → HasTaken slice (member_of x g) (member_of y (record { guest = h; bound = g.bound })) old new
member_taken slice steps g h x y old new is takes rises =
    let m = member_of x g in
    let after = turned_on h y takes.marks takes.left_times in
    let same : after ≡ turn_in slice m = turned_in slice steps m after is takes.turned in
    let retired = takes.retired in
    let exceptions : new.exceptions ≡ old.exceptions + (turn_in slice m).exceptions =
    takes.exceptions ∙ ap (λ (t : Turned). old.exceptions + t.exceptions) same in
    let tallies : (turn_in slice m).tally ≡ h.tally = ap (λ (t : Turned). t.tally) (sym same) in
    let least = (exceptions_are_bounded m.script (min slice (left m)) (opened m)).least in
    let exits_are = ap exits tallies in
    let most = rises.1 in
    record {
      turn = ap (λ (s : Entries). (let k : Member = record { script = s; bound = g.bound; guest = after.guest; tally = after.tally } in k)) takes.same.script
          ∙ ap (λ (t : Turned). closed_by t m) same;
      counts = record {
        retired = omega arith;
        trail = takes.trail ∙ ap (λ (t : Turned). trail old.trail t.marks) same;
        exceptions = exceptions;
        least = omega (arith, exceptions, least, exits_are);
        most = omega arith;
      };
    }

-- ---- what is left

-- after a turn of so many steps
abbrev pub after_steps : Member → ℕ → Member
after_steps m n = closed_by (turn_of m.script n (opened m)) m

pub steps_left : (m : Member) (n : ℕ) → n ≤ left m → left (after_steps m n) + n ≤ left m
steps_left m n few = elim (cases_Bool (takes_steps m.guest.machine.state)) [
  | inl going ↦ elim (cases_Bool (takes_steps (after_steps m n).guest.machine.state)) [
    | inl on ↦
        let e = left_going m going in
        let f = left_going (after_steps m n) on in
        let s = turn_steps m.script n (opened m) on in omega arith
    | inr off ↦ let f = left_still (after_steps m n) off in omega arith
  ]
  | inr still ↦
      let e = left_still m still in
      let same = ap (λ (t : Turned). left (closed_by t m)) (halted_turn m.script n (opened m) still) in omega arith
]

pub turn_left : (slice : ℕ) (m : Member) → left (after_turn slice m) + min slice (left m) ≤ left m
turn_left slice m = steps_left m (min slice (left m)) (omega arith)
