-- Guests that are seated: one that changes, its turn, and a further one behind them.
use Rattle.std.proofs.Common.{◌≡◌, ◌≢◌, ◌∙◌, ℕ, zero, suc, ◌+◌, ◌≤◌, ◌<◌, List, [], ◌∷◌, ◌++◌, length, get_or, set, drop, map}
use Rattle.std.proofs.Common.{◌⊎◌, Bool, true, false, refl, ap, sym, subst, inl, inr, arith, Some}
use Rattle.std.specs.Prelude.{slice_get, ◌&&◌, All, if◌then◌else◌}
use Rattle.std.proofs.Common.{append_assoc}
use Rattle.std.proofs.lemmas.List.{append-nil, map-append, map-set}
use Rattle.mb_instr.specs.declared.registers.Plain.{Plain}
use Rattle.def_runs.specs.Marks.{trail}
use Rattle.def_runs.specs.Native.{NativeState}
use Rattle.def_guests.specs.Turns.{Guested}
use Rattle.def_guests.specs.Seats.{Seat, end_of, guested_on, IsSame, IsSeated, OnlyWithin}
use Rattle.def_guests.specs.Stages.{AllSeated}
use Rattle.def_guests.specs.Rounds.{Member, left, is_done, all_done, left_of_all, turn_in, members_after, marks_after, exceptions_after}
use Rattle.def_guests.proofs.Independent.{others_stay, seated_at as guest_seated}
use Rattle.vm_guest.specs.Memory.{OnlyBetween}
use Rattle.vm_guest.proofs.Joining.{guests_join}
use Rattle.vm_slices.specs.declared.host_guest.HostGuest.{HostGuest}
use Rattle.def_guests.proofs.Trails.{trail_append}
use Rattle.vm_slices.specs.Counting.{AreCounted, HasRoom, RisesBy}
use Rattle.vm_slices.specs.Members.{after_turn, going, IsBounded}
use Rattle.vm_slices.specs.Places.{member_of, members_of, seats_of, with_member, with_turn, exceptions_at, marks_at}

-- ---- one of them

pub seat_at : (gs : List HostGuest) (i : ℕ) (g : HostGuest) → i < length gs → g ≡ get_or gs i g → slice_get (seats_of gs) i ≡ Some g.guest
seat_at [] i g less is = absurd (omega arith)
seat_at (k ∷ ks) zero g less is = ap (λ (x : HostGuest). Some x.guest) (sym is)
seat_at (k ∷ ks) (suc i) g less is = seat_at ks i g (omega arith) is

pub seated_at : (gs : List HostGuest) (ram : List ℕ) (i : ℕ) (g : HostGuest) → AllSeated (seats_of gs) ram → i < length gs
    → g ≡ get_or gs i g → IsSeated g.guest ram
seated_at gs ram i g all less is = guest_seated (seats_of gs) ram i g.guest all (seat_at gs i g less is)

-- its member
pub member_at : {A : Type 0} (shown : Member → A) (gs : List HostGuest) (ram : List ℕ) (i : ℕ) (g : HostGuest) → i < length gs
    → g ≡ get_or gs i g → slice_get (map shown (members_of gs ram)) i ≡ Some (shown (member_of ram g))
member_at shown [] ram i g less is = absurd (omega arith)
member_at shown (k ∷ ks) ram zero g less is = ap (λ (x : HostGuest). Some (shown (member_of ram x))) (sym is)
member_at shown (k ∷ ks) ram (suc i) g less is = member_at shown ks ram i g (omega arith) is

-- all behind a place are done where it is, and all behind it
pub done_from : (gs : List HostGuest) (ram : List ℕ) (i : ℕ) (g : HostGuest) → i < length gs → g ≡ get_or gs i g
    → all_done (members_of (drop i gs) ram) ≡ (is_done (member_of ram g) && all_done (members_of (drop (i + 1) gs) ram))
done_from [] ram i g less is = absurd (omega arith)
done_from (k ∷ ks) ram zero g less is = ap (λ (a : HostGuest). is_done (member_of ram a) && all_done (members_of ks ram)) (sym is)
done_from (k ∷ ks) ram (suc i) g less is =
    done_from ks ram i g (omega arith) is
    ∙ ap (λ (n : ℕ). is_done (member_of ram g) && all_done (members_of (drop n (k ∷ ks)) ram)) (let e : suc (i + 1) ≡ suc i + 1 = omega arith in e)

pub none_behind : (gs : List HostGuest) (ram : List ℕ) (i : ℕ) → length gs ≤ i → all_done (members_of (drop i gs) ram) ≡ true
none_behind [] ram zero more = refl
none_behind [] ram (suc i) more = refl
none_behind (k ∷ ks) ram zero more = absurd (omega arith)
none_behind (k ∷ ks) ram (suc i) more = none_behind ks ram i (omega arith)

-- and of those from there on as many have steps left as it has or has not, and those behind it
pub going_from : (gs : List HostGuest) (ram : List ℕ) (i : ℕ) (g : HostGuest) → i < length gs → g ≡ get_or gs i g
    → going (members_of (drop i gs) ram) ≡ (if is_done (member_of ram g) then 0 else 1) + going (members_of (drop (i + 1) gs) ram)
going_from [] ram i g less is = absurd (omega arith)
going_from (k ∷ ks) ram zero g less is = ap (λ (a : HostGuest). (if is_done (member_of ram a) then 0 else 1) + going (members_of ks ram)) (sym is)
going_from (k ∷ ks) ram (suc i) g less is =
    going_from ks ram i g (omega arith) is
    ∙ ap (λ (n : ℕ). (if is_done (member_of ram g) then 0 else 1) + going (members_of (drop n (k ∷ ks)) ram))
    (let e : suc (i + 1) ≡ suc i + 1 = omega arith in e)

-- whether one was found that has, and no more
pub one_found : (some done found : Bool) (rest from all : ℕ)
    → ((done ≡ false) × (some ≡ false) × (found ≡ true)) ⊎ ((done ≡ true) × (found ≡ some))
    → from ≡ (if done then 0 else 1) + rest → (if some then 1 else 0) + from ≡ all → (if found then 1 else 0) + rest ≡ all
one_found some done found rest from all (inl (more, none, is)) begins counted =
    rw is (let b = rw more at begins in let c = rw none at counted in omega arith)
one_found some done found rest from all (inr (nothing, is)) begins counted =
    rw is (let b = rw nothing at begins in omega arith)

pub at_most_one : (some : Bool) (rest all : ℕ) → rest ≡ 0 → (if some then 1 else 0) + rest ≡ all → all ≤ 1
at_most_one true rest all none counted = omega arith
at_most_one false rest all none counted = omega arith

pub none_going : (gs : List HostGuest) (ram : List ℕ) (i : ℕ) → length gs ≤ i → going (members_of (drop i gs) ram) ≡ 0
none_going [] ram zero more = refl
none_going [] ram (suc i) more = refl
none_going (k ∷ ks) ram zero more = absurd (omega arith)
none_going (k ∷ ks) ram (suc i) more = none_going ks ram i (omega arith)

-- ---- one that changes

same_member : (g : HostGuest) (x y : List ℕ) → guested_on g.guest y ≡ guested_on g.guest x → member_of y g ≡ member_of x g
same_member g x y same =
    ap (λ (t : Guested). (let m : Member = record { script = g.guest.script; bound = g.bound; guest = t; tally = g.guest.tally } in m)) same

members_stay : (gs : List HostGuest) (x y : List ℕ) → ((j : ℕ) (k : Seat) → slice_get (seats_of gs) j ≡ Some k → guested_on k y ≡ guested_on k x)
    → members_of gs y ≡ members_of gs x
members_stay [] x y same = refl
members_stay (k ∷ ks) x y same =
    ap (λ (m : Member). m ∷ members_of ks y) (same_member k x y (same zero k.guest refl))
    ∙ ap (λ (ms : List Member). member_of x k ∷ ms) (members_stay ks x y (λ j. same (suc j)))

members_with : (change : Member → Member) (gs : List HostGuest) (i : ℕ) (g h : HostGuest) (x y : List ℕ) → i < length gs → g ≡ get_or gs i g
    → member_of y h ≡ change (member_of x g)
    → ((j : ℕ) (k : Seat) → j ≢ i → slice_get (seats_of gs) j ≡ Some k → guested_on k y ≡ guested_on k x)
    → members_of (set gs i h) y ≡ with_member i change (members_of gs x)
members_with change [] i g h x y less is own others = absurd (omega arith)
members_with change (k ∷ ks) zero g h x y less is own others =
    ap (λ (m : Member). m ∷ members_of ks y) (own ∙ ap (λ (a : HostGuest). change (member_of x a)) is)
    ∙ ap (λ (ms : List Member). change (member_of x k) ∷ ms) (members_stay ks x y (λ j a. others (suc j) a (λ e. omega arith)))
members_with change (k ∷ ks) (suc i) g h x y less is own others =
    ap (λ (m : Member). m ∷ members_of (set ks i h) y) (same_member k x y (others zero k.guest (λ e. omega arith) refl))
    ∙ ap (λ (ms : List Member). member_of x k ∷ ms)
    (members_with change ks i g h x y (omega arith) is own (λ j a ne. others (suc j) a (λ e. ne (omega arith))))

-- what is known of a guest that changes on its own part of the board
pub record HasChanged (change : Member → Member) (g h : HostGuest) (x y : List ℕ) : Type 0 where
  pub member : member_of y h ≡ change (member_of x g)
  pub same : IsSame g.guest h.guest
  pub seated : IsSeated h.guest y
  pub within : OnlyWithin g.guest x y

-- the guest at a place
pub changed_at : (change : Member → Member) (gs : List HostGuest) (i : ℕ) (r h : HostGuest) (x y : List ℕ) → AllSeated (seats_of gs) x
    → i < length gs → r ≡ get_or gs i r → HasChanged change (get_or gs i r) h x y
    → AllSeated (seats_of (set gs i h)) y × (members_of (set gs i h) y ≡ with_member i change (members_of gs x))
changed_at change gs i r h x y all less is t =
    let g = get_or gs i r in
    let here : g ≡ get_or gs i g = ap (λ (a : HostGuest). get_or gs i a) is in
    let stay = others_stay (seats_of gs) i g.guest h.guest x y all (seat_at gs i g less here) t.same t.seated t.within in (
      subst (λ (seats : List Seat). AllSeated seats y) (sym (map-set (λ (a : HostGuest). a.guest) gs i h)) stay.0,
      members_with change gs i g h x y less here t.member stay.1,
    )

-- every other member is as it was
pub other_stays : (slice place other : ℕ) (ms : List Member) → other ≢ place → slice_get (with_turn slice place ms) other ≡ slice_get ms other
other_stays slice place other [] ne = refl
other_stays slice zero zero (m ∷ ms) ne = absurd (ne refl)
other_stays slice zero (suc other) (m ∷ ms) ne = refl
other_stays slice (suc place) zero (m ∷ ms) ne = refl
other_stays slice (suc place) (suc other) (m ∷ ms) ne = other_stays slice place other ms (λ e. ne (ap suc e))

-- ---- the turns of a round

-- members of which so many have taken their turn
abbrev pub first_turned : (slice n : ℕ) → List Member → List Member
first_turned slice n [] = []
first_turned slice zero (m ∷ ms) = m ∷ ms
first_turned slice (suc n) (m ∷ ms) = after_turn slice m ∷ first_turned slice n ms

pub none_turned : (slice : ℕ) (ms : List Member) → first_turned slice 0 ms ≡ ms
none_turned slice [] = refl
none_turned slice (m ∷ ms) = refl

pub one_more : (slice n : ℕ) (ms : List Member) → with_turn slice n (first_turned slice n ms) ≡ first_turned slice (suc n) ms
one_more slice n [] = refl
one_more slice zero (m ∷ ms) = ap (λ (ks : List Member). after_turn slice m ∷ ks) (sym (none_turned slice ms))
one_more slice (suc n) (m ∷ ms) = ap (λ (ks : List Member). after_turn slice m ∷ ks) (one_more slice n ms)

pub all_turned : (slice : ℕ) (ms : List Member) → first_turned slice (length ms) ms ≡ members_after slice ms
all_turned slice [] = refl
all_turned slice (m ∷ ms) = ap (λ (ks : List Member). after_turn slice m ∷ ks) (all_turned slice ms)

-- the marks of so many turns
abbrev pub first_marks : (slice n : ℕ) → List Member → List Plain
first_marks slice n [] = []
first_marks slice zero (m ∷ ms) = []
first_marks slice (suc n) (m ∷ ms) = (turn_in slice m).marks ++ first_marks slice n ms

pub no_marks : (slice : ℕ) (ms : List Member) → first_marks slice 0 ms ≡ []
no_marks slice [] = refl
no_marks slice (m ∷ ms) = refl

pub more_marks : (slice n : ℕ) (ms : List Member) → first_marks slice n ms ++ marks_at slice n (first_turned slice n ms) ≡ first_marks slice (suc n) ms
more_marks slice n [] = refl
more_marks slice zero (m ∷ ms) =
    sym (append-nil (turn_in slice m).marks) ∙ ap (λ (marks : List Plain). (turn_in slice m).marks ++ marks) (sym (no_marks slice ms))
more_marks slice (suc n) (m ∷ ms) =
    append_assoc (turn_in slice m).marks (first_marks slice n ms) (marks_at slice n (first_turned slice n ms))
    ∙ ap (λ (marks : List Plain). (turn_in slice m).marks ++ marks) (more_marks slice n ms)

pub all_marks : (slice : ℕ) (ms : List Member) → first_marks slice (length ms) ms ≡ marks_after slice ms
all_marks slice [] = refl
all_marks slice (m ∷ ms) = ap (λ (marks : List Plain). (turn_in slice m).marks ++ marks) (all_marks slice ms)

-- the exceptions of so many turns
abbrev pub first_exceptions : (slice n : ℕ) → List Member → ℕ
first_exceptions slice n [] = 0
first_exceptions slice zero (m ∷ ms) = 0
first_exceptions slice (suc n) (m ∷ ms) = (turn_in slice m).exceptions + first_exceptions slice n ms

pub no_exceptions : (slice : ℕ) (ms : List Member) → first_exceptions slice 0 ms ≡ 0
no_exceptions slice [] = refl
no_exceptions slice (m ∷ ms) = refl

pub more_exceptions : (slice n : ℕ) (ms : List Member)
    → first_exceptions slice n ms + exceptions_at slice n (first_turned slice n ms) ≡ first_exceptions slice (suc n) ms
more_exceptions slice n [] = refl
more_exceptions slice zero (m ∷ ms) = let none = no_exceptions slice ms in omega arith
more_exceptions slice (suc n) (m ∷ ms) =
    let rest = more_exceptions slice n ms in
    let own = (turn_in slice m).exceptions in
    let all : own + first_exceptions slice n ms + exceptions_at slice n (first_turned slice n ms) ≡ own + first_exceptions slice (suc n) ms =
    omega arith in all

pub all_exceptions : (slice : ℕ) (ms : List Member) → first_exceptions slice (length ms) ms ≡ exceptions_after slice ms
all_exceptions slice [] = refl
all_exceptions slice (m ∷ ms) = ap (λ (e : ℕ). (turn_in slice m).exceptions + e) (all_exceptions slice ms)

-- ---- what is counted

pub nothing_counted : (ms : List Member) (native : NativeState) → AreCounted ms ms [] 0 native native
unfolding trail
nothing_counted ms native = record { retired = refl; trail = refl; exceptions = omega arith; least = omega arith; most = omega arith }

pub counted_as : {a b : List Member} {x y : List Plain} {d e : ℕ} {o p : NativeState} → x ≡ y → d ≡ e → AreCounted a b x d o p → AreCounted a b y e o p
counted_as {a} {b} {x} {y} {d} {e} {o} {p} marks exceptions counts =
    subst (λ (z : List Plain). AreCounted a b z e o p) marks (subst (λ (n : ℕ). AreCounted a b x n o p) exceptions counts)

pub counted_on : (a b c : List Member) (first more : List Plain) (d e : ℕ) (o p q : NativeState) → AreCounted a b first d o p → AreCounted b c more e p q
    → AreCounted a c (first ++ more) (d + e) o q
counted_on a b c first more d e o p q x y =
    let r = x.retired in
    let s = y.retired in
    let g = x.exceptions in
    let h = y.exceptions in
    let i = x.least in
    let j = y.least in
    let l = x.most in
    let m = y.most in
    record {
      retired = omega arith;
      trail = y.trail ∙ ap (λ (t : ℕ). trail t more) x.trail ∙ sym (trail_append o.trail first more);
      exceptions = omega (arith, g, h);
      least = omega arith;
      most = omega arith;
    }

-- of a turn of one of the members
pub record Turn (slice place : ℕ) (ms : List Member) (old new : NativeState) : Type 0 where
  pub counts : AreCounted ms (with_turn slice place ms) (marks_at slice place ms) (exceptions_at slice place ms) old new
  pub bounds : All IsBounded (with_turn slice place ms)
  pub rises : RisesBy (left_of_all ms) (left_of_all (with_turn slice place ms)) old new

-- what is known of the one that takes it
pub record Own (slice : ℕ) (m : Member) (old new : NativeState) : Type 0 where
  pub counts : AreCounted (m ∷ []) (after_turn slice m ∷ []) (turn_in slice m).marks (turn_in slice m).exceptions old new
  pub rises : RisesBy (left m) (left (after_turn slice m)) old new

pub own_by : (slice : ℕ) (m k : Member) (old new : NativeState) → k ≡ after_turn slice m
    → AreCounted (m ∷ []) (k ∷ []) (turn_in slice m).marks (turn_in slice m).exceptions old new
    → RisesBy (left m) (left k) old new → Own slice m old new
own_by slice m k old new is counts rises = record {
  counts = subst (λ (a : Member). AreCounted (m ∷ []) (a ∷ []) (turn_in slice m).marks (turn_in slice m).exceptions old new) is counts;
  rises = subst (λ (a : Member). RisesBy (left m) (left a) old new) is rises;
}

pub all_behind : (m : Member) (ms : List Member) → All IsBounded (m ∷ ms) → All IsBounded ms
all_behind m ms all k d less = all (suc k) d (omega arith)

pub with_first : (m : Member) (ms : List Member) → IsBounded m → All IsBounded ms → All IsBounded (m ∷ ms)
with_first m ms first all zero d less = first
with_first m ms first all (suc k) d less = all k d (omega arith)

pub member_bounded : (gs : List HostGuest) (x : List ℕ) (i : ℕ) (g : HostGuest) → i < length gs → g ≡ get_or gs i g → All IsBounded (members_of gs x)
    → IsBounded (member_of x g)
member_bounded [] x i g less is all = absurd (omega arith)
member_bounded (k ∷ ks) x zero g less is all = subst (λ (a : HostGuest). IsBounded (member_of x a)) (sym is) (all zero (member_of x k) (omega arith))
member_bounded (k ∷ ks) x (suc i) g less is all =
    member_bounded ks x i g (omega arith) is (all_behind (member_of x k) (members_of ks x) all)

member_left : (gs : List HostGuest) (x : List ℕ) (i : ℕ) (g : HostGuest) → i < length gs → g ≡ get_or gs i g
    → left (member_of x g) ≤ left_of_all (members_of gs x)
member_left [] x i g less is = absurd (omega arith)
member_left (k ∷ ks) x zero g less is =
    subst (λ (a : HostGuest). left (member_of x a) ≤ left (member_of x k) + left_of_all (members_of ks x)) (sym is) (omega arith)
member_left (k ∷ ks) x (suc i) g less is = let rest = member_left ks x i g (omega arith) is in omega arith

pub member_room : (gs : List HostGuest) (x : List ℕ) (i : ℕ) (g : HostGuest) (native : NativeState) → i < length gs → g ≡ get_or gs i g
    → HasRoom (left_of_all (members_of gs x)) native → HasRoom (left (member_of x g)) native
member_room gs x i g native less is room =
    let few = member_left gs x i g less is in
    let a = room.0 in
    let b = room.1 in
    (omega arith, omega arith)

pub bounded_behind : (ms : List Member) (m : Member) → All IsBounded ms → IsBounded m → All IsBounded (ms ++ m ∷ [])
bounded_behind [] m all own = with_first m [] own all
bounded_behind (k ∷ ks) m all own = with_first k (ks ++ m ∷ []) (all zero k (omega arith)) (bounded_behind ks m (all_behind k ks all) own)

-- all are, where the one that changes is
pub bounded_with : (change : Member → Member) (gs : List HostGuest) (i : ℕ) (g : HostGuest) (x : List ℕ) → i < length gs → g ≡ get_or gs i g
    → All IsBounded (members_of gs x) → IsBounded (change (member_of x g)) → All IsBounded (with_member i change (members_of gs x))
bounded_with change [] i g x less is bounds own = absurd (omega arith)
bounded_with change (k ∷ ks) zero g x less is bounds own =
    with_first (change (member_of x k)) (members_of ks x) (subst (λ (a : HostGuest). IsBounded (change (member_of x a))) is own)
    (all_behind (member_of x k) (members_of ks x) bounds)
bounded_with change (k ∷ ks) (suc i) g x less is bounds own =
    with_first (member_of x k) (with_member i change (members_of ks x)) (bounds zero (member_of x k) (omega arith))
    (bounded_with change ks i g x (omega arith) is (all_behind (member_of x k) (members_of ks x) bounds) own)

pub turn_of_one : (slice i : ℕ) (gs : List HostGuest) (g : HostGuest) (x : List ℕ) (old new : NativeState) → i < length gs → g ≡ get_or gs i g
    → All IsBounded (members_of gs x) → Own slice (member_of x g) old new → Turn slice i (members_of gs x) old new
turn_of_one slice i [] g x old new less is bounds own = absurd (omega arith)
turn_of_one slice zero (k ∷ ks) g x old new less is bounds own =
    let own : Own slice (member_of x k) old new = subst (λ (a : HostGuest). Own slice (member_of x a) old new) is own in
    let r = own.counts.retired in
    let l = own.counts.least in
    let m = own.counts.most in
    let s = own.rises.0 in
    let f = own.rises.1 in
    record {
      counts = record {
        retired = omega arith;
        trail = own.counts.trail;
        exceptions = own.counts.exceptions;
        least = omega arith;
        most = omega arith;
      };
      bounds = with_first (after_turn slice (member_of x k)) (members_of ks x) (bounds zero (member_of x k) (omega arith))
          (all_behind (member_of x k) (members_of ks x) bounds);
      rises = (omega arith, omega arith);
    }
turn_of_one slice (suc i) (k ∷ ks) g x old new less is bounds own =
    let rest = turn_of_one slice i ks g x old new (omega arith) is (all_behind (member_of x k) (members_of ks x) bounds) own in
    let r = rest.counts.retired in
    let l = rest.counts.least in
    let m = rest.counts.most in
    let s = rest.rises.0 in
    let f = rest.rises.1 in
    record {
      counts = record {
        retired = omega arith;
        trail = rest.counts.trail;
        exceptions = rest.counts.exceptions;
        least = omega arith;
        most = omega arith;
      };
      bounds = with_first (member_of x k) (with_turn slice i (members_of ks x)) (bounds zero (member_of x k) (omega arith)) rest.bounds;
      rises = (omega arith, omega arith);
    }

-- ---- a further guest

pub further : (gs : List HostGuest) (h : HostGuest) (x y : List ℕ) → AllSeated (seats_of gs) x
    → All (λ (g : Seat). end_of g ≤ h.guest.base) (seats_of gs) → IsSeated h.guest y → OnlyBetween h.guest.base (end_of h.guest) x y
    → AllSeated (seats_of (gs ++ h ∷ [])) y × (members_of (gs ++ h ∷ []) y ≡ members_of gs x ++ member_of y h ∷ [])
further gs h x y all before seated within =
    let joined = guests_join (seats_of gs) h.guest x y all seated within (λ i d less. inl (before i d less)) in (
      subst (λ (seats : List Seat). AllSeated seats y) (sym (map-append (λ (a : HostGuest). a.guest) gs (h ∷ []))) joined.0,
      map-append (member_of y) gs (h ∷ []) ∙ ap (λ (ms : List Member). ms ++ member_of y h ∷ []) (members_stay gs x y joined.1),
    )
