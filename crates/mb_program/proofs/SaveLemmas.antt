-- The guests of a session after one turn each.
use Rattle.std.proofs.Common.{◌≡◌, ◌∙◌, ℕ, zero, suc, ◌+◌, ◌≤◌, ◌<◌, inl, inr, List, [], ◌∷◌, ◌++◌, length, map, take, refl, sym, ap, subst, arith, Option, Some, None, sum_by}
use Rattle.std.specs.Prelude.{◌-◌, ◌/◌, ◌%◌, ◌^◌, All, IfSome, get_or, min, slice_get}
use Rattle.std.proofs.lemmas.List.{length-map, take_all}
use Rattle.std.proofs.lemmas.Option.{slice_get-get_or}
use Rattle.std.proofs.lemmas.Bool.{cases_lt, eq-eqb, ne_eqb}
use Rattle.std.proofs.lemmas.List.Elements.{All-append, All-cons, All-head, All-nil, All-tail}
use Rattle.std.proofs.lemmas.List.Sums.{sum_by-cons}
use Rattle.mb_model.specs.declared.kept.Kept.{Kept}
use Rattle.mb_model.specs.Keeping.{list_of, rule_k}
use Rattle.mb_model.specs.Seen.{Seen}
use Rattle.mb_script.specs.Plan.{IsTurnOf}
use Rattle.mb_script.specs.declared.turn.Turn.{Turn}
use Rattle.mb_devices.specs.Devices.{DeviceState}
use Rattle.mb_saved.specs.Saved.{CanBeKept, IsLawful}
use Rattle.def_machine.specs.Machine.{Entries, seen_machine, start}
use Rattle.def_runs.specs.Native.{NativeState}
use Rattle.def_guests.specs.Rounds.{Hosted, Member, closed_by, opened}
use Rattle.def_guests.specs.Turns.{Tally, exits, prepared, steps_in, turn_of}
use Rattle.def_guests.proofs.ByRule.{guests_run_alone}
use Rattle.def_guests.proofs.Counts.{counts_are_steps}
use Rattle.vm_guest.specs.Session.{GuestAtStart, IsGuest, IsSession, SessionAtStart}
use Rattle.vm_saved.specs.Lawful.{IsGuests}
use Rattle.vm_saved.proofs.Lawful.{guests_are_lawful, runs_are_guests, starts_are_guests}
use Rattle.vm_slices.specs.Adopting.{scripts_of}
use Rattle.vm_slices.specs.Counting.{AreCounted, exits_by, retired_by, steps_by}
use Rattle.vm_slices.specs.Members.{after_turn, devices_of, machines_of, member_at_start, shown_of as seen_of_all, tallies_of}
use Rattle.vm_slices.specs.Orders.{after_order, each_given, steps_given}
use Rattle.vm_slices.specs.Places.{HostState, members_in}
use Rattle.vm_disk.specs.Disk.{DiskState}
use Rattle.vm_snapshot.specs.Shown.{CanBeTold, ShownGuest, guests_text, head_text, saved_in, snapshot_text}
use Rattle.vm_snapshot.specs.Texts.{guest_text}
use Rattle.mb_ends.specs.Texts.{texts_from}
use Rattle.mb_program.specs.Direct.{AreCarriedOut, steps_hosted, tallies_by, tally_by}
use Rattle.mb_program.specs.Saves.{IsSaved, all_cut_to, cut_to, shown_alone, shown_of, turn_each}
use Rattle.mb_program.specs.Saved.{AreGuests, HaveStopped, kept_by, shown_by, shown_text}
use Rattle.mb_program.proofs.KeptLemmas.{take_one_more}
use Rattle.mb_program.proofs.RunLemmas.{all_left, exits_sum, none_left, none_retired, none_taken, retired_sum}
use Rattle.mb_ends.proofs.TextLemmas.{at_place}

-- ---- turns

given_below : (k steps j : ℕ) (guests : List GuestAtStart) → j < k → steps_given j (turn_each k steps guests) ≡ 0
given_below k steps j [] less = refl
given_below k steps j (g ∷ guests) less =
    let rest = given_below (k + 1) steps j guests (omega (arith, less)) in
    rw (ne_eqb k j (λ same. omega (arith, same, less))) (omega (arith, rest))

-- each of so many guests has one turn
given_each : (k steps j : ℕ) (guests : List GuestAtStart) → k ≤ j → j < k + length guests → steps_given j (turn_each k steps guests) ≡ steps
given_each k steps j [] least most = absurd (omega (arith, least, most))
given_each k steps j (g ∷ guests) least most = elim (cases_lt k j) [
  | inl less ↦
      let rest = given_each (k + 1) steps j guests (omega (arith, less)) (omega (arith, most)) in
      rw (ne_eqb k j (λ same. omega (arith, same, less))) (omega (arith, rest))
  | inr at_least ↦
      let none = given_below (k + 1) steps j guests (omega (arith, at_least)) in
      rw (eq-eqb k j (omega (arith, least, at_least))) (omega (arith, none))
]

-- which are turns of guests that there are
turns_from : (k steps count : ℕ) (guests : List GuestAtStart) → 1 ≤ k → k + length guests ≤ count + 1 → All (IsTurnOf count) (turn_each k steps guests)
turns_from k steps count [] some few = All-nil (IsTurnOf count)
turns_from k steps count (g ∷ guests) some few =
    All-cons (IsTurnOf count) _ _ (some, omega (arith, few)) (turns_from (k + 1) steps count guests (omega (arith, some)) (omega (arith, few)))

pub turns_so : (steps : ℕ) (guests : List GuestAtStart) (count : ℕ) → count ≡ length guests → All (IsTurnOf count) (turn_each 1 steps guests)
turns_so steps guests count same = turns_from 1 steps count guests (omega arith) (omega (arith, same))

one_more : (n steps k : ℕ) (guests : List GuestAtStart) → k < length guests
    → turn_each n steps (take (suc k) guests) ≡ turn_each n steps (take k guests) ++ record { guest = n + k; steps = steps } ∷ []
one_more n steps k [] less = absurd (omega (arith, less))
one_more n steps zero (g ∷ guests) less =
    let same : n ≡ n + 0 = omega arith in ap (λ m. record { guest = m; steps = steps } ∷ []) same
one_more n steps (suc k) (g ∷ guests) less =
    let same : (n + 1) + k ≡ n + suc k = omega arith in
    ap (λ turns. record { guest = n; steps = steps } ∷ turns)
    (one_more (n + 1) steps k guests (omega (arith, less))
    ∙ ap (λ m. turn_each (n + 1) steps (take k guests) ++ record { guest = m; steps = steps } ∷ []) same)

-- the turns of one guest more
pub turn_more : (steps k : ℕ) (guests : List GuestAtStart) → k < length guests
    → turn_each 1 steps (take (k + 1) guests) ≡ turn_each 1 steps (take k guests) ++ record { guest = k + 1; steps = steps } ∷ []
turn_more steps k guests less =
    let next : k + 1 ≡ suc k = omega arith in
    let same : 1 + k ≡ k + 1 = omega arith in
    ap (λ n. turn_each 1 steps (take n guests)) next ∙ one_more 1 steps k guests less
    ∙ ap (λ m. turn_each 1 steps (take k guests) ++ record { guest = m; steps = steps } ∷ []) same

-- ---- one turn of a guest

-- a guest after it
abbrev stopped : (steps : ℕ) → GuestAtStart → Member
stopped steps g = closed_by (turn_of g.script (min steps g.steps) (prepared g.opening g.ram)) (member_at_start g)

stops : (steps : ℕ) (g : GuestAtStart) → after_turn steps (member_at_start g) ≡ stopped steps g
stops steps g = ap (λ n. closed_by (turn_of g.script (min steps n) (opened (member_at_start g))) (member_at_start g)) (all_left g)

each_is : (turns : List Turn) (steps number : ℕ) (guests : List GuestAtStart)
    → ((j : ℕ) → number ≤ j → j < number + length guests → steps_given j turns ≡ steps)
    → each_given turns number (map member_at_start guests) ≡ map (stopped steps) guests
each_is turns steps number [] all = refl
each_is turns steps number (g ∷ guests) all =
    ap (λ n. after_turn n (member_at_start g) ∷ each_given turns (suc number) (map member_at_start guests))
    (all number (omega arith) (omega arith))
    ∙ ap (λ m. m ∷ each_given turns (suc number) (map member_at_start guests)) (stops steps g)
    ∙ ap (λ ms. stopped steps g ∷ ms)
    (each_is turns steps (suc number) guests (λ j least most. all j (omega (arith, least)) (omega (arith, most))))

-- all guests after one turn each
pub stopped_so : (steps : ℕ) (guests : List GuestAtStart) (before after : List Member) → before ≡ map member_at_start guests
    → after ≡ each_given (turn_each 1 steps guests) 1 before → after ≡ map (stopped steps) guests
stopped_so steps guests before after begun is =
    is ∙ ap (λ ms. each_given (turn_each 1 steps guests) 1 ms) begun
    ∙ each_is (turn_each 1 steps guests) steps 1 guests (λ j least most. given_each 1 steps j guests least most)

-- ---- what is shown of them

shown_one : (steps : ℕ) (g : GuestAtStart) → shown_of g.script (stopped steps g).guest.machine ≡ shown_alone (cut_to steps g)
shown_one steps g = ap (λ m. shown_of g.script m) (guests_run_alone g.opening g.script g.ram (min steps g.steps))

shown_all : (steps : ℕ) (guests : List GuestAtStart) → shown_by (map (stopped steps) guests) ≡ map shown_alone (all_cut_to steps guests)
shown_all steps [] = refl
shown_all steps (g ∷ guests) =
    ap (λ one. one ∷ shown_by (map (stopped steps) guests)) (shown_one steps g)
    ∙ ap (λ others. shown_alone (cut_to steps g) ∷ others) (shown_all steps guests)

pub shown_so : (steps : ℕ) (guests : List GuestAtStart) (after : List Member) → after ≡ map (stopped steps) guests
    → shown_by after ≡ map shown_alone (all_cut_to steps guests)
shown_so steps guests after is = ap shown_by is ∙ shown_all steps guests

-- ---- they are guests

guest_one : (steps : ℕ) (g : GuestAtStart) → IsGuest g → IsGuests (stopped steps g).guest.machine
guest_one steps g ok =
    let n = min steps g.steps in
    subst IsGuests (sym (guests_run_alone g.opening g.script g.ram n))
    (runs_are_guests rule_k g.script n (start rule_k g.opening g.ram) (starts_are_guests rule_k g.opening g.ram ok.ram ok.image))

guests_all : (steps : ℕ) (guests : List GuestAtStart) → All IsGuest guests → AreGuests (map (stopped steps) guests)
guests_all steps [] all = All-nil IsGuests
guests_all steps (g ∷ guests) all =
    All-cons IsGuests (stopped steps g).guest.machine (machines_of (map (stopped steps) guests)) (guest_one steps g (All-head IsGuest g guests all))
    (guests_all steps guests (All-tail IsGuest g guests all))

pub guests_so : (steps : ℕ) (guests : List GuestAtStart) (after : List Member) → All IsGuest guests → after ≡ map (stopped steps) guests
    → AreGuests after
guests_so steps guests after all is = subst AreGuests (sym is) (guests_all steps guests all)

-- ---- what is counted

-- Guests of which nothing was counted before: these tallies are of the steps that they have taken since.
pub carried_by : (before after : List Member) (tallies : List Tally) (hosted : Hosted) (native native_after : NativeState)
    → retired_by before ≡ 0 → exits_by before ≡ 0 → steps_by after ≡ steps_by before + sum_by steps_in tallies → tallies_of after ≡ tallies
    → AreCounted before after hosted.marks hosted.exceptions native native_after
    → AreCarriedOut (steps_hosted tallies hosted) native native_after
carried_by before after tallies hosted native native_after none stayed taken are counted =
    let sum : retired_by after ≡ sum_by (λ (t : Tally). t.retired) tallies =
    retired_sum after ∙ ap (λ ts. sum_by (λ (t : Tally). t.retired) ts) are in
    let left : exits_by after ≡ sum_by exits tallies = exits_sum after ∙ ap (λ ts. sum_by exits ts) are in
    let steps = counted.retired in
    let faults = counted.least in
    let most = counted.most in
    record {
      retired = omega (arith, steps, none, sum);
      trail = counted.trail;
      exceptions = counted.exceptions;
      least = omega (arith, faults, stayed, left);
      most = omega (arith, most, taken);
    }

tallied_all : (steps : ℕ) (guests : List GuestAtStart) → tallies_of (map (stopped steps) guests) ≡ tallies_by (all_cut_to steps guests)
tallied_all steps [] = refl
tallied_all steps (g ∷ guests) = ap (λ ts. tally_by (cut_to steps g) ∷ ts) (tallied_all steps guests)

taken_all : (steps : ℕ) (guests : List GuestAtStart)
    → steps_by (map (stopped steps) guests) ≡ sum_by steps_in (tallies_by (all_cut_to steps guests))
taken_all steps [] = refl
taken_all steps (g ∷ guests) =
    ap (λ (n : ℕ). n + steps_by (map (stopped steps) guests)) (sym (counts_are_steps g.opening g.script g.ram (min steps g.steps)))
    ∙ ap (λ (n : ℕ). steps_in (tally_by (cut_to steps g)) + n) (taken_all steps guests)
    ∙ sym (sum_by-cons steps_in (tally_by (cut_to steps g)) (tallies_by (all_cut_to steps guests)))

pub counted_so : (steps : ℕ) (guests : List GuestAtStart) (before after : List Member) (native native_after : NativeState)
    → before ≡ map member_at_start guests → after ≡ map (stopped steps) guests
    → AreCounted before after (after_order (turn_each 1 steps guests) before).marks (after_order (turn_each 1 steps guests) before).exceptions
    native native_after
    → AreCarriedOut (steps_hosted (tallies_by (all_cut_to steps guests)) (after_order (turn_each 1 steps guests) (map member_at_start guests)))
    native native_after
counted_so steps guests before after native native_after begun is counted =
    let still : steps_by before ≡ 0 = ap steps_by begun ∙ none_taken guests in
    let taken : steps_by after ≡ sum_by steps_in (tallies_by (all_cut_to steps guests)) = ap steps_by is ∙ taken_all steps guests in
    subst (λ ms. AreCarriedOut (steps_hosted (tallies_by (all_cut_to steps guests)) (after_order (turn_each 1 steps guests) ms)) native native_after) begun
    (carried_by before after (tallies_by (all_cut_to steps guests)) (after_order (turn_each 1 steps guests) before) native native_after
    (ap retired_by begun ∙ none_retired guests) (ap exits_by begun ∙ none_left guests) (omega (arith, still, taken))
    (ap tallies_of is ∙ tallied_all steps guests) counted)

-- ---- the text

-- what is written of the guest at a place
abbrev pub shown_as : List Kept → Entries → Seen → DeviceState → ShownGuest
shown_as kept script seen devices = record { kept = kept; script = script; seen = seen; disk = devices.disk }

shown_at : (members : List Member) (k : ℕ) (kept : List Kept) (script : Entries) (seen : Seen) (devices : DeviceState)
    → slice_get (kept_by members) k ≡ Some kept → slice_get (scripts_of members) k ≡ Some script → slice_get (seen_of_all members) k ≡ Some seen
    → slice_get (devices_of members) k ≡ Some devices
    → slice_get (shown_by members) k ≡ Some (record { kept = kept; script = script; seen = seen; disk = devices.disk })
shown_at [] k kept script seen devices keeps has shows is = absurd cc
shown_at (m ∷ members) zero kept script seen devices keeps has shows is =
    let a : list_of 0 m.guest.machine.world.kept ≡ kept = cc in
    let b : m.script ≡ script = cc in
    let c : seen_machine m.guest.machine ≡ seen = cc in
    let d : m.guest.machine.world.devices ≡ devices = cc in
    ap Some
    (ap (λ list. shown_as list m.script (seen_machine m.guest.machine) m.guest.machine.world.devices) a
    ∙ ap (λ entries. shown_as kept entries (seen_machine m.guest.machine) m.guest.machine.world.devices) b
    ∙ ap (λ what. shown_as kept script what m.guest.machine.world.devices) c
    ∙ ap (λ those. shown_as kept script seen those) d)
shown_at (m ∷ members) (suc k) kept script seen devices keeps has shows is = shown_at members k kept script seen devices keeps has shows is

-- what holds of it holds there
pub written_at : (members : List Member) (k : ℕ) (kept : List Kept) (script : Entries) (seen : Seen) (devices : DeviceState) (P : ShownGuest → Type 0)
    → slice_get (kept_by members) k ≡ Some kept → slice_get (scripts_of members) k ≡ Some script → slice_get (seen_of_all members) k ≡ Some seen
    → slice_get (devices_of members) k ≡ Some devices → P (shown_as kept script seen devices) → IfSome (slice_get (shown_by members) k) P
written_at members k kept script seen devices P keeps has shows is holds =
    subst (λ (here : Option ShownGuest). IfSome here P) (sym (shown_at members k kept script seen devices keeps has shows is)) holds

-- its lines
pub text_is : (number bytes : ℕ) (kept list : List Kept) (script : Entries) (seen : Seen) (devices : DeviceState) (disk : Option DiskState)
    → bytes ≡ length seen.ram → list ≡ kept → disk ≡ devices.disk
    → guest_text number (bytes / 1024) list script seen disk ≡ shown_text number (shown_as kept script seen devices)
text_is number bytes kept list script seen devices disk size same is =
    ap (λ n. guest_text number (n / 1024) list script seen disk) size
    ∙ ap (λ (l : List Kept). guest_text number (length seen.ram / 1024) l script seen disk) same
    ∙ ap (λ (d : Option DiskState). guest_text number (length seen.ram / 1024) kept script seen d) is

-- the texts of guests are those of each
pub texts_are : (number : ℕ) (guests : List ShownGuest) → texts_from shown_text number guests ≡ guests_text number guests
texts_are number [] = refl
texts_are number (g ∷ guests) = ap (λ text. shown_text number g ++ text) (texts_are (number + 1) guests)

-- there is one of each place
pub shown_there : (members : List Member) (k : ℕ) → k < length members
    → (shown : ShownGuest) × (slice_get (shown_by members) (k + 1 - 1) ≡ Some shown)
shown_there [] k less = absurd (omega (arith, less))
shown_there (m ∷ members) k less =
    let count : length (shown_by (m ∷ members)) ≡ length (m ∷ members) = length-map (m ∷ members) (λ (m : Member). shown_of m.script m.guest.machine) in
    let first = shown_of m.script m.guest.machine in (
      get_or (shown_by (m ∷ members)) (k + 1 - 1) first,
      slice_get-get_or (shown_by (m ∷ members)) (k + 1 - 1) first (omega (arith, less, count)),
    )

pub some_holds : {A : Type 0} (o : Option A) (x : A) (P : A → Type 0) → o ≡ Some x → IfSome o P → P x
some_holds None x P is holds = absurd cc
some_holds (Some y) x P is holds = let same : y ≡ x = cc in subst P same holds

-- a snapshot is its first lines, and then those of each guest
pub snapshot_is : (board slice count : ℕ) (members : List Member) → count ≡ length members
    → snapshot_text board slice (shown_by members) ≡ head_text board slice count ++ texts_from shown_text 1 (shown_by members)
snapshot_is board slice count members is =
    let many : length (shown_by members) ≡ count = length-map members (λ (m : Member). shown_of m.script m.guest.machine) ∙ sym is in
    ap (λ n. head_text board slice n ++ guests_text 1 (shown_by members)) many
    ∙ ap (λ text. head_text board slice count ++ text) (sym (texts_are 1 (shown_by members)))

-- RAM of the guest at a place is of whole KiB, and its size a number of 32 bits
pub whole_at : (members : List Member) (k : ℕ) (seen : Seen) → AreGuests members → slice_get (seen_of_all members) k ≡ Some seen
    → (length seen.ram % 1024 ≡ 0) × (length seen.ram < 2 ^ 32)
whole_at [] k seen all is = absurd cc
whole_at (m ∷ members) zero seen all is =
    let same : seen_machine m.guest.machine ≡ seen = cc in
    let ram = (All-head IsGuests m.guest.machine (machines_of members) all).ram in
    let most = ram.1 in
    let units = ram.2 in
    subst (λ (s : Seen). (length s.ram % 1024 ≡ 0) × (length s.ram < 2 ^ 32)) same (omega (arith, units), omega (arith, most))
whole_at (m ∷ members) (suc k) seen all is = whole_at members k seen (All-tail IsGuests m.guest.machine (machines_of members) all) is

-- ---- it is lawful

-- what is saved of the guest at a place
pub lawful_at : (members : List Member) (k : ℕ) (kept : List Kept) (seen : Seen) → AreGuests members → CanBeKept kept
    → slice_get (kept_by members) k ≡ Some kept → slice_get (seen_of_all members) k ≡ Some seen → IsLawful (saved_in kept seen)
lawful_at [] k kept seen all can keeps is = absurd cc
lawful_at (m ∷ members) zero kept seen all can keeps is =
    let same_kept : list_of 0 m.guest.machine.world.kept ≡ kept = cc in
    let same_seen : seen_machine m.guest.machine ≡ seen = cc in
    let lawful = guests_are_lawful m.guest.machine (All-head IsGuests m.guest.machine (machines_of members) all) (subst CanBeKept (sym same_kept) can) in
    subst (λ (s : Seen). IsLawful (saved_in kept s)) same_seen
    (subst (λ (list : List Kept). IsLawful (saved_in list (seen_machine m.guest.machine))) same_kept lawful)
lawful_at (m ∷ members) (suc k) kept seen all can keeps is =
    lawful_at members k kept seen (All-tail IsGuests m.guest.machine (machines_of members) all) can keeps is

-- one more guest can be told
pub told_more : (k : ℕ) (guests : List ShownGuest) (g : ShownGuest) → slice_get guests (k + 1 - 1) ≡ Some g → All CanBeTold (take k guests)
    → CanBeTold g → All CanBeTold (take (k + 1) guests)
told_more k guests g is before here =
    subst (λ (list : List ShownGuest). All CanBeTold list) (sym (take_one_more guests k g (at_place k guests g is)))
    (All-append CanBeTold (take k guests) (g ∷ []) before (All-cons CanBeTold g [] here (All-nil CanBeTold)))

-- all of them, where there are no more
pub told_all : (k : ℕ) (members : List Member) → length members ≤ k → All CanBeTold (take k (shown_by members)) → All CanBeTold (shown_by members)
told_all k members few all =
    let count : length (shown_by members) ≡ length members = length-map members (λ (m : Member). shown_of m.script m.guest.machine) in
    subst (λ (list : List ShownGuest). All CanBeTold list) (take_all k (shown_by members) (omega (arith, few, count))) all

-- what is written of a session
pub is_saved : (steps : ℕ) (s : SessionAtStart) (host : HostState) (native native_after : NativeState) → IsSession s → s.slice < 2 ^ 32
    → HaveStopped steps s native native_after host → All CanBeTold (shown_by (members_in host)) → IsSaved steps s
is_saved steps s host native native_after session few stopped told =
    let count : length (map shown_alone (all_cut_to steps s.guests)) ≡ length s.guests =
    length-map (all_cut_to steps s.guests) shown_alone ∙ length-map s.guests (cut_to steps) in
    let least = session.board.0 in
    let most = session.board.1 in
    let units = session.board.2 in
    let some = session.some in
    let seats = session.few in
    record {
      session = session;
      fits = stopped.fits;
      lawful = record {
        least = omega (arith, least);
        most = omega (arith, most);
        units = omega (arith, units);
        turns = session.slice;
        few = omega (arith, few);
        some = omega (arith, some, count);
        seats = omega (arith, seats, count);
        told = subst (λ (guests : List ShownGuest). All CanBeTold guests) stopped.shown told;
      };
    }
