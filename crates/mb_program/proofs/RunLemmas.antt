-- The guests of a session after their rounds are as after their own runs.
use Rattle.std.proofs.Common.{◌≡◌, ◌∙◌, ◌<◌, ℕ, zero, suc, ◌+◌, inl, inr, List, [], ◌∷◌, ◌++◌, map, refl, sym, ap, arith, Result, Ok, Err, sum_by}
use Rattle.std.specs.Prelude.{◌-◌}
use Rattle.std.proofs.lemmas.Bool.{cases_Bool}
use Rattle.std.proofs.lemmas.List.Sums.{sum_by-cons}
use Rattle.std.proofs.lemmas.Bool.Decides.{leb_tells}
use Rattle.mb_model.specs.Keeping.{rule_k}
use Rattle.def_machine.specs.Machine.{Machine, reset_with, run_of, start}
use Rattle.def_runs.specs.Marks.{trail}
use Rattle.def_runs.specs.Native.{NativeState}
use Rattle.def_guests.specs.Rounds.{Hosted, Member, all_done, left, left_of_all, members_after, round, rounds}
use Rattle.def_guests.specs.Turns.{Tally, exits, prepared, steps_in, turn_of}
use Rattle.def_guests.proofs.Counts.{counts_are_steps}
use Rattle.def_guests.proofs.ByRule.{guests_run_alone}
use Rattle.vm_guest.specs.Session.{GuestAtStart, SessionAtStart}
use Rattle.vm_slices.specs.Adopting.{scripts_of}
use Rattle.vm_slices.specs.Counting.{AreCounted, exits_by, retired_by, steps_by}
use Rattle.vm_slices.specs.Fit.{Fits, need_of}
use Rattle.vm_slices.specs.Places.{HostState}
use Rattle.vm_slices.proofs.Places.{counted_on}
use Rattle.mb_script.specs.declared.turn.Turn.{Turn}
use Rattle.vm_slices.specs.declared.open_fault.OpenFault.{OpenFault}
use Rattle.vm_slices.specs.declared.open_fault.OpenFault.TheVariants as open_fault
use Rattle.vm_slices.specs.Members.{after_rounds, machine_at_end, machines_of, member_at_start, tallies_of, tally_at_end}
use Rattle.vm_slices.specs.Orders.{after_order, each_given}
use Rattle.mb_program.specs.Files.{Ordered}
use Rattle.mb_program.specs.Headline.{alone}
use Rattle.mb_program.specs.Direct.{CarriedOut, hosted_by, tallies_by, tally_by}
use Rattle.mb_program.specs.Runs.{IsUnopened}

-- a guest has all its steps left at its start
pub all_left : (g : GuestAtStart) → left (member_at_start g) ≡ g.steps
unfolding reset_with
all_left g =
    let none : g.steps - 0 ≡ g.steps = omega arith in
    none

ended_so : (g : GuestAtStart) → machine_at_end (member_at_start g) ≡ alone rule_k g
ended_so g = ap (λ n. run_of rule_k g.script n (start rule_k g.opening g.ram)) (all_left g)

all_ended : (guests : List GuestAtStart) → map machine_at_end (map member_at_start guests) ≡ map (alone rule_k) guests
all_ended [] = refl
all_ended (g ∷ guests) =
    ap (λ m. m ∷ map machine_at_end (map member_at_start guests)) (ended_so g) ∙ ap (λ ms. alone rule_k g ∷ ms) (all_ended guests)

-- after the rounds that are promised of a host
pub machines_so : (guests : List GuestAtStart) (before after : List Member) → before ≡ map member_at_start guests
    → machines_of after ≡ map machine_at_end before → machines_of after ≡ map (alone rule_k) guests
machines_so guests before after begun ended = ended ∙ ap (λ ms. map machine_at_end ms) begun ∙ all_ended guests

-- ---- scripts stay

scripts_given : (turns : List Turn) (number : ℕ) (members : List Member) → scripts_of (each_given turns number members) ≡ scripts_of members
scripts_given turns number [] = refl
scripts_given turns number (m ∷ members) = ap (λ scripts. m.script ∷ scripts) (scripts_given turns (suc number) members)

scripts_after : (slice : ℕ) (members : List Member) → scripts_of (members_after slice members) ≡ scripts_of members
scripts_after slice [] = refl
scripts_after slice (m ∷ members) = ap (λ scripts. m.script ∷ scripts) (scripts_after slice members)

scripts_rounds : (slice n : ℕ) (h : Hosted) → scripts_of (rounds slice n h).members ≡ scripts_of h.members
unfolding rounds
scripts_rounds slice zero h = refl
scripts_rounds slice (suc n) h = elim (cases_Bool (all_done h.members)) [
  | inl done ↦ rw done refl
  | inr more ↦ rw more (scripts_rounds slice n (round slice h) ∙ scripts_after slice h.members)
]

scripts_begun : (guests : List GuestAtStart) → scripts_of (map member_at_start guests) ≡ map (λ (g : GuestAtStart). g.script) guests
scripts_begun [] = refl
scripts_begun (g ∷ guests) = ap (λ scripts. g.script ∷ scripts) (scripts_begun guests)

-- each guest has its own after turns and rounds
pub scripts_so : (guests : List GuestAtStart) (turns : List Turn) (slice : ℕ) (before turned after : List Member) → before ≡ map member_at_start guests
    → turned ≡ each_given turns 1 before → after ≡ (after_rounds slice turned).members
    → scripts_of after ≡ map (λ (g : GuestAtStart). g.script) guests
scripts_so guests turns slice before turned after begun given is =
    ap scripts_of is ∙ scripts_rounds slice (left_of_all turned) (record { members = turned; marks = []; exceptions = 0 }) ∙ ap scripts_of given
    ∙ scripts_given turns 1 before ∙ ap scripts_of begun ∙ scripts_begun guests

-- ---- what is counted

tally_so : (g : GuestAtStart) → tally_at_end (member_at_start g) ≡ tally_by g
tally_so g = ap (λ n. (turn_of g.script n (prepared g.opening g.ram)).tally) (all_left g)

all_tallied : (guests : List GuestAtStart) → map tally_at_end (map member_at_start guests) ≡ tallies_by guests
all_tallied [] = refl
all_tallied (g ∷ guests) =
    ap (λ t. t ∷ map tally_at_end (map member_at_start guests)) (tally_so g) ∙ ap (λ ts. tally_by g ∷ ts) (all_tallied guests)

-- after the rounds that are promised of a host
pub tallied_so : (guests : List GuestAtStart) (before after : List Member) → before ≡ map member_at_start guests
    → tallies_of after ≡ map tally_at_end before → tallies_of after ≡ tallies_by guests
tallied_so guests before after begun ended = ended ∙ ap (λ ms. map tally_at_end ms) begun ∙ all_tallied guests

pub none_retired : (guests : List GuestAtStart) → retired_by (map member_at_start guests) ≡ 0
none_retired [] = refl
none_retired (g ∷ guests) = omega (arith, none_retired guests)

pub none_left : (guests : List GuestAtStart) → exits_by (map member_at_start guests) ≡ 0
none_left [] = refl
none_left (g ∷ guests) = omega (arith, none_left guests)

pub retired_sum : (members : List Member) → retired_by members ≡ sum_by (λ (t : Tally). t.retired) (tallies_of members)
retired_sum [] = refl
retired_sum (m ∷ members) =
    ap (λ (n : ℕ). m.tally.retired + n) (retired_sum members) ∙ sym (sum_by-cons (λ (t : Tally). t.retired) m.tally (tallies_of members))

pub exits_sum : (members : List Member) → exits_by members ≡ sum_by exits (tallies_of members)
exits_sum [] = refl
exits_sum (m ∷ members) = ap (λ (n : ℕ). exits m.tally + n) (exits_sum members) ∙ sym (sum_by-cons exits m.tally (tallies_of members))

pub none_taken : (guests : List GuestAtStart) → steps_by (map member_at_start guests) ≡ 0
unfolding reset_with
none_taken [] = refl
none_taken (g ∷ guests) = omega (arith, none_taken guests)

pub steps_sum : (members : List Member) → steps_by members ≡ sum_by (λ (m : Machine). m.steps) (machines_of members)
steps_sum [] = refl
steps_sum (m ∷ members) =
    ap (λ (n : ℕ). m.guest.machine.steps + n) (steps_sum members)
    ∙ sym (sum_by-cons (λ (m : Machine). m.steps) m.guest.machine (machines_of members))

-- a guest's run has as many steps as are counted of it
run_counted : (g : GuestAtStart) → (machine_at_end (member_at_start g)).steps ≡ steps_in (tally_by g)
run_counted g =
    ap (λ n. (run_of rule_k g.script n (start rule_k g.opening g.ram)).steps) (all_left g)
    ∙ sym (ap (λ (m : Machine). m.steps) (guests_run_alone g.opening g.script g.ram g.steps))
    ∙ sym (counts_are_steps g.opening g.script g.ram g.steps)

runs_counted : (guests : List GuestAtStart)
    → sum_by (λ (m : Machine). m.steps) (map machine_at_end (map member_at_start guests)) ≡ sum_by steps_in (tallies_by guests)
runs_counted [] = refl
runs_counted (g ∷ guests) =
    sum_by-cons (λ (m : Machine). m.steps) (machine_at_end (member_at_start g)) (map machine_at_end (map member_at_start guests))
    ∙ ap (λ (n : ℕ). n + sum_by (λ (m : Machine). m.steps) (map machine_at_end (map member_at_start guests))) (run_counted g)
    ∙ ap (λ (n : ℕ). steps_in (tally_by g) + n) (runs_counted guests)
    ∙ sym (sum_by-cons steps_in (tally_by g) (tallies_by guests))

-- the turns that are named, and then the rounds
marked_so : (s : Ordered) (slice : ℕ) (before turned : List Member) → before ≡ map member_at_start s.session.guests → slice ≡ s.session.slice
    → turned ≡ (after_order s.order before).members → (after_order s.order before).marks ++ (after_rounds slice turned).marks ≡ (hosted_by s).marks
marked_so s slice before turned begun same is =
    ap (λ ms. (after_order s.order before).marks ++ (after_rounds slice ms).marks) is
    ∙ ap (λ (n : ℕ). (after_order s.order before).marks ++ (after_rounds n (after_order s.order before).members).marks) same
    ∙ ap (λ ms. (after_order s.order ms).marks ++ (after_rounds s.session.slice (after_order s.order ms).members).marks) begun

left_so : (s : Ordered) (slice : ℕ) (before turned : List Member) → before ≡ map member_at_start s.session.guests → slice ≡ s.session.slice
    → turned ≡ (after_order s.order before).members
    → (after_order s.order before).exceptions + (after_rounds slice turned).exceptions ≡ (hosted_by s).exceptions
left_so s slice before turned begun same is =
    ap (λ ms. (after_order s.order before).exceptions + (after_rounds slice ms).exceptions) is
    ∙ ap (λ (n : ℕ). (after_order s.order before).exceptions + (after_rounds n (after_order s.order before).members).exceptions) same
    ∙ ap (λ ms. (after_order s.order ms).exceptions + (after_rounds s.session.slice (after_order s.order ms).members).exceptions) begun

-- from the start of all guests to their end
pub carried_so : (s : Ordered) (slice : ℕ) (before turned after : List Member) (native native_turned native_after : NativeState)
    → before ≡ map member_at_start s.session.guests → slice ≡ s.session.slice → tallies_of after ≡ map tally_at_end before
    → machines_of after ≡ map machine_at_end before → turned ≡ (after_order s.order before).members → AreCounted before turned
    (after_order s.order before).marks (after_order s.order before).exceptions native native_turned
    → AreCounted turned after (after_rounds slice turned).marks (after_rounds slice turned).exceptions native_turned native_after
    → CarriedOut s native native_after
carried_so s slice before turned after native native_turned native_after begun same ended run is first counted =
    let guests = s.session.guests in
    let both = counted_on before turned after _ _ _ _ native native_turned native_after first counted in
    let tallies = tallied_so guests before after begun ended in
    let none : retired_by before ≡ 0 = ap (λ ms. retired_by ms) begun ∙ none_retired guests in
    let stayed : exits_by before ≡ 0 = ap (λ ms. exits_by ms) begun ∙ none_left guests in
    let sum : retired_by after ≡ sum_by (λ (t : Tally). t.retired) (tallies_by guests) =
    retired_sum after ∙ ap (λ ts. sum_by (λ (t : Tally). t.retired) ts) tallies in
    let left : exits_by after ≡ sum_by exits (tallies_by guests) = exits_sum after ∙ ap (λ ts. sum_by exits ts) tallies in
    let still : steps_by before ≡ 0 = ap (λ ms. steps_by ms) begun ∙ none_taken guests in
    let taken : steps_by after ≡ sum_by steps_in (tallies_by guests) =
    steps_sum after ∙ ap (λ ms. sum_by (λ (m : Machine). m.steps) ms) (run ∙ ap (λ ms. map machine_at_end ms) begun) ∙ runs_counted guests in
    let steps = both.retired in
    let faults = both.least in
    let most = both.most in
    record {
      retired = omega (arith, steps, none, sum);
      trail = both.trail ∙ ap (λ marks. trail native.trail marks) (marked_so s slice before turned begun same is);
      exceptions = both.exceptions ∙ ap (λ (n : ℕ). native.exceptions + n) (left_so s slice before turned begun same is);
      least = omega (arith, faults, stayed, left);
      most = omega (arith, most, still, taken);
    }

-- ---- what preparing a session tells of its size

-- there is a host only of a session that fits
pub fits_so : (s : SessionAtStart) (r : Result HostState OpenFault) (host : HostState) (fault : OpenFault) → r ≡ Ok host
    → (s.board < need_of s.guests → r ≡ Err fault) → Fits s
fits_so s r host fault ok big = elim (leb_tells (need_of s.guests) s.board) [ inl less ↦ less.1 | inr more ↦ absurd (cc (big more.1)) ]

pub not_prepared : {T : Type 0} (s : SessionAtStart) (fault : OpenFault) → (Fits s → fault ≡ open_fault.Memory)
    → (s.board < need_of s.guests → ◌≡◌ {A = Result T OpenFault} (Err fault) (Err (open_fault.Oversize (need_of s.guests) s.board)))
    → IsUnopened s fault
not_prepared s open_fault.Memory fits big = tt
not_prepared s (open_fault.Oversize need have) fits big = elim (leb_tells (need_of s.guests) s.board)
    [ inl less ↦ absurd (cc (fits less.1)) | inr more ↦ (more.1, cc (big more.1), cc (big more.1)) ]
