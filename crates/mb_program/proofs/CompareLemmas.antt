-- What is found of guests beside each other is what is said of them.
use Rattle.std.proofs.Common.{◌≡◌, ◌∙◌, inl, inr, ℕ, zero, suc, ◌+◌, ◌-◌, ◌<◌, ◌≤◌, List, [], ◌∷◌, length, map, take, drop, refl, sym, ap, subst, arith}
use Rattle.std.proofs.Common.{Bool, true, false, cond, Some, length-drop}
use Rattle.std.proofs.lemmas.List.{drop-drop, length-map, take_all}
use Rattle.std.proofs.lemmas.List.Folds.{list_all_more}
use Rattle.std.proofs.lemmas.Option.{get_or_from_slice_get, slice_get_cases, slice_get_within}
use Rattle.std.specs.List.{list_all}
use Rattle.std.specs.Prelude.{◌&&◌, IfSome, slice_get}
use Rattle.mb_model.specs.Keeping.{rule_a, rule_k}
use Rattle.def_machine.specs.Machine.{Entries, Machine, run_of, start}
use Rattle.def_runs.specs.Native.{NativeState}
use Rattle.def_guests.specs.Rounds.{Member}
use Rattle.vm_guest.specs.Session.{GuestAtStart}
use Rattle.vm_slices.specs.Adopting.{scripts_of}
use Rattle.vm_slices.specs.Members.{machines_of, numbered}
use Rattle.vm_slices.specs.Places.{HostState, members_in}
use Rattle.mb_program.specs.Files.{Ordered}
use Rattle.mb_ends.specs.Texts.{texts_from}
use Rattle.mb_program.specs.Headline.{alone}
use Rattle.mb_program.specs.Direct.{CarriedOut}
use Rattle.mb_program.specs.Answers.{compare_shown, compared_text, if_it_fits, is_same, shows_same}
use Rattle.mb_program.specs.Around.{SinkSeen, Gains, GainsPart}
use Rattle.mb_program.specs.Compares.{Ahead, ahead_of, at_start, same_each, will_show_same}
use Rattle.mb_program.specs.Ends.{IsGiven}
use Rattle.mb_program.specs.Runs.{HaveRun}
use Rattle.mb_program.proofs.ShowLemmas.{fitting}
use Rattle.mb_program.specs.declared.bare_machine.BareMachine.{BareMachine}
use Rattle.mb_ends.specs.declared.end.End.TheVariants.{Done, Differs, Output}

-- what is found of all machines beside the guests of a host
abbrev found_of : List BareMachine → HostState → List Bool
found_of machines host = same_each (map ahead_of machines) (members_in host)

-- ---- how many there are

-- a machine for each guest
pub machine_for_each : (guests : List GuestAtStart) (machines : List BareMachine) → map ahead_of machines ≡ map at_start guests
    → length machines ≡ length guests
machine_for_each guests machines bare =
    sym (length-map machines ahead_of) ∙ ap (λ (ms : List Ahead). length ms) bare ∙ length-map guests at_start

-- and a member of the host
pub member_for_each : (guests : List GuestAtStart) (host : HostState) → machines_of (members_in host) ≡ map (alone rule_k) guests
    → length (members_in host) ≡ length guests
member_for_each guests host shown =
    let long : length (machines_of (members_in host)) ≡ length (members_in host) = length-map (members_in host) _ in
    sym long ∙ ap (λ (ms : List Machine). length ms) shown ∙ length-map guests (alone rule_k)

-- ---- one machine after the other

-- the first of what is left behind a place stands there
pub at_left : {X : Type 0} (xs : List X) (k : ℕ) (x : X) (rest : List X) → drop k xs ≡ x ∷ rest → slice_get xs k ≡ Some x
at_left [] zero x rest is = absurd (cc)
at_left [] (suc k) x rest is = absurd (cc)
at_left (y ∷ ys) zero x rest is = let same : y ≡ x = cc in ap (λ z. Some z) same
at_left (y ∷ ys) (suc k) x rest is = at_left ys k x rest is

pub left_within : {X : Type 0} (xs : List X) (k : ℕ) (x : X) (rest : List X) → drop k xs ≡ x ∷ rest → k < length xs
left_within xs k x rest is = slice_get_within xs k x (at_left xs k x rest is)

pub left_behind : {X : Type 0} (xs : List X) (k : ℕ) (x : X) (rest : List X) → drop k xs ≡ x ∷ rest → drop (k + 1) xs ≡ rest
left_behind xs k x rest is = sym (drop-drop 1 k xs) ∙ ap (λ ys. drop 1 ys) is

pub mapped_at : {X Y : Type 0} (f : X → Y) (xs : List X) (k : ℕ) (x : X) → slice_get xs k ≡ Some x → slice_get (map f xs) k ≡ Some (f x)
mapped_at f [] k x is = absurd (cc)
mapped_at f (y ∷ ys) zero x is = let same : y ≡ x = cc in ap (λ z. Some (f z)) same
mapped_at f (y ∷ ys) (suc k) x is = mapped_at f ys k x is

same_at : (aheads : List Ahead) (members : List Member) (k : ℕ) (x : Ahead) (m : Member) → slice_get aheads k ≡ Some x → slice_get members k ≡ Some m
    → slice_get (same_each aheads members) k ≡ Some (will_show_same x m)
same_at [] members k x m here there = absurd cc
same_at (p ∷ ps) [] k x m here there = absurd cc
same_at (p ∷ ps) (q ∷ qs) zero x m here there =
    let first : p ≡ x = cc in
    let second : q ≡ m = cc in
    ap (λ z. Some (will_show_same z q)) first ∙ ap (λ z. Some (will_show_same x z)) second
same_at (p ∷ ps) (q ∷ qs) (suc k) x m here there = same_at ps qs k x m here there

-- whether the machine at a place shows the same
found_at : (machines : List BareMachine) (members : List Member) (k : ℕ) (m : BareMachine) (same : Bool) → slice_get machines k ≡ Some m → k < length members
    → IfSome (slice_get members k) (λ y. same ≡ will_show_same (ahead_of m) y) → slice_get (same_each (map ahead_of machines) members) k ≡ Some same
found_at machines members k m same here within is = elim (slice_get_cases members k).1 [
  | inl there ↦ same_at (map ahead_of machines) members k (ahead_of m) there.0 (mapped_at ahead_of machines k m here) there.2
      ∙ ap (λ b. Some b) (sym (rw there.2 at is))
  | inr past ↦ absurd (omega (arith, past.0, within))
]

-- whether the next machine shows the same as the guest of its number
pub next_found : (machines : List BareMachine) (host : HostState) (k : ℕ) (m : BareMachine) (rest : List BareMachine) (same : Bool)
    → drop k machines ≡ m ∷ rest → length machines ≡ length (members_in host)
    → IfSome (numbered (k + 1) (members_in host)) (λ member. same ≡ will_show_same (ahead_of m) member)
    → numbered (k + 1) (same_each (map ahead_of machines) (members_in host)) ≡ Some same
next_found machines host k m rest same left count is =
    let members = members_in host in
    let number : k + 1 - 1 ≡ k = omega arith in
    let within = left_within machines k m rest left in
    ap (λ n. slice_get (found_of machines host) n) number
    ∙ found_at machines members k m same (at_left machines k m rest left) (omega arith)
    (subst (λ n. IfSome (slice_get members n) (λ y. same ≡ will_show_same (ahead_of m) y)) number is)

-- all are the same so far, and the next one
all_more : (found : List Bool) (k : ℕ) (same : Bool) → slice_get found (k + 1 - 1) ≡ Some same
    → list_all (λ (b : Bool). b) (take (k + 1) found) ≡ list_all (λ (b : Bool). b) (take k found) && same
all_more found k same is =
    let number : k ≡ k + 1 - 1 = omega arith in
    let here : slice_get found k ≡ Some same = ap (λ n. slice_get found n) number ∙ is in
    list_all_more (λ (b : Bool). b) found k same (slice_get_within found k same here)
    ∙ ap (λ b. list_all (λ (c : Bool). c) (take k found) && b) (get_or_from_slice_get found k same same here)

pub still_all : (found : List Bool) (k : ℕ) (so_far same : Bool) → slice_get found (k + 1 - 1) ≡ Some same → so_far ≡ list_all (λ (b : Bool). b) (take k found)
    → so_far && same ≡ list_all (λ (b : Bool). b) (take (k + 1) found)
still_all found k so_far same here all = ap (λ b. b && same) all ∙ sym (all_more found k same here)

-- no more are compared than there are machines
found_length : (aheads : List Ahead) (members : List Member) → length (same_each aheads members) ≤ length aheads
found_length [] members = omega arith
found_length (x ∷ xs) [] = omega arith
found_length (x ∷ xs) (y ∷ ys) = omega (arith, found_length xs ys)

pub all_found : (machines : List BareMachine) (host : HostState) (k : ℕ) (left : List BareMachine) → drop k machines ≡ left → length left ≡ 0
    → take k (same_each (map ahead_of machines) (members_in host)) ≡ same_each (map ahead_of machines) (members_in host)
all_found machines host k left is none =
    let count : length (drop k machines) ≡ 0 = ap (λ ms. length ms) is ∙ none in
    take_all k (found_of machines host)
    (omega (arith, found_length (map ahead_of machines) (members_in host), length-map machines ahead_of, length-drop k machines, count))

-- ---- what is found and what is said

one_compared : (guest : GuestAtStart) (member : Member) → member.guest.machine ≡ alone rule_k guest → member.script ≡ guest.script
    → will_show_same (at_start guest) member ≡ is_same guest
one_compared guest member machine script =
    ap (λ (s : Entries). shows_same (run_of rule_a s guest.steps (start rule_a guest.opening guest.ram)) member.guest.machine) script
    ∙ ap (λ (m : Machine). shows_same (alone rule_a guest) m) machine

all_compared : (guests : List GuestAtStart) (members : List Member) → machines_of members ≡ map (alone rule_k) guests
    → scripts_of members ≡ map (λ (g : GuestAtStart). g.script) guests → same_each (map at_start guests) members ≡ map is_same guests
all_compared [] members machines scripts = refl
all_compared (g ∷ guests) [] machines scripts = absurd cc
all_compared (g ∷ guests) (m ∷ members) machines scripts =
    let machine : m.guest.machine ≡ alone rule_k g = cc in
    let script : m.script ≡ g.script = cc in
    let others : machines_of members ≡ map (alone rule_k) guests = cc in
    let their : scripts_of members ≡ map (λ (h : GuestAtStart). h.script) guests = cc in
    ap (λ b. b ∷ same_each (map at_start guests) members) (one_compared g m machine script)
    ∙ ap (λ bs. is_same g ∷ bs) (all_compared guests members others their)

all_said : (guests : List GuestAtStart) → list_all (λ (same : Bool). same) (map is_same guests) ≡ list_all is_same guests
all_said [] = refl
all_said (g ∷ guests) = ap (λ rest. is_same g && rest) (all_said guests)

pub found_so : (s : Ordered) (machines : List BareMachine) (host : HostState) → map ahead_of machines ≡ map at_start s.session.guests
    → HaveRun s.session host → same_each (map ahead_of machines) (members_in host) ≡ map is_same s.session.guests
found_so s machines host bare runs =
    ap (λ xs. same_each xs (members_in host)) bare ∙ all_compared s.session.guests (members_in host) runs.machines runs.scripts

-- the status of what is shown
status_so : (guests : List GuestAtStart) (all : Bool) (found : List Bool) → found ≡ map is_same guests → all ≡ list_all (λ (same : Bool). same) found
    → ◌≡◌ {A = ℕ} (cond (list_all is_same guests) 0 1) (cond all 0 1)
status_so guests all found same is =
    ap (λ (b : Bool). let n : ℕ = cond b 0 1 in n) (sym (is ∙ ap (λ bs. list_all (λ (same : Bool). same) bs) same ∙ all_said guests))

pub compared_same : (s : Ordered) (host : HostState) (found : List Bool) (out out_after : SinkSeen) (native native_after : NativeState)
    → HaveRun s.session host → CarriedOut s native native_after → found ≡ map is_same s.session.guests
    → true ≡ list_all (λ (same : Bool). same) found → Gains out out_after (texts_from compared_text 1 found)
    → IsGiven (if_it_fits s.session (compare_shown s)) out out_after native native_after Done
compared_same s host found out out_after native native_after runs counted same all gained =
    fitting s.session (compare_shown s) out out_after native native_after Done runs.fits (record {
      gained = subst (λ (bs : List Bool). Gains out out_after (texts_from compared_text 1 bs)) same gained;
      status_is = status_so s.session.guests true found same all;
      lines_are = refl;
      counted = counted;
    })

pub compared_other : (s : Ordered) (host : HostState) (found : List Bool) (out out_after : SinkSeen) (native native_after : NativeState)
    → HaveRun s.session host → CarriedOut s native native_after → found ≡ map is_same s.session.guests
    → false ≡ list_all (λ (same : Bool). same) found → Gains out out_after (texts_from compared_text 1 found)
    → IsGiven (if_it_fits s.session (compare_shown s)) out out_after native native_after Differs
compared_other s host found out out_after native native_after runs counted same all gained =
    fitting s.session (compare_shown s) out out_after native native_after Differs runs.fits (record {
      gained = subst (λ (bs : List Bool). Gains out out_after (texts_from compared_text 1 bs)) same gained;
      status_is = status_so s.session.guests false found same all;
      lines_are = refl;
      counted = counted;
    })

pub compared_cut : (s : Ordered) (host : HostState) (found : List Bool) (out out_after : SinkSeen) (native native_after : NativeState)
    → HaveRun s.session host → found ≡ map is_same s.session.guests → GainsPart out out_after (texts_from compared_text 1 found)
    → IsGiven (if_it_fits s.session (compare_shown s)) out out_after native native_after Output
compared_cut s host found out out_after native native_after runs same part =
    fitting s.session (compare_shown s) out out_after native native_after Output runs.fits
    (subst (λ (bs : List Bool). GainsPart out out_after (texts_from compared_text 1 bs)) same part)
