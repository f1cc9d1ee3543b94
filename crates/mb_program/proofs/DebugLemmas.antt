-- A guest alone on its board under the debugger.
use Rattle.std.proofs.Common.{◌≡◌, ◌∙◌, ◌<◌, ◌≤◌, ℕ, ◌+◌, inl, inr, List, [], ◌∷◌, ◌++◌, length, get_or, refl, sym, ap, subst, arith, sum_by, Option, Some, Result, Ok, Err}
use Rattle.std.specs.Prelude.{◌-◌}
use Rattle.std.specs.Option.{option_map_or}
use Rattle.std.proofs.lemmas.Bool.Decides.{leb_tells}
use Rattle.std.proofs.lemmas.List.Sums.{get_or-le-sum_by, sum_by-cons}
use Rattle.std.proofs.lemmas.Option.{get_or_from_slice_get, slice_get-get_or}
use Rattle.mb_model.specs.Keeping.{rule_k}
use Rattle.def_machine.specs.Machine.{Entries, Machine, diskless, reset_with, run_of, seen_machine, start}
use Rattle.mb_model.specs.Seen.{Seen}
use Rattle.mb_walk.specs.Memory.{Contents}
use Rattle.mb_walk.proofs.Parts.{length-part}
use Rattle.vm_disk.specs.Disk.{DiskState}
use Rattle.def_runs.specs.Marks.{trail}
use Rattle.def_runs.specs.Native.{NativeState}
use Rattle.def_guests.specs.declared.limits.TheConstants.{MONITOR_BYTES}
use Rattle.def_guests.specs.Seats.{Seat, machine_on, turned_on}
use Rattle.def_guests.specs.Seats.{end_of as seat_end}
use Rattle.def_guests.specs.Turns.{Tally, Turned, exits, prepared, steps_in, turn_of}
use Rattle.def_guests.proofs.Counts.{counts_are_steps, exceptions_are_bounded}
use Rattle.vm_guest.specs.Session.{GuestAtStart, SessionAtStart}
use Rattle.vm_guest.specs.Turns.{RisesByAtMost}
use Rattle.vm_slices.specs.Fit.{Fits, need_of, share_of}
use Rattle.vm_slices.specs.Members.{numbered, with_disk}
use Rattle.vm_slices.specs.declared.open_fault.OpenFault.{OpenFault}
use Rattle.vm_slices.proofs.Attached.{starts_with}
use Rattle.vm_debug.specs.declared.command.Command.{Command}
use Rattle.vm_debug.specs.Boards.{course_of, debugging_of, HasCome}
use Rattle.vm_debug.specs.Debugs.{Course, Debugging, course_from, debugged, printed}
use Rattle.vm_debug.proofs.Debugging.{courses_show}
use Rattle.mb_words.specs.Words.{Text}
use Rattle.mb_program.specs.Headline.{machine_text}
use Rattle.mb_program.specs.Direct.{AreCarriedOut, bounded, steps_alone, tally_by}
use Rattle.mb_program.specs.Answers.{Shown, plain, shows, if_it_fits}
use Rattle.mb_program.specs.Around.{SinkSeen, Gains, GainsPart}
use Rattle.mb_program.specs.Debugs.{at_outset, course_alone, debug_shown, debugged_shown, steps_debugged}
use Rattle.mb_program.specs.Ends.{IsGiven}
use Rattle.mb_program.specs.Lone.{end_of, scene_of, IsAtStart}
use Rattle.mb_program.specs.declared.debugged.LoneGuest.{LoneGuest}
use Rattle.mb_ends.specs.declared.end.End.TheVariants.{Done, Output}
use Rattle.mb_program.proofs.ShowLemmas.{fitting}

-- ---- its start

-- with the disk of its session
pub begins : (g h : Seat) (ram : List ℕ) (s : GuestAtStart) (image : Contents) (disk : Option DiskState) (size : ℕ)
    → turned_on g ram [] 0 ≡ prepared (diskless image) size → h ≡ with_disk disk g → image ≡ s.opening.image → disk ≡ s.opening.disk
    → size ≡ s.ram → turned_on h ram [] 0 ≡ prepared s.opening s.ram
begins g h ram s image disk size starts has image_is disk_is size_is =
    ap (λ (x : Seat). turned_on x ram [] 0) has
    ∙ starts_with g ram image disk size starts
    ∙ ap (λ (i : Contents). prepared (record { image = i; disk = disk }) size) image_is
    ∙ ap (λ (d : Option DiskState). prepared (record { image = s.opening.image; disk = d }) size) disk_is
    ∙ ap (λ (n : ℕ). prepared s.opening n) size_is

begins_machine : (s : GuestAtStart) (lone : LoneGuest) → IsAtStart s lone
    → (turned_on lone.guest lone.board.world.ram [] 0).guest.machine ≡ start rule_k s.opening s.ram
begins_machine s lone at = ap (λ (t : Turned). t.guest.machine) at.turned

pub begins_steps : (s : GuestAtStart) (lone : LoneGuest) → IsAtStart s lone → lone.guest.steps ≡ 0
unfolding reset_with
begins_steps s lone at = ap (λ (m : Machine). m.steps) (begins_machine s lone at)

-- its course is that of the guest alone
course_by : (s : GuestAtStart) (k : ℕ) → course_from s.script (start rule_k s.opening s.ram) k ≡ course_alone s k
unfolding reset_with
course_by s k =
    let all : k - 0 ≡ k = omega arith in
    ap (λ (n : ℕ). run_of rule_k s.script n (start rule_k s.opening s.ram)) all

course_so : (s : GuestAtStart) (lone : LoneGuest) (native : NativeState) → IsAtStart s lone → (k : ℕ)
    → course_of (scene_of lone native) k ≡ course_alone s k
course_so s lone native at k =
    ap (λ (m : Machine). course_from lone.guest.script m k) (begins_machine s lone at)
    ∙ ap (λ (script : Entries). course_from script (start rule_k s.opening s.ram) k) at.script
    ∙ course_by s k

outset_so : (s : GuestAtStart) (lone : LoneGuest) (native : NativeState) → IsAtStart s lone
    → debugging_of (scene_of lone native) [] ≡ at_outset
outset_so s lone native at = ap (λ (n : ℕ). record { steps = n; breaks = [] }) (begins_steps s lone at)

-- what it shows has no more bytes than a board can have
pub small_so : (seen : Seen) (g : Seat) (ram : List ℕ) → seen ≡ seen_machine (machine_on g ram) → seat_end g ≤ length ram
    → length ram ≤ 4294967296 → length seen.ram ≤ 4294967296
small_so seen g ram seen_is inside small =
    let size = ap (λ (s : Seen). length s.ram) seen_is in
    let own = length-part ram g.base g.size (omega (arith, inside)) in
    omega (arith, size, own, inside, small)

-- ---- what is shown

-- the lines of commands and the text of the machine that they end with, along a course
abbrev shown_by : (number : ℕ) → List Command → Course → (bound : ℕ) → Debugging → Text
shown_by number orders course bound d =
    printed course bound orders d ++ machine_text number (course (debugged course bound orders d).steps)

-- and from the start
abbrev begun_to : (number : ℕ) → List Command → LoneGuest → NativeState → Text
begun_to number orders lone native =
    let s = scene_of lone native in shown_by number orders (course_of s) lone.bound (debugging_of s [])

pub shown_so : (number : ℕ) (s : GuestAtStart) (lone : LoneGuest) (native : NativeState) (orders : List Command) → IsAtStart s lone
    → begun_to number orders lone native ≡ (debugged_shown number s orders).text
shown_so number s lone native orders at =
    let course = course_of (scene_of lone native) in
    let same = courses_show course (course_alone s) s.steps orders at_outset (omega arith) (λ k least most. course_so s lone native at k) in
    ap (λ (n : ℕ). shown_by number orders course n (debugging_of (scene_of lone native) [])) at.bound
    ∙ ap (λ (d : Debugging). shown_by number orders course s.steps d) (outset_so s lone native at)
    ∙ ap (λ (text : Text). text ++ machine_text number (course (debugged course s.steps orders at_outset).steps)) same.texts
    ∙ ap (λ (d : Debugging). printed (course_alone s) s.steps orders at_outset ++ machine_text number (course d.steps)) same.states
    ∙ ap (λ (m : Machine). printed (course_alone s) s.steps orders at_outset ++ machine_text number m)
    (course_so s lone native at (steps_debugged s orders))

end_so : (s : GuestAtStart) (lone : LoneGuest) (native : NativeState) (orders : List Command) → IsAtStart s lone
    → end_of (scene_of lone native) lone.bound orders ≡ steps_debugged s orders
end_so s lone native orders at =
    let course = course_of (scene_of lone native) in
    let same = courses_show course (course_alone s) s.steps orders at_outset (omega arith) (λ k least most. course_so s lone native at k) in
    ap (λ (n : ℕ). (debugged course n orders (debugging_of (scene_of lone native) [])).steps) at.bound
    ∙ ap (λ (d : Debugging). (debugged course s.steps orders d).steps) (outset_so s lone native at)
    ∙ ap (λ (d : Debugging). d.steps) same.states

-- ---- what is counted

-- the steps that it has taken are those of the guest alone
taken_so : (s : GuestAtStart) (lone t : LoneGuest) (native native_after : NativeState) (orders : List Command) (at : IsAtStart s lone)
    (come : HasCome (scene_of lone native) (end_of (scene_of lone native) lone.bound orders) (scene_of t native_after))
    → turned_on t.guest t.board.world.ram come.marks come.left_times ≡ turn_of s.script (steps_debugged s orders) (prepared s.opening s.ram)
taken_so s lone t native native_after orders at come =
    let end = end_of (scene_of lone native) lone.bound orders in
    let same = end_so s lone native orders at in
    let none = begins_steps s lone at in
    let all : end - lone.guest.steps ≡ steps_debugged s orders = omega (arith, same, none) in
    come.turned
    ∙ ap (λ (script : Entries). turn_of script (end - lone.guest.steps) (turned_on lone.guest lone.board.world.ram [] 0)) at.script
    ∙ ap (λ (n : ℕ). turn_of s.script n (turned_on lone.guest lone.board.world.ram [] 0)) all
    ∙ ap (λ (x : Turned). turn_of s.script (steps_debugged s orders) x) at.turned

single : (f : Tally → ℕ) (t : Tally) → sum_by f (t ∷ []) ≡ f t
single f t = let first = sum_by-cons f t [] in omega (arith, first)

pub counted_so : (s : GuestAtStart) (lone t : LoneGuest) (native native_after : NativeState) (orders : List Command) → IsAtStart s lone
    → HasCome (scene_of lone native) (end_of (scene_of lone native) lone.bound orders) (scene_of t native_after)
    → RisesByAtMost lone.guest.steps t.guest.steps native native_after
    → AreCarriedOut (steps_alone (bounded s (steps_debugged s orders))) native native_after
counted_so s lone t native native_after orders at come rises =
    let last = bounded s (steps_debugged s orders) in
    let taken = taken_so s lone t native native_after orders at come in
    let tally : t.guest.tally ≡ tally_by last = ap (λ (x : Turned). x.tally) taken in
    let none = begins_steps s lone at in
    let no_retired : lone.guest.tally.retired ≡ 0 = ap (λ (x : Turned). x.tally.retired) at.turned in
    let steps : t.guest.steps ≡ steps_in (tally_by last) =
    ap (λ (x : Turned). x.guest.machine.steps) taken ∙ sym (counts_are_steps s.opening s.script s.ram (steps_debugged s orders)) in
    let retired_is = ap (λ (x : Tally). x.retired) tally in
    let retired_sum = single (λ (x : Tally). x.retired) (tally_by last) in
    let exits_sum = single exits (tally_by last) in
    let steps_sum = single steps_in (tally_by last) in
    let retired = come.retired in
    let left : native_after.exceptions ≡ native.exceptions + (turn_of s.script (steps_debugged s orders) (prepared s.opening s.ram)).exceptions =
    come.exceptions ∙ ap (λ (x : Turned). native.exceptions + x.exceptions) taken in
    let least = (exceptions_are_bounded s.script (steps_debugged s orders) (prepared s.opening s.ram)).least in
    let most = rises.1 in
    record {
      retired = omega (arith, retired, no_retired, retired_is, retired_sum);
      trail = come.trail ∙ ap (λ (x : Turned). trail native.trail x.marks) taken;
      exceptions = left;
      least = omega (arith, left, least, exits_sum);
      most = omega (arith, most, none, steps, steps_sum);
    }

-- ---- the guest of a number

pub numbered_there : (number : ℕ) (guests : List GuestAtStart) → 1 ≤ number → number ≤ length guests
    → (guest : GuestAtStart) × (numbered number guests ≡ Some guest)
numbered_there number [] some there = absurd (omega (arith, some, there))
numbered_there number (g ∷ guests) some there =
    (get_or (g ∷ guests) (number - 1) g, slice_get-get_or (g ∷ guests) (number - 1) g (omega (arith, some, there)))

-- the one that is taken out of all
pub taken_out : (number : ℕ) (guests : List GuestAtStart) (taken guest : GuestAtStart) → taken ≡ get_or guests (number - 1) taken
    → numbered number guests ≡ Some guest → taken ≡ guest
taken_out number guests taken guest is there = is ∙ get_or_from_slice_get guests (number - 1) guest taken there

-- It has room on a board that all guests fit on.
pub has_room : (s : SessionAtStart) (number : ℕ) (taken : GuestAtStart) → Fits s → 1 ≤ number → number ≤ length s.guests
    → taken ≡ get_or s.guests (number - 1) taken → MONITOR_BYTES + share_of taken ≤ s.board
has_room s number taken fits some there is =
    let one = get_or-le-sum_by share_of s.guests (number - 1) taken (omega (arith, some, there)) in
    let same : share_of taken ≡ share_of (get_or s.guests (number - 1) taken) = ap (λ (g : GuestAtStart). share_of g) is in
    omega (arith, fits, one, same)

pub fits_by : {T : Type 0} (s : SessionAtStart) (done : T) (fault : OpenFault)
    → (s.board < need_of s.guests → ◌≡◌ {A = Result T OpenFault} (Ok done) (Err fault)) → Fits s
fits_by s done fault big = elim (leb_tells (need_of s.guests) s.board) [ inl less ↦ less.1 | inr more ↦ absurd (cc (big more.1)) ]

-- ---- the answer

pub chosen : (number : ℕ) (guests : List GuestAtStart) (guest : GuestAtStart) (orders : List Command) → numbered number guests ≡ Some guest
    → debugged_shown number guest orders ≡ debug_shown number guests orders
chosen number guests guest orders is =
    ap (λ (o : Option GuestAtStart). option_map_or (λ (g : GuestAtStart). debugged_shown number g orders) o (plain [])) (sym is)

-- the guest of a session at its start
abbrev Begins : (number : ℕ) → List GuestAtStart → LoneGuest → Type 0
Begins number guests lone = (guest : GuestAtStart) → numbered number guests ≡ Some guest → IsAtStart guest lone

pub debugged_done : (number : ℕ) (s : SessionAtStart) (orders : List Command) (lone t : LoneGuest) (out out_after : SinkSeen)
    (native native_after : NativeState) → Fits s → 1 ≤ number → number ≤ length s.guests → Begins number s.guests lone
    → Gains out out_after (begun_to number orders lone native)
    → HasCome (scene_of lone native) (end_of (scene_of lone native) lone.bound orders) (scene_of t native_after)
    → RisesByAtMost lone.guest.steps t.guest.steps native native_after
    → IsGiven (if_it_fits s (debug_shown number s.guests orders)) out out_after native native_after Done
debugged_done number s orders lone t out out_after native native_after fits some there begun gained come rises =
    let (guest, is) = numbered_there number s.guests some there in
    let at = begun guest is in
    fitting s (debug_shown number s.guests orders) out out_after native native_after Done fits
    (subst (λ (shown : Shown). IsGiven (shows shown) out out_after native native_after Done) (chosen number s.guests guest orders is) (record {
      gained = subst (λ (text : Text). Gains out out_after text) (shown_so number guest lone native orders at) gained;
      status_is = refl;
      lines_are = refl;
      counted = counted_so guest lone t native native_after orders at come rises;
    }))

pub debugged_cut : (number : ℕ) (s : SessionAtStart) (orders : List Command) (lone : LoneGuest) (out out_after : SinkSeen)
    (native native_after : NativeState) → Fits s → 1 ≤ number → number ≤ length s.guests → Begins number s.guests lone
    → GainsPart out out_after (begun_to number orders lone native)
    → IsGiven (if_it_fits s (debug_shown number s.guests orders)) out out_after native native_after Output
debugged_cut number s orders lone out out_after native native_after fits some there begun part =
    let (guest, is) = numbered_there number s.guests some there in
    let at = begun guest is in
    fitting s (debug_shown number s.guests orders) out out_after native native_after Output fits
    (subst (λ (shown : Shown). IsGiven (shows shown) out out_after native native_after Output) (chosen number s.guests guest orders is)
    (subst (λ (text : Text). GainsPart out out_after text) (shown_so number guest lone native orders at) part))
