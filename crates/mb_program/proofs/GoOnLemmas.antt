-- Guests that were saved and go on come to where each comes alone that is not stopped.
use Rattle.std.proofs.Common.{◌≡◌, ◌∙◌, ℕ, ◌+◌, List, [], ◌∷◌, ◌++◌, length, map, refl, sym, ap, subst, arith, Option, Some, Ok, Result, sum_by}
use Rattle.std.specs.Prelude.{◌/◌, All, option_and_then}
use Rattle.std.specs.Option.{option_map_or}
use Rattle.std.proofs.lemmas.Bool.{le-ltb}
use Rattle.std.proofs.lemmas.List.Elements.{All-cons, All-head, All-nil, All-tail}
use Rattle.std.proofs.lemmas.List.Sums.{sum_by-cons}
use Rattle.mb_model.specs.Keeping.{rule_k}
use Rattle.def_machine.specs.Machine.{reset_with, seen_machine, start}
use Rattle.def_machine.proofs.Beneath.{runs_leave_the_size}
use Rattle.def_guests.specs.Rounds.{Member}
use Rattle.def_guests.specs.Turns.{Tally}
use Rattle.mb_report.specs.Text.{outcome_text}
use Rattle.vm_disk.specs.Disk.{DiskState}
use Rattle.vm_disk.specs.Text.{disk_text}
use Rattle.vm_saved.specs.Resumes.{AddsUp, resumed}
use Rattle.vm_saved.proofs.Resuming.{started_runs_go_on}
use Rattle.vm_saved.proofs.Saving.{starts_can_be_saved}
use Rattle.vm_guest.specs.Session.{GuestAtStart, IsGuest, SessionAtStart}
use Rattle.vm_slices.specs.Fit.{Fits, share_of}
use Rattle.vm_slices.specs.Members.{after_rounds, machine_at_end, tally_at_end}
use Rattle.vm_snapshot.specs.Plans.{IsRead, Plan}
use Rattle.vm_snapshot.specs.Shown.{CanBeTold, plan_told, told}
use Rattle.vm_snapshot.specs.declared.plan.SnapGuest.{SnapGuest}
use Rattle.vm_snapshot.proofs.ShownTexts.{guests_are_told}
use Rattle.mb_words.specs.Words.{Text}
use Rattle.mb_files.specs.Reading.{Told, end_of, file, held}
use Rattle.mb_files.specs.Snapshots.{snapshots}
use Rattle.mb_files.specs.declared.fault.FileWhy.{FileWhy}
use Rattle.mb_files.specs.declared.files.TheConstants.{MOST_SNAPSHOT_BYTES}
use Rattle.mb_files.proofs.SnapshotLemmas.{said_is_known}
use Rattle.mb_program.specs.Headline.{alone, machine_text}
use Rattle.mb_ends.specs.Texts.{texts_from}
use Rattle.mb_program.specs.Direct.{steps_hosted}
use Rattle.mb_ends.specs.Lines.{counts_line}
use Rattle.mb_program.specs.Shown.{Shown}
use Rattle.mb_program.specs.Saves.{IsSavedText, all_cut_to, cut_to, gone_on_shown, longer, resume_shown, resumed_guest, seat_of, session_of, shown_alone, tally_since}

-- ---- the guests of the text

-- what the text says of a guest, and the guest that goes on from it
abbrev told_alone : GuestAtStart → SnapGuest
told_alone g = told (shown_alone g)

abbrev plan_of_all : SessionAtStart → List GuestAtStart → Plan
plan_of_all s guests = plan_told (s.board / 1024) s.slice (map shown_alone guests)

abbrev from_there : (more : ℕ) → GuestAtStart → Member
from_there more g = resumed g.script more (alone rule_k g)

-- ---- each adds up

adds_up : (more : ℕ) (g : GuestAtStart) → IsGuest g → CanBeTold (shown_alone g) → AddsUp g.script g.steps more (start rule_k g.opening g.ram)
adds_up more g ok can =
    let units = ok.ram.2 in
    let few = can.widths.steps in
    started_runs_go_on g.opening g.ram g.script g.steps more (omega (arith, units)) ok.image (omega (arith, few))

text_one : (more number : ℕ) (g : GuestAtStart) → AddsUp g.script g.steps more (start rule_k g.opening g.ram)
    → machine_text number (machine_at_end (from_there more g)) ≡ machine_text number (alone rule_k (longer more g))
text_one more number g adds =
    let after = machine_at_end (from_there more g) in
    ap (λ text. text ++ option_map_or (disk_text number) after.world.devices.disk []) (adds.text number)
    ∙ ap (λ (d : Option DiskState). outcome_text number (seen_machine (alone rule_k (longer more g))) ++ option_map_or (disk_text number) d []) adds.disk

texts_all : (more number : ℕ) (guests : List GuestAtStart) → All IsGuest guests → All CanBeTold (map shown_alone guests)
    → texts_from machine_text number (map machine_at_end (map (from_there more) guests))
    ≡ texts_from machine_text number (map (alone rule_k) (map (longer more) guests))
texts_all more number [] ok can = refl
texts_all more number (g ∷ guests) ok can =
    let adds = adds_up more g (All-head IsGuest g guests ok) (All-head CanBeTold (shown_alone g) (map shown_alone guests) can) in
    ap (λ text. text ++ texts_from machine_text (number + 1) (map machine_at_end (map (from_there more) guests))) (text_one more number g adds)
    ∙ ap (λ text. machine_text number (alone rule_k (longer more g)) ++ text)
    (texts_all more (number + 1) guests (All-tail IsGuest g guests ok) (All-tail CanBeTold (shown_alone g) (map shown_alone guests) can))

tallies_all : (more : ℕ) (guests : List GuestAtStart) → All IsGuest guests → All CanBeTold (map shown_alone guests)
    → map tally_at_end (map (from_there more) guests) ≡ map (tally_since more) guests
tallies_all more [] ok can = refl
tallies_all more (g ∷ guests) ok can =
    let adds = adds_up more g (All-head IsGuest g guests ok) (All-head CanBeTold (shown_alone g) (map shown_alone guests) can) in
    ap (λ t. t ∷ map tally_at_end (map (from_there more) guests)) adds.tally
    ∙ ap (λ ts. tally_since more g ∷ ts)
    (tallies_all more guests (All-tail IsGuest g guests ok) (All-tail CanBeTold (shown_alone g) (map shown_alone guests) can))

-- ---- the guests are those that the text tells of

member_one : (more : ℕ) (g : GuestAtStart) → resumed_guest more (told_alone g) ≡ from_there more g
member_one more g = refl

members_all : (more : ℕ) (guests : List GuestAtStart)
    → map (resumed_guest more) (map told (map shown_alone guests)) ≡ map (from_there more) guests
members_all more [] = refl
members_all more (g ∷ guests) =
    ap (λ m. m ∷ map (resumed_guest more) (map told (map shown_alone guests))) (member_one more g)
    ∙ ap (λ ms. from_there more g ∷ ms) (members_all more guests)

abbrev shows : (text : Text) → List Tally → (slice : ℕ) → List Member → Shown
shows text tallies slice members = record {
  text = text;
  lines = texts_from counts_line 1 tallies;
  status = 0;
  steps = Some (steps_hosted tallies (after_rounds slice members));
}

same_shown : (more : ℕ) (s : SessionAtStart) (guests : List GuestAtStart) → All IsGuest guests → All CanBeTold (map shown_alone guests)
    → resume_shown more (plan_of_all s guests) ≡ gone_on_shown more s.slice guests
same_shown more s guests ok can =
    ap (λ ms. shows (texts_from machine_text 1 (map machine_at_end ms)) (map tally_at_end ms) s.slice ms) (members_all more guests)
    ∙ ap (λ text. shows text (map tally_at_end (map (from_there more) guests)) s.slice (map (from_there more) guests)) (texts_all more 1 guests ok can)
    ∙ ap (λ tallies. shows (texts_from machine_text 1 (map (alone rule_k) (map (longer more) guests))) tallies s.slice (map (from_there more) guests))
    (tallies_all more guests ok can)

-- ---- they fit as the session did

start_size : (g : GuestAtStart) → IsGuest g → length (start rule_k g.opening g.ram).world.ram ≡ g.ram
unfolding reset_with
start_size g ok =
    let units = ok.ram.2 in
    sym (starts_can_be_saved g.opening g.ram (omega (arith, units)) ok.image).shown

alone_size : (g : GuestAtStart) → IsGuest g → length (alone rule_k g).world.ram ≡ g.ram
alone_size g ok = runs_leave_the_size rule_k g.script g.steps (start rule_k g.opening g.ram) ∙ start_size g ok

share_all : (more steps : ℕ) (guests : List GuestAtStart) → All IsGuest (all_cut_to steps guests)
    → sum_by share_of (map (seat_of more) (map told (map shown_alone (all_cut_to steps guests)))) ≡ sum_by share_of guests
share_all more steps [] ok = refl
share_all more steps (g ∷ guests) ok =
    let cut = cut_to steps g in
    let size = alone_size cut (All-head IsGuest cut (all_cut_to steps guests) ok) in
    let one = sum_by-cons share_of (seat_of more (told_alone cut)) (map (seat_of more) (map told (map shown_alone (all_cut_to steps guests)))) in
    let other = sum_by-cons share_of g guests in
    let rest = share_all more steps guests (All-tail IsGuest cut (all_cut_to steps guests) ok) in
    omega (arith, size, one, other, rest)

cut_ok : (steps : ℕ) (guests : List GuestAtStart) → All IsGuest guests → All IsGuest (all_cut_to steps guests)
cut_ok steps [] ok = All-nil IsGuest
cut_ok steps (g ∷ guests) ok =
    let here = All-head IsGuest g guests ok in
    All-cons IsGuest (cut_to steps g) (all_cut_to steps guests) (record { ram = here.ram; image = here.image })
    (cut_ok steps guests (All-tail IsGuest g guests ok))

fits_on : (more steps : ℕ) (s : SessionAtStart) (text : Text) → IsSavedText steps s text
    → Fits (session_of more (plan_of_all s (all_cut_to steps s.guests)))
fits_on more steps s text saved =
    let shares = share_all more steps s.guests (cut_ok steps s.guests saved.saved.session.guests) in
    let fits = saved.saved.fits in
    let units = saved.saved.session.board.2 in
    omega (arith, shares, fits, units)

-- ---- what the text comes to

file_told : (told_by : Told) (name : Text) (text : Text) (plan : Plan) → told_by name ≡ Some text → snapshots text ≡ Ok plan
    → end_of told_by (file snapshots name) ≡ Some (Ok plan)
file_told told_by name text plan is holds =
    ap (λ (o : Option Text). option_and_then (λ bytes. end_of told_by (held name (snapshots bytes))) o) is
    ∙ ap (λ (h : Result Plan FileWhy). end_of told_by (held name h)) holds

text_is : (steps : ℕ) (s : SessionAtStart) (text : Text) → IsSavedText steps s text
    → snapshots text ≡ Ok (plan_of_all s (all_cut_to steps s.guests))
text_is steps s text saved =
    let plan = plan_of_all s (all_cut_to steps s.guests) in
    let read : IsRead text plan =
    subst (λ t. IsRead t plan) (sym saved.written)
    (guests_are_told (s.board / 1024) s.slice (map shown_alone (all_cut_to steps s.guests)) saved.saved.lawful) in
    rw (le-ltb MOST_SNAPSHOT_BYTES (length text) saved.few) (said_is_known text plan read)

-- What comes of a snapshot that was written of a session: its plan, which fits, and what is shown of it.
pub record GoesOn (told_by : Told) (name : Text) (more : ℕ) (shown : Shown) : Type 0 where
  pub plan : Plan
  pub gets : end_of told_by (file snapshots name) ≡ Some (Ok plan)
  pub fits : Fits (session_of more plan)
  pub shows : resume_shown more plan ≡ shown

pub goes_on : (told_by : Told) (name text : Text) (more steps : ℕ) (s : SessionAtStart) → told_by name ≡ Some text → IsSavedText steps s text
    → GoesOn told_by name more (gone_on_shown more s.slice (all_cut_to steps s.guests))
goes_on told_by name text more steps s is saved =
    let guests = all_cut_to steps s.guests in
    record {
      plan = plan_of_all s guests;
      gets = file_told told_by name text (plan_of_all s guests) is (text_is steps s text saved);
      fits = fits_on more steps s text saved;
      shows = same_shown more s guests (cut_ok steps s.guests saved.saved.session.guests) saved.saved.lawful.told;
    }
