-- What is promised of a run follows from its end.
use Rattle.std.proofs.Common.{◌≡◌, ◌∙◌, ℕ, ◌*◌, List, refl, sym, ap, subst, Option, Some, None, Ok, Result, Err, inl, inr}
use Rattle.std.specs.Prelude.{IfSome, replicate, slice_index_or}
use Rattle.mb_outside.specs.Prints.{Prints}
use Rattle.mb_model.specs.Keeping.{rule_k}
use Rattle.mb_walk.specs.Memory.{with_contents}
use Rattle.def_machine.specs.Machine.{opening_devices}
use Rattle.def_runs.proofs.Runs.{run-from_reset}
use Rattle.vm_guest.specs.Session.{GuestAtStart, SessionAtStart}
use Rattle.vm_slices.specs.Fit.{Fits}
use Rattle.vm_slices.specs.Members.{numbered}
use Rattle.vm_debug.specs.declared.command.Command.{Command}
use Rattle.mb_words.specs.Words.{Asked, Debugged, Resumption, SavePoint, Text, bare, assembly, disassembly, hosting, comparison, generation, debugging, resuming, saving, asked_by}
use Rattle.mb_files.specs.Reading.{Told, Reading, gives, ◌>>=◌, end_of, file, images}
use Rattle.mb_files.specs.Sources.{sources}
use Rattle.mb_files.specs.Snapshots.{snapshots}
use Rattle.vm_snapshot.specs.Plans.{Plan}
use Rattle.mb_program.specs.Files.{Ordered, machine_files, session_files}
use Rattle.mb_program.specs.Debugs.{debug_shown, debugged_files, debugged_shown}
use Rattle.mb_program.specs.Saves.{IsSavedText, all_cut_to, gone_on_shown, resume_shown, save_shown, session_of}
use Rattle.mb_program.specs.Headline.{Headline, IsFree, alone}
use Rattle.mb_program.specs.Answers.{Answer, Shown, shows, oversizes, answer_to, if_it_fits}
use Rattle.mb_program.specs.Answers.{bare_shown, asm_shown, dis_shown, host_shown, compare_shown, gen_shown}
use Rattle.mb_program.specs.Around.{Around, Diag, IsPut}
use Rattle.mb_program.specs.Causes.{Causes, Gets, Gives, HasSaved, HostsNothing, IsUnfailing, LeadsUnfailingTo}
use Rattle.mb_program.specs.Ends.{Ends}
use Rattle.mb_ends.specs.Lines.{line_of, status_of}
use Rattle.mb_files.specs.declared.fault.FileWhy.{FileWhy}
use Rattle.mb_ends.specs.declared.end.End.{End}
use Rattle.mb_files.proofs.ReadingLemmas.{end_then}
use Rattle.mb_program.proofs.ShowLemmas.{it_fits}
use Rattle.mb_program.proofs.DebugLemmas.{chosen}
use Rattle.mb_program.proofs.GoOnLemmas.{goes_on}
use Rattle.mb_program.proofs.EndLemmas.{cut_so, differs_so, done_so, gives_so, memory_line, oversize_always, oversize_so, refused_always, refused_so, stands, status_known, unread_never, unread_so, words_always, words_line, words_so}
use Rattle.mb_program.proofs.TidyLemmas.{tidy_so}

-- what was put on diag is its line
pub put_so : {T E : Type 0} (r : Result T E) (diag : Diag) (line : Text)
    → Prints diag.before.taken diag.after.taken diag.before.faults diag.after.faults line r → IsPut diag line
put_so (Ok t) diag line p = inl p
put_so (Err e) diag line p = inr p

-- what is shown by what files hold that are told
known_shown : {A : Type 0} (a : Around) (r : Reading A) (f : A → Answer) (x : A) (shown : Shown) → Gets a r x → f x ≡ shows shown
    → Gets a (r >>= λ held. gives (f held)) (shows shown)
known_shown a r f x shown gets is =
    end_then a.shelf.told r (λ held. gives (f held)) x gets ∙ ap (λ (answer : Answer). Some (Ok answer)) is

-- what is promised of an answer that is known, whatever the command
abbrev GivenSo : Option Asked → Around → Diag → ℕ → Type 0
GivenSo asked a diag status = (command : Asked) (shown : Shown) → asked ≡ Some command → Gets a (answer_to command) (shows shown)
    → Gives a diag shown status

hosted_so : (asked : Option Asked) (a : Around) (diag : Diag) (status : ℕ) → GivenSo asked a diag status → (name : Text) (s : Ordered)
    → asked ≡ Some (hosting name) → Gets a (session_files name) s → Fits s.session → Gives a diag (host_shown s) status
hosted_so asked a diag status given name s is gets fits = given (hosting name) (host_shown s) is
    (known_shown a (session_files name) (λ (r : Ordered). if_it_fits r.session (host_shown r)) s (host_shown s) gets
    (it_fits s.session (host_shown s) fits))

compared_so : (asked : Option Asked) (a : Around) (diag : Diag) (status : ℕ) → GivenSo asked a diag status → (name : Text) (s : Ordered)
    → asked ≡ Some (comparison name) → Gets a (session_files name) s → Fits s.session → Gives a diag (compare_shown s) status
compared_so asked a diag status given name s is gets fits = given (comparison name) (compare_shown s) is
    (known_shown a (session_files name) (λ (r : Ordered). if_it_fits r.session (compare_shown r)) s (compare_shown s) gets
    (it_fits s.session (compare_shown s) fits))

debugged_so : (asked : Option Asked) (a : Around) (diag : Diag) (status : ℕ) → GivenSo asked a diag status → (d : Debugged)
    (session : SessionAtStart) (orders : List Command) (guest : GuestAtStart) → asked ≡ Some (debugging d)
    → Gets a (debugged_files d) (session, orders) → numbered d.guest session.guests ≡ Some guest → Fits session
    → Gives a diag (debugged_shown d.guest guest orders) status
debugged_so asked a diag status given d session orders guest is gets there fits =
    given (debugging d) (debugged_shown d.guest guest orders) is
    (known_shown a (debugged_files d) (λ (s, list). if_it_fits s (debug_shown d.guest s.guests list)) (session, orders)
    (debugged_shown d.guest guest orders) gets
    (it_fits session (debug_shown d.guest session.guests orders) fits
    ∙ ap (λ (shown : Shown). shows shown) (sym (chosen d.guest session.guests guest orders there))))

saved_so : (asked : Option Asked) (a : Around) (diag : Diag) (status : ℕ) → GivenSo asked a diag status → (p : SavePoint) (s : Ordered)
    → asked ≡ Some (saving p) → Gets a (session_files p.session) s → Fits s.session → Gives a diag (save_shown p.steps s.session) status
saved_so asked a diag status given p s is gets fits = given (saving p) (save_shown p.steps s.session) is
    (known_shown a (session_files p.session) (λ (r : Ordered). if_it_fits r.session (save_shown p.steps r.session)) s (save_shown p.steps s.session) gets
    (it_fits s.session (save_shown p.steps s.session) fits))

resumed_so : (asked : Option Asked) (a : Around) (diag : Diag) (status : ℕ) → GivenSo asked a diag status → (r : Resumption) (plan : Plan)
    → asked ≡ Some (resuming r) → Gets a (file snapshots r.snapshot) plan → Fits (session_of r.steps plan)
    → Gives a diag (resume_shown r.steps plan) status
resumed_so asked a diag status given r plan is gets fits = given (resuming r) (resume_shown r.steps plan) is
    (known_shown a (file snapshots r.snapshot) (λ (p : Plan). if_it_fits (session_of r.steps p) (resume_shown r.steps p)) plan
    (resume_shown r.steps plan) gets (it_fits (session_of r.steps plan) (resume_shown r.steps plan) fits))

gone_on_so : (asked : Option Asked) (a : Around) (diag : Diag) (status : ℕ) → GivenSo asked a diag status → (r : Resumption) (text : Text) (steps : ℕ)
    (s : SessionAtStart) → asked ≡ Some (resuming r) → a.shelf.told r.snapshot ≡ Some text → IsSavedText steps s text
    → Gives a diag (gone_on_shown r.steps s.slice (all_cut_to steps s.guests)) status
gone_on_so asked a diag status given r text steps s is told saved =
    let on = goes_on a.shelf.told r.snapshot text r.steps steps s told saved in
    subst (λ (shown : Shown). Gives a diag shown status) on.shows (resumed_so asked a diag status given r on.plan is on.gets on.fits)

pub causes_so : (asked : Option Asked) (a : Around) (diag : Diag) (end : End) → Ends asked a end → IsPut diag (line_of end)
    → HasSaved asked a (status_of end) → (HostsNothing asked → a.native_after ≡ a.native) → Causes asked a diag (status_of end)
causes_so asked a diag end h line saved unhosted =
    let given = gives_so asked a diag end h line in
    let still = stands asked a end h in
    record {
      ran = λ run opening script is gets. given (bare run) (bare_shown run opening script) is
          (known_shown a (machine_files run.image run.ram run.script run.disk) (λ (opening, script). shows (bare_shown run opening script)) (opening, script)
          (bare_shown run opening script) gets refl);
      assembled = λ name image is gets. given (assembly name) (asm_shown image) is
          (known_shown a (file sources name) (λ i. shows (asm_shown i)) image (asm_shown image) gets refl);
      listed = λ excerpt image is gets. given (disassembly excerpt) (dis_shown excerpt image) is
          (known_shown a (file (images (1024 * excerpt.ram)) excerpt.image) (λ i. shows (dis_shown excerpt i)) image (dis_shown excerpt image) gets refl);
      hosted = hosted_so asked a diag (status_of end) given;
      compared = compared_so asked a diag (status_of end) given;
      tidy = λ name s is gets fits. tidy_so a diag s (status_of end) (compared_so asked a diag (status_of end) given name s is gets fits);
      debugged = debugged_so asked a diag (status_of end) given;
      saved = saved_so asked a diag (status_of end) given;
      is_saved = saved;
      resumed = resumed_so asked a diag (status_of end) given;
      goes_on = gone_on_so asked a diag (status_of end) given;
      generated = λ workload is. given (generation workload) (gen_shown workload) is refl;
      complete = given;
      known = status_known end;
      done_only = done_so asked a diag end h line;
      differs_only = differs_so asked a diag end h line;
      words_only = λ two. (words_so asked a end h two, words_line diag end line two);
      words_always = words_always asked a end h;
      refused_only = refused_so asked a diag end h line;
      refused_always = refused_always asked a end h;
      oversize_only = oversize_so asked a diag end h line;
      oversize_always = oversize_always asked a end h;
      unread_only = unread_so asked a diag end h line;
      unread_always = still.unread_always;
      unread_never = unread_never asked a diag end h line;
      output_only = cut_so asked a diag end h line;
      output_always = still.output_always;
      memory_line = memory_line diag end line;
      silent = λ x y z. (still.idle x y z).0;
      unrun = λ x y z. (still.idle x y z).1;
      unhosted = unhosted;
      same_told = still.told;
      same_whole = still.whole;
      read_well = still.read_well;
    }

-- ---- where nothing can fail

unfailing_end : (asked : Asked) (a : Around) (diag : Diag) (status : ℕ) → Causes (Some asked) a diag status → (status ≡ 5 → ⊥) → (status ≡ 6 → ⊥)
    → (o : Option (Result Answer (Text × FileWhy))) → end_of a.shelf.told (answer_to asked) ≡ o → IfSome o (LeadsUnfailingTo status)
unfailing_end asked a diag status causes five six None is = tt
unfailing_end asked a diag status causes five six (Some (Ok (shows shown))) is = elim (causes.complete asked shown refl is).ended [
  | inl e ↦ inl e
  | inr (inl e) ↦ absurd (five e)
  | inr (inr (inl e)) ↦ absurd (six e)
  | inr (inr (inr e)) ↦ inr e
]
unfailing_end asked a diag status causes five six (Some (Ok (oversizes need have))) is = elim (causes.oversize_always (need, have, is)) [
  | inl e ↦ inl e
  | inr (inl e) ↦ absurd (five e)
  | inr (inr e) ↦ inr e
]
unfailing_end asked a diag status causes five six (Some (Err (name, why))) is = elim (causes.refused_always (name, why, is)) [
  | inl e ↦ inl e
  | inr (inl e) ↦ absurd (five e)
  | inr (inr e) ↦ inr e
]

unfailing_by : (asked : Option Asked) (a : Around) (diag : Diag) (status : ℕ) → Causes asked a diag status → (status ≡ 5 → ⊥) → (status ≡ 6 → ⊥)
    → IsUnfailing asked a.shelf.told status
unfailing_by None a diag status causes five six = causes.words_always refl
unfailing_by (Some asked) a diag status causes five six = unfailing_end asked a diag status causes five six (end_of a.shelf.told (answer_to asked)) refl

pub unfailing_so : (asked : Option Asked) (told : Told) (a : Around) (diag : Diag) (status : ℕ) → a.shelf.told ≡ told → Causes asked a diag status
    → (status ≡ 5 → ⊥) → (status ≡ 6 → ⊥) → IsUnfailing asked told status
unfailing_so asked told a diag status is causes five six =
    subst (λ (t : Told). IsUnfailing asked t status) is (unfailing_by asked a diag status causes five six)

-- ---- the headline

-- a guest's own run by the rule of guests is a free one
alone-is_free : (guest : GuestAtStart) → IsFree guest (alone rule_k guest)
alone-is_free guest = run-from_reset rule_k guest.script guest.steps (opening_devices guest.ram guest.opening.disk)
    (with_contents (replicate guest.ram 0) guest.opening.image)

pub headline_so : (words : List Text) (a : Around) (diag : Diag) (status : ℕ) → Causes (asked_by words) a diag status
    → Headline words a.shelf.told a.out.taken a.out_after.taken status
headline_so words a diag status causes name s is gets fits =
    let gives = causes.hosted name s is gets fits in
    record {
      printed = λ zero. gives.printed (inl zero);
      ended = gives.ended;
      free = λ k d there. alone-is_free (slice_index_or s.session.guests k d);
    }
