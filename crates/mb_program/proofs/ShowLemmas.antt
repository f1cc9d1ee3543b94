-- How a session's answer is given.
use Rattle.std.proofs.Common.{◌≡◌, ℕ, List, map, refl, sym, ap, subst}
use Rattle.std.proofs.lemmas.Bool.{le-ltb, lt-ltb}
use Rattle.mb_model.specs.Keeping.{rule_k}
use Rattle.def_machine.specs.Machine.{Machine}
use Rattle.def_runs.specs.Native.{NativeState}
use Rattle.def_guests.specs.Turns.{Tally}
use Rattle.vm_guest.specs.Session.{SessionAtStart}
use Rattle.vm_slices.specs.Fit.{Fits, need_of}
use Rattle.vm_slices.specs.Members.{machines_of}
use Rattle.vm_slices.specs.Places.{HostState, members_in}
use Rattle.vm_slices.specs.declared.open_fault.OpenFault.{OpenFault}
use Rattle.vm_slices.specs.declared.open_fault.OpenFault.TheVariants as open_fault
use Rattle.std.specs.Prelude.{◌/◌}
use Rattle.vm_snapshot.specs.Plans.{Plan}
use Rattle.vm_snapshot.specs.Shown.{ShownGuest, snapshot_text}
use Rattle.mb_program.specs.Files.{Ordered}
use Rattle.mb_program.specs.Saved.{HaveGoneOn, HaveStopped, shown_by}
use Rattle.mb_program.specs.Saves.{resume_shown, save_shown, session_of}
use Rattle.mb_program.specs.Headline.{alone, machine_text}
use Rattle.mb_ends.specs.Texts.{texts_from}
use Rattle.mb_program.specs.Direct.{CarriedOut}
use Rattle.mb_ends.specs.Lines.{counts_line, status_of, unopened}
use Rattle.mb_program.specs.Answers.{Answer, Shown, shows, oversizes, host_shown, if_it_fits}
use Rattle.mb_program.specs.Around.{SinkSeen, Gains, GainsPart}
use Rattle.mb_program.specs.Ends.{IsGiven, IsIdle}
use Rattle.mb_program.specs.Runs.{HaveRun, IsUnopened}
use Rattle.mb_ends.specs.declared.end.End.{End}
use Rattle.mb_ends.specs.declared.end.End.TheVariants.{Counts, Done, Memory, Output}

-- a session that fits gives what is shown
pub it_fits : (s : SessionAtStart) (shown : Shown) → Fits s → if_it_fits s shown ≡ shows shown
it_fits s shown fits = rw (le-ltb s.board (need_of s.guests) fits) refl

pub fitting : (s : SessionAtStart) (shown : Shown) (out out_after : SinkSeen) (native native_after : NativeState) (end : End) → Fits s
    → IsGiven (shows shown) out out_after native native_after end → IsGiven (if_it_fits s shown) out out_after native native_after end
fitting s shown out out_after native native_after end fits gives =
    subst (λ (answer : Answer). IsGiven answer out out_after native native_after end) (sym (it_fits s shown fits)) gives

-- memory may run out before any answer
pub memory_gone : (answer : Answer) (out out_after : SinkSeen) (native native_after : NativeState) → IsIdle out out_after native native_after
    → IsGiven answer out out_after native native_after Memory
memory_gone (shows shown) out out_after native native_after idle = idle
memory_gone (oversizes need have) out out_after native native_after idle = idle

-- the guests of a host have the texts of their own runs
texts_so : (s : Ordered) (host : HostState) (P : List Machine → Type 0) → HaveRun s.session host → P (machines_of (members_in host))
    → P (map (alone rule_k) s.session.guests)
texts_so s host P runs h = subst P runs.machines h

pub hosted_done : (s : Ordered) (host : HostState) (out out_after : SinkSeen) (native native_after : NativeState) → HaveRun s.session host
    → CarriedOut s native native_after → Gains out out_after (texts_from machine_text 1 (machines_of (members_in host)))
    → IsGiven (if_it_fits s.session (host_shown s)) out out_after native native_after (Counts host)
hosted_done s host out out_after native native_after runs counted gained =
    fitting s.session (host_shown s) out out_after native native_after (Counts host) runs.fits (record {
      gained = texts_so s host (λ (ms : List Machine). Gains out out_after (texts_from machine_text 1 ms)) runs gained;
      status_is = refl;
      lines_are = ap (λ (tallies : List Tally). texts_from counts_line 1 tallies) (sym runs.tallies);
      counted = counted;
    })

pub hosted_cut : (s : Ordered) (host : HostState) (out out_after : SinkSeen) (native native_after : NativeState) → HaveRun s.session host
    → GainsPart out out_after (texts_from machine_text 1 (machines_of (members_in host)))
    → IsGiven (if_it_fits s.session (host_shown s)) out out_after native native_after Output
hosted_cut s host out out_after native native_after runs part =
    fitting s.session (host_shown s) out out_after native native_after Output runs.fits
    (texts_so s host (λ (ms : List Machine). GainsPart out out_after (texts_from machine_text 1 ms)) runs part)

-- a snapshot is written, or a part of it
pub saved_done : (steps : ℕ) (s : SessionAtStart) (host : HostState) (out out_after : SinkSeen) (native native_after : NativeState)
    → HaveStopped steps s native native_after host → Gains out out_after (snapshot_text (s.board / 1024) s.slice (shown_by (members_in host)))
    → IsGiven (if_it_fits s (save_shown steps s)) out out_after native native_after Done
saved_done steps s host out out_after native native_after stopped gained =
    fitting s (save_shown steps s) out out_after native native_after Done stopped.fits (record {
      gained = subst (λ (guests : List ShownGuest). Gains out out_after (snapshot_text (s.board / 1024) s.slice guests)) stopped.shown gained;
      status_is = refl;
      lines_are = refl;
      counted = stopped.counted;
    })

pub saved_cut : (steps : ℕ) (s : SessionAtStart) (host : HostState) (out out_after : SinkSeen) (native native_after : NativeState)
    → HaveStopped steps s native native_after host
    → GainsPart out out_after (snapshot_text (s.board / 1024) s.slice (shown_by (members_in host)))
    → IsGiven (if_it_fits s (save_shown steps s)) out out_after native native_after Output
saved_cut steps s host out out_after native native_after stopped part =
    fitting s (save_shown steps s) out out_after native native_after Output stopped.fits
    (subst (λ (guests : List ShownGuest). GainsPart out out_after (snapshot_text (s.board / 1024) s.slice guests)) stopped.shown part)

-- the guests of a snapshot have gone on
pub resumed_done : (more : ℕ) (plan : Plan) (host : HostState) (out out_after : SinkSeen) (native native_after : NativeState)
    → HaveGoneOn more plan native native_after host → Gains out out_after (texts_from machine_text 1 (machines_of (members_in host)))
    → IsGiven (if_it_fits (session_of more plan) (resume_shown more plan)) out out_after native native_after (Counts host)
resumed_done more plan host out out_after native native_after gone gained =
    fitting (session_of more plan) (resume_shown more plan) out out_after native native_after (Counts host) gone.fits (record {
      gained = subst (λ (ms : List Machine). Gains out out_after (texts_from machine_text 1 ms)) gone.machines gained;
      status_is = refl;
      lines_are = ap (λ (tallies : List Tally). texts_from counts_line 1 tallies) (sym gone.tallies);
      counted = gone.counted;
    })

pub resumed_cut : (more : ℕ) (plan : Plan) (host : HostState) (out out_after : SinkSeen) (native native_after : NativeState)
    → HaveGoneOn more plan native native_after host → GainsPart out out_after (texts_from machine_text 1 (machines_of (members_in host)))
    → IsGiven (if_it_fits (session_of more plan) (resume_shown more plan)) out out_after native native_after Output
resumed_cut more plan host out out_after native native_after gone part =
    fitting (session_of more plan) (resume_shown more plan) out out_after native native_after Output gone.fits
    (subst (λ (ms : List Machine). GainsPart out out_after (texts_from machine_text 1 ms)) gone.machines part)

-- a session without a host: it does not fit, or memory ran out
pub not_opened : (s : SessionAtStart) (shown : Shown) (out : SinkSeen) (native native_after : NativeState) (fault : OpenFault) → IsUnopened s fault
    → native_after ≡ native → IsGiven (if_it_fits s shown) out out native native_after (unopened fault)
not_opened s shown out native native_after open_fault.Memory un same = memory_gone (if_it_fits s shown) out out native native_after (refl, same)
not_opened s shown out native native_after (open_fault.Oversize need have) un same =
    rw (lt-ltb s.board (need_of s.guests) un.0) (un.1, un.2, (refl, same))

-- and nothing was written
pub none_written : (fault : OpenFault) → status_of (unopened fault) ≡ 0 → ⊥
none_written open_fault.Memory zero = absurd cc
none_written (open_fault.Oversize need have) zero = absurd cc
