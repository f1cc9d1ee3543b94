-- How the summary of guests that a number makes is given.
use Rattle.std.proofs.Common.{◌≡◌, ◌∙◌, ◌<◌, List, [], map, refl, ap, subst, arith}
use Rattle.mb_model.specs.Keeping.{rule_k}
use Rattle.mb_model.specs.Seen.{Seen}
use Rattle.def_machine.specs.Machine.{seen_machine}
use Rattle.mb_gen.specs.Sessions.{generated, IsJustFilled}
use Rattle.mb_words.specs.Words.{Workload}
use Rattle.def_runs.specs.Native.{NativeState}
use Rattle.vm_guest.specs.Session.{GuestAtStart, SessionAtStart}
use Rattle.vm_slices.specs.Fit.{need_of}
use Rattle.vm_slices.specs.declared.open_fault.OpenFault.{OpenFault}
use Rattle.vm_slices.specs.declared.open_fault.OpenFault.TheVariants as open_fault
use Rattle.mb_program.specs.Headline.{alone}
use Rattle.mb_program.specs.Direct.{CarriedOut}
use Rattle.mb_program.specs.Answers.{shows, gen_shown, made_session, summary_text}
use Rattle.mb_program.specs.Around.{SinkSeen, Gains, GainsPart}
use Rattle.mb_program.specs.Ends.{IsGiven}
use Rattle.mb_ends.specs.Lines.{unopened}
use Rattle.mb_program.specs.Runs.{IsUnopened}
use Rattle.mb_ends.specs.declared.end.End.TheVariants.{Done, Output}

-- what all guests of a session show
abbrev all_shown : SessionAtStart → List Seen
all_shown s = map (λ (guest : GuestAtStart). seen_machine (alone rule_k guest)) s.guests

-- the guests of the session are those that the definition gives
made_so : (workload : Workload) (s : SessionAtStart) (shown : List Seen) → s ≡ generated workload.seed workload.guests
    → shown ≡ all_shown s → shown ≡ all_shown (made_session workload).session
made_so workload s shown is same = same ∙ ap all_shown is

pub summary_done : (workload : Workload) (s : SessionAtStart) (shown : List Seen) (out out_after : SinkSeen) (native native_after : NativeState)
    → s ≡ generated workload.seed workload.guests → shown ≡ all_shown s
    → CarriedOut (record { session = s; order = [] }) native native_after
    → Gains out out_after (summary_text shown) → IsGiven (shows (gen_shown workload)) out out_after native native_after Done
summary_done workload s shown out out_after native native_after is same counted gained = record {
  gained = subst (λ (seen : List Seen). Gains out out_after (summary_text seen)) (made_so workload s shown is same) gained;
  status_is = refl;
  lines_are = refl;
  counted = subst (λ (r : SessionAtStart). CarriedOut (record { session = r; order = [] }) native native_after) is counted;
}

pub summary_cut : (workload : Workload) (s : SessionAtStart) (shown : List Seen) (out out_after : SinkSeen) (native native_after : NativeState)
    → s ≡ generated workload.seed workload.guests → shown ≡ all_shown s
    → GainsPart out out_after (summary_text shown) → IsGiven (shows (gen_shown workload)) out out_after native native_after Output
summary_cut workload s shown out out_after native native_after is same part =
    subst (λ (seen : List Seen). GainsPart out out_after (summary_text seen)) (made_so workload s shown is same) part

-- a session that just fills its board has a host, unless memory runs out
pub not_hosted : (workload : Workload) (s : SessionAtStart) (out : SinkSeen) (native native_after : NativeState) (fault : OpenFault) → IsJustFilled s
    → IsUnopened s fault → native_after ≡ native → IsGiven (shows (gen_shown workload)) out out native native_after (unopened fault)
not_hosted workload s out native native_after open_fault.Memory filled un same = (refl, same)
not_hosted workload s out native native_after (open_fault.Oversize need have) filled un same =
    let less : s.board < need_of s.guests = un.0 in
    let full : need_of s.guests ≡ s.board = filled in
    absurd (omega arith)
