use Rattle.std.proofs.Common.{◌≡◌, ℕ, sym, subst}
use Rattle.mb_model.specs.Keeping.{rule_k}
use Rattle.vm_slices.specs.Members.{shown_of}
use Rattle.vm_slices.specs.Places.{members_in}
use Rattle.mb_gen.specs.Sessions.{generated}
use Rattle.mb_words.specs.Words.{workload_said}
use Rattle.mb_program.specs.Headline.{alone}
use Rattle.mb_program.specs.Answers.{gen_shown, shows}
use Rattle.mb_program.specs.Around.{sink_seen}
use Rattle.mb_program.specs.Ends.{IsGiven}
use Rattle.mb_program.proofs.MachineLemmas.{seen_so}
use Rattle.mb_program.proofs.SummaryLemmas.{not_hosted, summary_cut, summary_done}
use Rattle.mb_ends.specs.declared.end.End.{End}
use Rattle.mb_program.proofs.generated.show_generated.Goals as goal

pub returns-in-Err : goal.returns-in-Err
returns-in-Err g c =
    let workload = workload_said c.args.workload.now in
    let out = sink_seen g.O.Sink c.args.out.now in
    subst (λ (end : End). IsGiven (shows (gen_shown workload)) out out c.args.native.now c.run_session.new.native end) (sym c.from-in-Err.ensures)
    (not_hosted workload c.in-Ok.session out _ _ c.in-Err.fault c.in-Ok.ensures.filled c.in-Err.ensures.0 c.in-Err.ensures.1)

pub returns-in-Ok-write_summary : goal.returns-in-Ok-write_summary
returns-in-Ok-write_summary g c =
    let workload = workload_said c.args.workload.now in
    let made = subst (λ (seed : ℕ). c.in-Ok.session ≡ generated seed workload.guests) c.from.ensures c.in-Ok.ensures.generated in
    let members = members_in c.in-Ok-run_session.host in
    summary_done workload c.in-Ok.session (shown_of members) (sink_seen g.O.Sink c.args.out.now) (sink_seen g.O.Sink c.write_summary.new.out)
    _ _ made (seen_so members c.in-Ok.session.guests (alone rule_k) c.in-Ok-run_session.ensures.0.machines)
    c.in-Ok-run_session.ensures.1 c.in-Ok-write_summary.ensures

pub returns : goal.returns
returns g c =
    let workload = workload_said c.args.workload.now in
    let made = subst (λ (seed : ℕ). c.in-Ok.session ≡ generated seed workload.guests) c.from.ensures c.in-Ok.ensures.generated in
    let members = members_in c.in-Ok-run_session.host in
    summary_cut workload c.in-Ok.session (shown_of members) (sink_seen g.O.Sink c.args.out.now) (sink_seen g.O.Sink c.write_summary.new.out)
    c.args.native.now c.run_session.new.native made (seen_so members c.in-Ok.session.guests (alone rule_k) c.in-Ok-run_session.ensures.0.machines)
    c.in-Err-write_summary.ensures
