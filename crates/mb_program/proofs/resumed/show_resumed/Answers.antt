use Rattle.std.proofs.Common.{sym, subst}
use Rattle.vm_snapshot.specs.Plans.{plan_seen}
use Rattle.mb_program.specs.Answers.{if_it_fits}
use Rattle.mb_program.specs.Around.{sink_seen}
use Rattle.mb_program.specs.Ends.{IsGiven}
use Rattle.mb_program.specs.Saves.{resume_shown, session_of}
use Rattle.mb_ends.specs.declared.end.End.{End}
use Rattle.mb_program.proofs.ShowLemmas.{not_opened, resumed_cut, resumed_done}
use Rattle.mb_program.proofs.resumed.show_resumed.Goals as goal

pub returns-in-Err : goal.returns-in-Err
returns-in-Err g c =
    let out = sink_seen g.O.Sink c.args.out.now in
    let more = c.args.more in
    let plan = plan_seen c.args.plan in
    subst (λ (end : End). IsGiven (if_it_fits (session_of more plan) (resume_shown more plan)) out out c.args.native.now c.run_on.new.native end)
    (sym c.from.ensures)
    (not_opened (session_of more plan) (resume_shown more plan) out _ _ c.in-Err.fault c.in-Err.ensures.0 c.in-Err.ensures.1)

pub returns-in-Ok-write_outcomes : goal.returns-in-Ok-write_outcomes
returns-in-Ok-write_outcomes g c =
    resumed_done c.args.more (plan_seen c.args.plan) c.in-Ok.host (sink_seen g.O.Sink c.args.out.now) (sink_seen g.O.Sink c.write_outcomes.new.out) _ _
    c.in-Ok.ensures c.in-Ok-write_outcomes.ensures

pub returns-in-Err-write_outcomes : goal.returns-in-Err-write_outcomes
returns-in-Err-write_outcomes g c =
    resumed_cut c.args.more (plan_seen c.args.plan) c.in-Ok.host (sink_seen g.O.Sink c.args.out.now) (sink_seen g.O.Sink c.write_outcomes.new.out) _ _
    c.in-Ok.ensures c.in-Err-write_outcomes.ensures
