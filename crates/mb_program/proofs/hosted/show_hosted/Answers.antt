use Rattle.std.proofs.Common.{List, sym, subst}
use Rattle.mb_script.specs.declared.turn.Turn.{Turn}
use Rattle.mb_program.specs.Answers.{host_shown, if_it_fits}
use Rattle.mb_program.specs.Around.{sink_seen}
use Rattle.mb_program.specs.Direct.{CarriedOut}
use Rattle.mb_program.specs.Ends.{IsGiven}
use Rattle.mb_program.specs.Said.{ordered_said}
use Rattle.mb_program.proofs.ShowLemmas.{hosted_cut, hosted_done, not_opened}
use Rattle.mb_ends.specs.declared.end.End.{End}
use Rattle.mb_program.proofs.hosted.show_hosted.Goals as goal

pub returns-in-Err : goal.returns-in-Err
returns-in-Err g c =
    let out = sink_seen g.O.Sink c.args.out.now in
    let s = ordered_said c.args.ordered in
    subst (λ (end : End). IsGiven (if_it_fits s.session (host_shown s)) out out c.args.native.now c.run_session.new.native end) (sym c.from.ensures)
    (not_opened s.session (host_shown s) out _ _ c.in-Err.fault c.in-Err.ensures.0 c.in-Err.ensures.1)

pub returns-in-Ok-write_outcomes : goal.returns-in-Ok-write_outcomes
returns-in-Ok-write_outcomes g c =
    let s = ordered_said c.args.ordered in
    hosted_done s c.in-Ok.host (sink_seen g.O.Sink c.args.out.now) (sink_seen g.O.Sink c.write_outcomes.new.out) _ _ c.in-Ok.ensures.0
    (subst (λ (turns : List Turn). CarriedOut (record { session = s.session; order = turns }) c.args.native.now c.run_session.new.native)
    c.deref.ensures.value c.in-Ok.ensures.1) c.in-Ok-write_outcomes.ensures

pub returns : goal.returns
returns g c =
    hosted_cut (ordered_said c.args.ordered) c.in-Ok.host (sink_seen g.O.Sink c.args.out.now) (sink_seen g.O.Sink c.write_outcomes.new.out) _ _
    c.in-Ok.ensures.0 c.in-Err-write_outcomes.ensures
