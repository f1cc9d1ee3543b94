use Rattle.std.proofs.Common.{sym, subst, arith}
use Rattle.mb_program.specs.Answers.{if_it_fits}
use Rattle.mb_program.specs.Around.{sink_seen}
use Rattle.mb_program.specs.Ends.{IsGiven}
use Rattle.mb_program.specs.Saves.{save_shown}
use Rattle.mb_ends.specs.declared.end.End.{End}
use Rattle.mb_program.proofs.SaveLemmas.{is_saved}
use Rattle.mb_program.proofs.ShowLemmas.{none_written, not_opened, saved_cut, saved_done}
use Rattle.mb_program.proofs.saved.show_saved.Goals as goal

pub returns-in-Err-clause-given : goal.returns-in-Err-clause-given
returns-in-Err-clause-given g c =
    let out = sink_seen g.O.Sink c.args.out.now in
    let s = c.args.session in
    subst (λ (end : End). IsGiven (if_it_fits s (save_shown c.args.steps s)) out out c.args.native.now c.run_to.new.native end) (sym c.from.ensures)
    (not_opened s (save_shown c.args.steps s) out _ _ c.in-Err.fault c.in-Err.ensures.0 c.in-Err.ensures.1)

pub returns-in-Err-clause-saved : goal.returns-in-Err-clause-saved
returns-in-Err-clause-saved g c = rw c.from.ensures (λ zero. absurd (none_written c.in-Err.fault zero))

pub returns-in-Ok-write_snapshot-clause-given : goal.returns-in-Ok-write_snapshot-clause-given
returns-in-Ok-write_snapshot-clause-given g c =
    saved_done c.args.steps c.args.session c.in-Ok.host (sink_seen g.O.Sink c.args.out.now) (sink_seen g.O.Sink c.write_snapshot.new.out) _ _
    c.in-Ok.ensures (rw (c.board-board.ensures, c.slice-slice.ensures) at c.in-Ok-write_snapshot.ensures.prints)

pub returns-in-Ok-write_snapshot-clause-saved : goal.returns-in-Ok-write_snapshot-clause-saved
returns-in-Ok-write_snapshot-clause-saved g c =
    let slice = c.slice-slice.ensures in
    λ zero. is_saved c.args.steps c.args.session c.in-Ok.host _ _ c.requires.session (omega (arith, slice)) c.in-Ok.ensures
    c.in-Ok-write_snapshot.ensures.told

pub returns-clause-given : goal.returns-clause-given
returns-clause-given g c =
    saved_cut c.args.steps c.args.session c.in-Ok.host (sink_seen g.O.Sink c.args.out.now) (sink_seen g.O.Sink c.write_snapshot.new.out) _ _
    c.in-Ok.ensures (rw (c.board-board.ensures, c.slice-slice.ensures) at c.in-Err-write_snapshot.ensures.prints)
