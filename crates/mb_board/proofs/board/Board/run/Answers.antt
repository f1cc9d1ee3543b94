use Rattle.std.proofs.Common.{◌∙◌, ap, refl, subst}
use Rattle.def_machine.specs.Machine.{takes_steps}
use Rattle.mb_model.specs.declared.outcome.RunState.{RunState}
use Rattle.def_runs.specs.Native.{Ran, user_run}
use Rattle.def_runs.proofs.RunEnds.{run-keeps_steps}
use Rattle.mb_board.specs.declared.board.Board.TheInside.{Inside}
use Rattle.mb_board.specs.State.{BoardState, run_from}
use Rattle.mb_board.specs.Fits.{FitsAlong}
use Rattle.mb_board.proofs.UserRuns.{cause-of, ran_of}
use Rattle.mb_board.proofs.board.Board.run.Goals as goal

pub returns-clause-means : goal.returns-clause-means
returns-clause-means c =
    ap (λ (b : Inside). ran_of c.run-end.result b.core c.run-end.new.native c.run-end.new.before) c.self-inside.view_is
    ∙ c.run-end.ensures.means ∙ ap (λ (b : BoardState). user_run c.args.limit (run_from b c.args.native.now)) c.self.view_is

pub returns-clause-cause : goal.returns-clause-cause
returns-clause-cause c =
    let from = run_from c.args.self.now c.args.native.now in
    cause-of c.args.limit from _ (returns-clause-means c) refl (ap (λ (s : RunState). takes_steps s) c.requires.running) c.requires.user

pub returns-clause-steps : goal.returns-clause-steps
returns-clause-steps c =
    ap (λ (x : Ran). x.machine.steps) (returns-clause-means c)
    ∙ run-keeps_steps c.args.limit (run_from c.args.self.now c.args.native.now)

pub returns-clause-fit : goal.returns-clause-fit
returns-clause-fit c = subst (λ (b : BoardState). FitsAlong c.args.limit (run_from b c.args.native.now)) c.self.view_is c.run-end.ensures.fit
