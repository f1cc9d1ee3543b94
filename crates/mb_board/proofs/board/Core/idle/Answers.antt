use Rattle.std.proofs.Common.{◌∙◌, ◌+◌, [], ap, subst, sym}
use Rattle.mb_model.specs.Keeping.{rule_a}
use Rattle.def_machine.specs.World.{World}
use Rattle.def_machine.specs.Machine.{run_of}
use Rattle.mb_board.specs.contracts.board.Core.{the_view}
use Rattle.mb_board.specs.Idle.{IsHeld}
use Rattle.mb_board.proofs.Idle.{idle_run}
use Rattle.mb_board.proofs.board.Core.idle.Goals as goal

pub returns-clause-means : goal.returns-clause-means
returns-clause-means c =
    let m = the_view c.self.inside in
    let n = c.pass-idle.result in
    ap (λ (w : World). record m { world = w; steps = m.steps + n }) c.pass-idle.ensures.after
    ∙ sym (idle_run rule_a n m (subst IsHeld (sym c.self.view_is) c.requires.held) c.pass-idle.ensures.due) ∙ ap (run_of rule_a [] n) c.self.view_is
