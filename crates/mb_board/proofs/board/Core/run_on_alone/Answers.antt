use Rattle.std.proofs.Common.{◌∙◌, ◌+◌, ℕ, [], ap, refl, sym}
use Rattle.mb_model.specs.Keeping.{rule_a}
use Rattle.def_machine.specs.Machine.{Machine, takes_steps}
use Rattle.mb_board.specs.contracts.board.Core.{the_view}
use Rattle.mb_board.proofs.Calm.{counted}
use Rattle.mb_board.proofs.Runs.{one_more, run_of-zero}
use Rattle.mb_board.proofs.board.Core.run_on_alone.Goals as goal

pub returns-then-not-is_calm-clause-means : goal.returns-then-not-is_calm-clause-means
returns-then-not-is_calm-clause-means c =
    let m = c.args.self.now in
    one_more rule_a [] m m _ c.step_alone.result 0 (sym (run_of-zero rule_a [] 0 m refl)) c.requires.takes c.step_alone.ensures.means

pub returns-clause-means : goal.returns-clause-means
returns-clause-means c =
    let calm = c.run_stretch-calm.result in
    let after = c.run_stretch-calm.new.self in
    let m = counted (c.self.inside.steps + calm) (the_view c.self.inside) in
    let so_far = ap (λ (x : Machine). counted (x.steps + calm) x) c.self.view_is
    ∙ ap (λ (n : ℕ). counted (n + calm) after) c.run_stretch-calm.ensures.uncounted ∙ c.run_stretch-calm.ensures.means in
    one_more rule_a [] c.args.self.now m _ c.step_by_row.result calm so_far
    (ap (λ (x : Machine). takes_steps x.state) c.self.view_is ∙ ap takes_steps c.run_stretch-calm.ensures.calm.running) c.step_by_row.ensures.means
