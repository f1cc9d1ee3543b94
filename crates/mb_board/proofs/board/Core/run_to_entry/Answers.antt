use Rattle.std.proofs.Common.{◌∙◌, ◌+◌, ℕ, ap, subst, arith}
use Rattle.mb_model.specs.Keeping.{rule_a}
use Rattle.def_machine.specs.Machine.{Machine}
use Rattle.mb_board.specs.Arrivals.{IsNext}
use Rattle.mb_board.proofs.Runs.{stepped-by}
use Rattle.mb_board.proofs.Stretches.{none-between, run-to_entry}
use Rattle.mb_board.proofs.board.Core.run_to_entry.Goals as goal

pub returns-clause-means : goal.returns-clause-means
returns-clause-means c =
    let script = c.args.script.now in
    let m = c.args.self.now in
    let more = c.before_entry-more.result in
    let after = c.step_on.new.self in
    let taken = ap (λ (x : Machine). x.steps) c.self.view_is in
    let behind = subst (λ (k : ℕ). IsNext script (k + more) c.step_on.new.next) taken c.before_entry-more.ensures.next in
    c.run_alone.ensures.means
    ∙ run-to_entry rule_a script (more + 1) more m after (omega arith) c.requires.takes
    (stepped-by rule_a script m c.step_on.result after c.step_on.ensures.means)
    (none-between script after.steps c.step_on.new.next more c.step_on.ensures.next behind)

pub returns-clause-next : goal.returns-clause-next
returns-clause-next c = λ takes.
    let counted = c.run_alone.ensures.counted takes in
    let taken = ap (λ (x : Machine). x.steps) c.self.view_is in
    subst (λ (k : ℕ). IsNext c.args.script.now k c.step_on.new.next) (omega (arith, counted, taken)) c.before_entry-more.ensures.next
