use Rattle.std.proofs.Common.{◌≡◌, ◌∙◌, ◌+◌, ◌-◌, [], ℕ, ap, refl, sym, arith}
use Rattle.mb_model.specs.Keeping.{rule_a}
use Rattle.mb_model.specs.Status.{space_of}
use Rattle.def_processor.specs.declared.Finish.{Finish}
use Rattle.def_machine.specs.Machine.{Machine, run_of}
use Rattle.mb_board.proofs.Calm.{calm_runs, counted}
use Rattle.mb_board.proofs.Runs.{run_of-zero}
use Rattle.mb_board.proofs.board.Core.run_at_once.Goals.{else-loop-left-test, then-loop-left-test+then-not-step_at_once}
use Rattle.mb_board.proofs.board.Core.run_at_once.Goals as goal

pub loop-left-init : goal.loop-left-init
loop-left-init g c =
    let m = c.args.self.now in
    let none = c.args.limit - c.args.limit in record {
      run = run_of-zero rule_a [] none m (omega arith) ∙ ap (λ (n : ℕ). counted n m) (let e : m.steps ≡ m.steps + none = omega arith in e);
      calm = c.requires.calm;
      space = c.space-space.ensures ∙ ap (λ (x : Machine). space_of x.cpu) c.self.view_is;
      uncounted = refl;
      within = (omega arith);
      ram = refl;
    }

pub loop-left-preserved : goal.loop-left-preserved
loop-left-preserved g c =
    let from = c.args.self.now in
    let left = c.loop-left.left in
    let k = c.args.limit - left in
    let more = c.args.limit - (left - 1) in
    let n = from.steps + k in
    let after = c.step_at_once.new.self in
    let went = c.step_at_once.ensures.means c.if-not-step_at_once.false in
    let one : more ≡ k + 1 = let within = c.loop-left.invariant.within in omega arith in record {
      run = ap (λ (j : ℕ). run_of rule_a [] j from) one
          ∙ calm_runs from c.loop-left.self after n k c.loop-left.invariant.run c.loop-left.invariant.calm went
          ∙ ap (λ (j : ℕ). counted j after) (let e : n + 1 ≡ from.steps + more = omega (arith, one) in e);
      calm = c.step_at_once.ensures.calm;
      space = c.loop-left.invariant.space ∙ sym c.step_at_once.ensures.space;
      uncounted = ap (λ (r : Finish × Machine). r.1.steps) went ∙ c.loop-left.invariant.uncounted;
      within = (omega arith);
      ram = c.step_at_once.ensures.ram ∙ c.loop-left.invariant.ram;
    }

pub returns-clause-means : goal.returns-clause-means
returns-clause-means g c =
    let at = counted (c.args.self.now.steps + (c.args.limit - c.loop-left.left)) in
    elim c.loop-left-test.branch [
      | else-loop-left-test w ↦ ap at w.self-is ∙ sym c.loop-left.invariant.run
      | then-loop-left-test+then-not-step_at_once w ↦
          ap at (w.self-is ∙ w.step_at_once.ensures.undone w.if-not-step_at_once.true) ∙ sym c.loop-left.invariant.run
    ]
