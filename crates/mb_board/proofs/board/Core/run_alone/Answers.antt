use Rattle.std.proofs.Common.{rules, ◌≡◌, ◌∙◌, ◌-◌, [], false, sym, ap, arith}
use Rattle.mb_model.specs.Keeping.{rule_a}
use Rattle.def_machine.specs.Machine.{Machine, run_of, takes_steps}
use Rattle.mb_board.proofs.Runs.{run_of-split, run_of-still, run_of-zero}
use Rattle.mb_board.proofs.board.Core.run_alone.Goals as goal

pub returns-then-not-takes_steps-clause-means : goal.returns-then-not-takes_steps-clause-means
returns-then-not-takes_steps-clause-means c =
    sym (run_of-still rule_a [] c.args.steps c.args.self.now (sym c.takes_steps.ensures ∙ c.if-not-takes_steps.true))

pub loop-left-preserved-in-Running : goal.loop-left-preserved-in-Running
loop-left-preserved-in-Running c =
    let taken = c.run_on_alone-left.result in
    let left = c.loop-left.left - taken in
    let few = c.run_on_alone-left.ensures.within in
    let so_far = c.loop-left.invariant.counted in
    let counted = c.run_on_alone-left.ensures.counted in
    record {
      run = ap (λ (m : Machine). run_of rule_a [] left m) c.run_on_alone-left.ensures.means
          ∙ run_of-split rule_a [] taken left c.loop-left.left c.loop-left.self (omega arith) ∙ c.loop-left.invariant.run;
      takes = ap (λ (m : Machine). takes_steps m.state) (sym c.self.view_is) ∙ ap takes_steps c.in-Running.is;
      counted = omega (arith, few, so_far, counted);
      ram = c.run_on_alone-left.ensures.ram ∙ c.loop-left.invariant.ram;
    }

pub loop-left-preserved : goal.loop-left-preserved
loop-left-preserved c =
    let taken = c.run_on_alone-left.result in
    let left = c.loop-left.left - taken in
    let idle = c.idle_on-left.result in
    let few = c.run_on_alone-left.ensures.within in
    let fewer = c.idle_on-left.ensures.within in
    let so_far = c.loop-left.invariant.counted in
    let counted = c.run_on_alone-left.ensures.counted in
    let idled = c.idle_on-left.ensures.counted in
    record {
      run = ap (λ (m : Machine). run_of rule_a [] (left - idle) m) c.idle_on-left.ensures.means
          ∙ run_of-split rule_a [] idle (left - idle) left c.run_on_alone-left.new.self (omega arith)
          ∙ ap (λ (m : Machine). run_of rule_a [] left m) c.run_on_alone-left.ensures.means
          ∙ run_of-split rule_a [] taken left c.loop-left.left c.loop-left.self (omega arith) ∙ c.loop-left.invariant.run;
      takes = ap takes_steps c.idle_on-left.ensures.state
          ∙ ap (λ (m : Machine). takes_steps m.state) (sym c.self.view_is) ∙ ap takes_steps c.in-Stopped.is;
      counted = omega (arith, few, fewer, so_far, counted, idled);
      ram = c.idle_on-left.ensures.ram ∙ c.run_on_alone-left.ensures.ram ∙ c.loop-left.invariant.ram;
    }

pub returns-in-Halted-clause-means : goal.returns-in-Halted-clause-means
returns-in-Halted-clause-means c =
    let taken = c.run_on_alone-left.result in
    let left = c.loop-left.left - taken in
    let few = c.run_on_alone-left.ensures.within in
    let still : takes_steps c.self.inside.state ≡ false = search rules in
    sym (run_of-still rule_a [] left c.run_on_alone-left.new.self (ap (λ (m : Machine). takes_steps m.state) (sym c.self.view_is) ∙ still))
    ∙ ap (λ (m : Machine). run_of rule_a [] left m) c.run_on_alone-left.ensures.means
    ∙ run_of-split rule_a [] taken left c.loop-left.left c.loop-left.self (omega arith) ∙ c.loop-left.invariant.run

pub returns-clause-means : goal.returns-clause-means
returns-clause-means c =
    sym (run_of-zero rule_a [] c.loop-left.left c.loop-left.self (omega arith)) ∙ c.loop-left.invariant.run
