use Rattle.std.proofs.Common.{◌∙◌, ◌-◌, sym, ap, arith}
use Rattle.mb_model.specs.Keeping.{rule_a}
use Rattle.def_machine.specs.Machine.{Machine, run_of}
use Rattle.def_runs.proofs.Runs.{ended-is_free}
use Rattle.mb_board.proofs.Runs.{run_of-split, run_of-still, run_of-zero}
use Rattle.mb_board.proofs.board.Core.run_bare.Goals as goal

pub returns-then-not-takes_steps-clause-means : goal.returns-then-not-takes_steps-clause-means
returns-then-not-takes_steps-clause-means c =
    sym (run_of-still rule_a c.args.script.now c.loop-left.left c.loop-left.self (sym c.takes_steps.ensures ∙ c.if-not-takes_steps.true))
    ∙ c.loop-left.invariant.run

pub returns-then-not-takes_steps-clause-free : goal.returns-then-not-takes_steps-clause-free
returns-then-not-takes_steps-clause-free c = ended-is_free rule_a _ _ _ _ (returns-then-not-takes_steps-clause-means c)

pub loop-left-preserved : goal.loop-left-preserved
loop-left-preserved c =
    let taken = c.run_to_entry-left.result in
    let left = c.loop-left.left - taken in
    let few = c.run_to_entry-left.ensures.within in
    let room = c.loop-left.invariant.room in
    let counted = c.run_to_entry-left.ensures.steps in
    record {
      run = ap (λ (m : Machine). run_of rule_a c.args.script.now left m) c.run_to_entry-left.ensures.means
          ∙ run_of-split rule_a c.args.script.now taken left c.loop-left.left c.loop-left.self (omega arith) ∙ c.loop-left.invariant.run;
      room = omega (arith, few, room, counted);
      next = c.run_to_entry-left.ensures.next;
      ram = c.run_to_entry-left.ensures.ram ∙ c.loop-left.invariant.ram;
    }

pub returns-clause-means : goal.returns-clause-means
returns-clause-means c =
    sym (run_of-zero rule_a c.args.script.now c.loop-left.left c.loop-left.self (omega arith)) ∙ c.loop-left.invariant.run

pub returns-clause-free : goal.returns-clause-free
returns-clause-free c = ended-is_free rule_a _ _ _ _ (returns-clause-means c)
