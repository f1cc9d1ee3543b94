use Rattle.std.proofs.Common.{◌≡◌, ◌+◌, [], length, true}
use Rattle.mb_model.specs.Keeping.{rule_a}
use Rattle.def_machine.specs.Machine.{run_of, takes_steps}
use Rattle.mb_board.proofs.board.Core.run_alone.Given as goal

abbrev pub invariant-loop-left : goal.invariant-loop-left
invariant-loop-left l = record {
  run : run_of rule_a [] l.left l.self ≡ run_of rule_a [] l.steps l.initial.self;
  takes : takes_steps l.self.state ≡ true;
  counted : l.self.steps + l.left ≡ l.initial.self.steps + l.steps;
  ram : length l.self.world.ram ≡ length l.initial.self.world.ram;
}

abbrev pub decreases-loop-left : goal.decreases-loop-left
decreases-loop-left l = l.left
