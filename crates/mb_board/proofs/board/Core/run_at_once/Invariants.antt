use Rattle.std.proofs.Common.{◌≡◌, ◌≤◌, ◌+◌, ◌-◌, [], length}
use Rattle.mb_model.specs.Keeping.{rule_a}
use Rattle.mb_model.specs.Status.{space_of}
use Rattle.def_machine.specs.Machine.{run_of}
use Rattle.mb_board.specs.Calm.{IsCalm}
use Rattle.mb_board.proofs.Calm.{counted}
use Rattle.mb_board.proofs.board.Core.run_at_once.Given as goal

abbrev pub invariant-loop-left : goal.invariant-loop-left
invariant-loop-left g l = record {
  run : run_of rule_a [] (l.limit - l.left) l.initial.self ≡ counted (l.initial.self.steps + (l.limit - l.left)) l.self;
  calm : IsCalm l.self;
  space : l.space ≡ space_of l.self.cpu;
  uncounted : l.self.steps ≡ l.initial.self.steps;
  within : l.left ≤ l.limit;
  ram : length l.self.world.ram ≡ length l.initial.self.world.ram;
}

abbrev pub decreases-loop-left : goal.decreases-loop-left
decreases-loop-left g l = l.left
