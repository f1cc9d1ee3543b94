use Rattle.std.proofs.Common.{◌≡◌, ◌+◌, ◌<◌, ◌^◌, length, true}
use Rattle.mb_model.specs.Keeping.{rule_a}
use Rattle.def_machine.specs.Machine.{run_of, takes_steps}
use Rattle.mb_board.specs.Arrivals.{IsNext}
use Rattle.mb_board.proofs.board.Core.run_bare.Given as goal

abbrev pub invariant-loop-left : goal.invariant-loop-left
invariant-loop-left l = record {
  run : run_of rule_a l.script l.left l.self ≡ run_of rule_a l.script l.steps l.initial.self;
  room : l.self.steps + l.left < 2 ^ 32;
  next : takes_steps l.self.state ≡ true → IsNext l.script l.self.steps l.next;
  ram : length l.self.world.ram ≡ length l.initial.self.world.ram;
}

abbrev pub decreases-loop-left : goal.decreases-loop-left
decreases-loop-left l = l.left
