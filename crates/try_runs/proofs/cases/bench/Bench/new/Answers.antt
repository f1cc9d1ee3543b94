use Rattle.std.proofs.Common.{ap}
use Rattle.mb_devices.specs.Devices.{built}
use Rattle.def_machine.specs.Machine.{reset_with}
use Rattle.mb_board.specs.State.{BoardState}
use Rattle.try_runs.proofs.cases.bench.Bench.new.Goals as goal

pub invariant_of-result : goal.invariant_of-result
unfolding reset_with
invariant_of-result c = record {
  ram_size = c.in_ok-ram.ensures;
  board_ram = c.in_ok-board.ensures.ram;
  board_size = ap (λ (b : BoardState). built b.world.devices) c.in_ok-board.ensures.made;
  untyped = c.nothing_typed.ensures;
}
