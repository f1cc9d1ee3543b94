use Rattle.mb_model.specs.Keeping.{rule_a}
use Rattle.def_machine.specs.Bus.{fetching_of}
use Rattle.mb_board.proofs.AtOnce.{read_at_once}
use Rattle.mb_board.proofs.calm_bus.CalmBusPort.quick_fetch.Goals as goal

pub returns : goal.returns
returns g c =
    read_at_once rule_a c.args.self.now.bus.now c.fetching.result (fetching_of c.args.space c.args.at) c.in_ok-at.at 2 c.number.result
    c.fetching.ensures c.in_ok-at.ensures.leads c.in_ok-at.ensures.inside c.number.ensures.value
