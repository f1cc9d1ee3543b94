use Rattle.mb_model.specs.Keeping.{rule_a}
use Rattle.def_machine.specs.Bus.{reading_of}
use Rattle.mb_board.proofs.AtOnce.{read_at_once}
use Rattle.mb_board.proofs.calm_bus.CalmBusPort.quick_read.Goals as goal

pub returns : goal.returns
returns g c =
    read_at_once rule_a c.args.self.now.bus.now c.reading.result (reading_of c.args.space c.args.piece.at) c.in_ok-at.at c.args.piece.len c.number.result
    c.reading.ensures c.in_ok-at.ensures.leads c.in_ok-at.ensures.inside c.number.ensures.value
