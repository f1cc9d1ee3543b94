use Rattle.mb_model.specs.Keeping.{rule_a}
use Rattle.def_machine.specs.Bus.{writing_of}
use Rattle.mb_board.proofs.AtOnce.{checked_at_once}
use Rattle.mb_board.proofs.bus_port.BoardBusPort.probe.Goals as goal

pub returns-in-Some-clause-means : goal.returns-in-Some-clause-means
returns-in-Some-clause-means c =
    checked_at_once rule_a c.args.self.now c.writing-r.result (writing_of c.args.space c.args.piece.at) c.in-Some.at c.args.piece.len
    c.writing-r.ensures c.in-Some.ensures.leads c.in-Some.ensures.inside
