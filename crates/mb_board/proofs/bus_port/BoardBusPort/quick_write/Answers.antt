use Rattle.mb_model.specs.Keeping.{rule_a}
use Rattle.def_machine.specs.Bus.{writing_of}
use Rattle.mb_board.proofs.AtOnce.{written_at_once}
use Rattle.mb_board.proofs.bus_port.BoardBusPort.quick_write.Goals as goal

pub returns-clause-done : goal.returns-clause-done
returns-clause-done c =
    λ done. written_at_once rule_a c.args.self.now c.set_number.new.self c.writing.result (writing_of c.args.space c.args.piece.at) c.in-Some.at
    c.args.piece.len c.args.value c.writing.ensures c.in-Some.ensures.leads c.in-Some.ensures.inside c.set_number.ensures.bytes c.set_number.ensures.rest
