use Rattle.std.proofs.Common.{ℕ, ap}
use Rattle.std.specs.Borrow.{GName}
use Rattle.mb_model.specs.Keeping.{rule_a}
use Rattle.def_machine.specs.Bus.{writing_of}
use Rattle.mb_board.proofs.AtOnce.{as_long, written_at_once}
use Rattle.mb_board.proofs.calm_bus.CalmBusPort.quick_write.Goals as goal

pub returns-clause-done : goal.returns-clause-done
returns-clause-done g c =
    λ done. written_at_once rule_a c.args.self.now.bus.now c.set_number.new.self c.writing.result (writing_of c.args.space c.args.piece.at) c.in-Some.at
    c.args.piece.len c.args.value c.writing.ensures c.in-Some.ensures.leads c.in-Some.ensures.inside c.set_number.ensures.bytes
    c.set_number.ensures.rest

pub returns-clause-rest : goal.returns-clause-rest
returns-clause-rest g c =
    ap (λ (n : ℕ). (let held : GName × ℕ = (c.args.self.now.bus.ghost_name, n) in held))
    (as_long c.args.self.now.bus.now.ram c.set_number.new.self.ram c.in-Some.at c.args.piece.len c.args.value c.in-Some.ensures.inside
    c.set_number.ensures.bytes)
