use Rattle.std.proofs.Common.{◌∙◌, ap}
use Rattle.mb_instr.specs.Registers.{plain_of}
use Rattle.def_machine.specs.Machine.{Machine}
use Rattle.mb_board.proofs.board.Core.enter.Goals as goal

pub returns-clause-ends : goal.returns-clause-ends
returns-clause-ends c = λ p native begun steps begins.
    let now = c.plain-2.ensures ∙ ap (λ (m : Machine). plain_of m.cpu.regs) c.self.view_is in
    c.with_end.ensures p (plain_of c.args.self.now.cpu.regs) native begun steps begins (rw now at c.spelling.ensures)
