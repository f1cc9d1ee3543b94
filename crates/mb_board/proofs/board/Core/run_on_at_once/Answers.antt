use Rattle.std.proofs.Common.{◌∙◌, ap}
use Rattle.mb_instr.specs.Registers.{plain_of}
use Rattle.def_machine.specs.Machine.{Machine}
use Rattle.mb_board.proofs.board.Core.run_on_at_once.Goals as goal

pub returns-clause-ends : goal.returns-clause-ends
returns-clause-ends c = λ is native begun steps begins.
    let then = c.plain.ensures ∙ ap (λ (m : Machine). plain_of m.cpu.regs) c.self.view_is in
    c.with_end.ensures (plain_of c.args.self.now.cpu.regs) (plain_of c.step_at_once.new.self.cpu.regs) native begun steps begins
    (rw then at c.spelling.ensures)
