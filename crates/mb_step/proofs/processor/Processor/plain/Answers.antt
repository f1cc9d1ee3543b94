use Rattle.std.proofs.Common.{◌∙◌, ap, sym}
use Rattle.mb_instr.specs.Registers.{plain_of}
use Rattle.mb_model.specs.declared.processor.Cpu.{Cpu}
use Rattle.mb_step.proofs.Registers.{plain_again}
use Rattle.mb_step.proofs.processor.Processor.plain.Goals as goal

pub returns : goal.returns
returns c =
    c.in_whole.ensures.same ∙ sym (plain_again c.self.inside.plain c.self.inside.cpu c.in_whole.ensures.eight c.self.invariant)
    ∙ ap (λ (q : Cpu). plain_of q.regs) c.self.view_is
