use Rattle.std.proofs.Common.{◌∙◌, ap}
use Rattle.mb_model.specs.declared.processor.Cpu.{Cpu}
use Rattle.mb_step.proofs.Registers.{same_counter}
use Rattle.mb_step.proofs.processor.Processor.pc.Goals as goal

pub returns : goal.returns
returns c = same_counter c.self.inside.plain c.self.inside.cpu ∙ ap (λ (q : Cpu). q.regs.pc) c.self.view_is
