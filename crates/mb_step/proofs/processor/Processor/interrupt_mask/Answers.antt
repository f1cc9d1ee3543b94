use Rattle.std.proofs.Common.{◌∙◌, ap}
use Rattle.def_processor.specs.Step.{interrupt_mask}
use Rattle.mb_model.specs.declared.processor.Cpu.{Cpu}
use Rattle.mb_step.proofs.Registers.{mask_same}
use Rattle.mb_step.proofs.processor.Processor.interrupt_mask.Goals as goal

pub returns : goal.returns
returns c =
    c.interrupt_mask.ensures ∙ mask_same c.self.inside.plain c.self.inside.cpu ∙ ap (λ (q : Cpu). interrupt_mask q) c.self.view_is
