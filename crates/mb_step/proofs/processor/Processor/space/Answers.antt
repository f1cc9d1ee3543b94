use Rattle.std.proofs.Common.{◌∙◌, ap}
use Rattle.mb_model.specs.Status.{space_of}
use Rattle.mb_model.specs.declared.processor.Cpu.{Cpu}
use Rattle.mb_step.proofs.Registers.{same_space}
use Rattle.mb_step.proofs.processor.Processor.space.Goals as goal

pub returns : goal.returns
returns c = c.space.ensures ∙ same_space c.self.inside.plain c.self.inside.cpu ∙ ap (λ (q : Cpu). space_of q) c.self.view_is
