-- What a step that is carried out at once leaves alone of a processor.
use Rattle.std.specs.Prelude.{◌≡◌, Bool}
use Rattle.mb_model.specs.declared.processor.Cpu.{Cpu}
use Rattle.mb_model.specs.Status.{space_of}
use Rattle.def_processor.specs.Raise.{is_due}

-- whether STOP holds it, the traces that are due, and the space of its accesses
pub record KeepsMode (before after : Cpu) : Type 0 where
  pub stopped : after.stopped ≡ before.stopped
  pub due : (flow : Bool) → is_due after.regs.sr flow ≡ is_due before.regs.sr flow
  pub space : space_of after ≡ space_of before
