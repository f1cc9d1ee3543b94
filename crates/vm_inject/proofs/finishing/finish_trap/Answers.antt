use Rattle.std.proofs.Common.{◌∙◌, ap, sym}
use Rattle.def_processor.specs.declared.StepEnd.{StepEnd}
use Rattle.def_processor.specs.Raise.{by_its_end}
use Rattle.vm_inject.proofs.Traps.{trap_unchecked}
use Rattle.vm_inject.proofs.finishing.finish_trap.Goals as goal

pub returns-in-Faulted-clause-means : goal.returns-in-Faulted-clause-means
returns-in-Faulted-clause-means g c =
    let t = g.P.Port.world c.unchecked.new.port in
    ap by_its_end (trap_unchecked g.P.Port.bus c.args.cause.now c.args.before.now c.args.cpu.now c.enter.new.cpu c.set_plain.new.self
    c.in-Faulted.fault (g.P.Port.world c.args.port.now) (g.P.Port.world c.enter.new.port) ((c.unchecked.result, c.unchecked.new.cpu), t)
    c.in-Faulted.ensures.means c.in-Faulted.ensures.others c.in-Faulted.ensures.registers c.set_plain.ensures c.unchecked.ensures.means)
    ∙ ap (λ (end : StepEnd). ((end, c.unchecked.new.cpu), t)) (sym c.step_end.ensures)
