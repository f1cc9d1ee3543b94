use Rattle.mb_step.proofs.Entries.{trap_unchecked}
use Rattle.mb_step.proofs.raising.raise_trap.Goals as goal

pub returns-in-Faulted-clause-means : goal.returns-in-Faulted-clause-means
returns-in-Faulted-clause-means g c =
    trap_unchecked g.P.Port.bus c.args.vector c.args.cpu.now c.enter.new.cpu c.exchange.new.regs c.set_plain.new.self c.args.plain.now c.exchange.new.plain
    c.cause_at.result c.in-Faulted.fault (g.P.Port.world c.args.port.now) (g.P.Port.world c.enter.new.port)
    ((c.unchecked.result, c.unchecked.new.cpu), g.P.Port.world c.unchecked.new.port)
    c.exchange.ensures.now c.exchange.ensures.before c.cause_at.ensures c.in-Faulted.ensures.means
    c.in-Faulted.ensures.others c.in-Faulted.ensures.registers c.set_plain.ensures c.unchecked.ensures.means
