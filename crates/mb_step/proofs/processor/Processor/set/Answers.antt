use Rattle.std.proofs.Common.{rules}
use Rattle.mb_step.proofs.Registers.{five_bits, registers_same}
use Rattle.mb_step.proofs.processor.Processor.set.Goals as goal

pub invariant_of-self : goal.invariant_of-self
invariant_of-self c = five_bits c.plain-self-inside.result c.args.cpu.now.regs c.plain-self-inside.ensures

pub returns : goal.returns
returns c = registers_same c.plain-self-inside.result c.args.cpu.now c.plain-self-inside.ensures (search rules)
