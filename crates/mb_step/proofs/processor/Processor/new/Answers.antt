use Rattle.std.proofs.Common.{rules}
use Rattle.mb_step.proofs.Registers.{five_bits, registers_same}
use Rattle.mb_step.proofs.processor.Processor.new.Goals as goal

pub invariant_of-result : goal.invariant_of-result
invariant_of-result c = five_bits c.plain-plain.result c.args.cpu.now.regs c.plain-plain.ensures

pub returns : goal.returns
returns c = registers_same c.plain-plain.result c.args.cpu.now c.plain-plain.ensures (search rules)
