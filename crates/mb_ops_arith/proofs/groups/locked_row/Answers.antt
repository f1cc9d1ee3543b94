use Rattle.std.proofs.Common.{◌+◌}
use Rattle.mb_instr.specs.declared.operand.OperandClass.TheVariants.{DataAlterable, MemoryAlterable}
use Rattle.mb_instr.specs.declared.rule.WordRule.TheVariants as rule
use Rattle.mb_instr.specs.declared.size.Size.TheVariants.{Byte}
use Rattle.mb_instr.specs.Sizes.{size_bits}
use Rattle.mb_instr.proofs.Ranges.{at_ea_range, word_ea_range, at_ea_data, word_ea_memory}
use Rattle.mb_instr.proofs.Ranges.{alterable_memory, alterable_data}
use Rattle.mb_ops_arith.proofs.groups.locked_row.Goals as goal
use Rattle.mb_ops_arith.proofs.Spelled.{spelled}

pub tas-requires-clause-operand : goal.tas-requires-clause-operand
tas-requires-clause-operand g c =
    at_ea_range DataAlterable Byte 4 5 0 3 c.in-Tas.ea (spelled c.in-Tas.is c.requires.row)

pub tas-requires-clause-place : goal.tas-requires-clause-place
tas-requires-clause-place g c =
    at_ea_data DataAlterable Byte 4 5 0 3 c.in-Tas.ea (alterable_data Byte) (spelled c.in-Tas.is c.requires.row)

pub cas-requires-clause-place : goal.cas-requires-clause-place
cas-requires-clause-place g c =
    let size = c.in-Cas.size in
    let has = spelled c.in-Cas.is c.requires.row in
    word_ea_memory rule.Swap MemoryAlterable size 0 (5 + size_bits size) 0 3 c.in-Cas.word c.in-Cas.ea (alterable_memory size) has

pub cas-requires-clause-operand : goal.cas-requires-clause-operand
cas-requires-clause-operand g c =
    let size = c.in-Cas.size in
    let ea = c.in-Cas.ea in
    let word = c.in-Cas.word in
    let has = spelled c.in-Cas.is c.requires.row in
    (word_ea_range rule.Swap MemoryAlterable size 0 (5 + size_bits size) 0 3 word ea has).2
