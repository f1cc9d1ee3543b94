use Rattle.mb_instr.specs.declared.operand.OperandClass.TheVariants.{All, DataAlterableOrPc, Control}
use Rattle.mb_instr.specs.declared.rule.WordRule.TheVariants as rule
use Rattle.mb_instr.specs.Sizes.{size_bits, long_bit, not_byte}
use Rattle.mb_instr.specs.Shapes.{at_ea}
use Rattle.mb_instr.proofs.Ranges.{when_has, at_ea_range, word_ea_range, immediate_ea_range, word_ea_memory}
use Rattle.mb_instr.proofs.Ranges.{control_memory}
use Rattle.mb_ops_arith.proofs.groups.comparison_row.Goals as goal
use Rattle.mb_ops_arith.proofs.Spelled.{spelled}

pub compare_with_register-requires-clause-operand : goal.compare_with_register-requires-clause-operand
compare_with_register-requires-clause-operand g c =
    at_ea_range All c.in-Cmp.size 11 c.in-Cmp.register 0 (size_bits c.in-Cmp.size) c.in-Cmp.ea (spelled c.in-Cmp.is c.requires.row)

pub compare_immediate-requires-clause-operand : goal.compare_immediate-requires-clause-operand
compare_immediate-requires-clause-operand g c =
    (immediate_ea_range DataAlterableOrPc 0 6 0 c.in-Cmpi.size c.in-Cmpi.immediate c.in-Cmpi.ea (spelled c.in-Cmpi.is c.requires.row)).1

pub cmp2-requires-clause-place : goal.cmp2-requires-clause-place
cmp2-requires-clause-place g c =
    let size = c.in-Cmp2.size in
    word_ea_memory rule.Compare Control size 0 (size_bits size) 0 3 c.in-Cmp2.word c.in-Cmp2.ea (control_memory size)
    (spelled c.in-Cmp2.is c.requires.row)

pub cmp2-requires-clause-operand : goal.cmp2-requires-clause-operand
cmp2-requires-clause-operand g c =
    let size = c.in-Cmp2.size in
    let ea = c.in-Cmp2.ea in
    (word_ea_range rule.Compare Control size 0 (size_bits size) 0 3 c.in-Cmp2.word ea
    (spelled c.in-Cmp2.is c.requires.row)).2

pub take-requires-clause-operand : goal.take-requires-clause-operand
take-requires-clause-operand g c =
    let has = when_has (not_byte c.in-Cmpa.size) (at_ea All c.in-Cmpa.size 11 c.in-Cmpa.register (long_bit c.in-Cmpa.size) 3 c.in-Cmpa.ea)
    (spelled c.in-Cmpa.is c.requires.row) in
    at_ea_range All c.in-Cmpa.size 11 c.in-Cmpa.register (long_bit c.in-Cmpa.size) 3 c.in-Cmpa.ea has.1

pub take-requires-in-Tst-clause-operand : goal.take-requires-in-Tst-clause-operand
take-requires-in-Tst-clause-operand g c =
    at_ea_range All c.in-Tst.size 4 5 0 (size_bits c.in-Tst.size) c.in-Tst.ea (spelled c.in-Tst.is c.requires.row)
