use Rattle.mb_instr.specs.declared.operand.OperandClass.TheVariants.{All, Data}
use Rattle.mb_instr.specs.declared.rule.WordRule.TheVariants as rule
use Rattle.mb_instr.specs.declared.size.Size.TheVariants.{Word, Long}
use Rattle.mb_instr.specs.Kinds.{flag}
use Rattle.mb_instr.specs.Sizes.{long_bit, not_byte}
use Rattle.mb_instr.specs.Shapes.{at_ea}
use Rattle.mb_instr.proofs.Ranges.{when_has, at_ea_range, word_ea_range}
use Rattle.mb_ops_arith.proofs.groups.register_result_row.Goals as goal
use Rattle.mb_ops_arith.proofs.Spelled.{spelled}

pub take-requires-clause-operand : goal.take-requires-clause-operand
take-requires-clause-operand g c =
    let has = when_has (not_byte c.in-Adda.size) (at_ea All c.in-Adda.size 13 c.in-Adda.register (long_bit c.in-Adda.size) 3 c.in-Adda.ea)
    (spelled c.in-Adda.is c.requires.row) in
    at_ea_range All c.in-Adda.size 13 c.in-Adda.register (long_bit c.in-Adda.size) 3 c.in-Adda.ea has.1

pub take-requires-in-Suba-clause-operand : goal.take-requires-in-Suba-clause-operand
take-requires-in-Suba-clause-operand g c =
    let has = when_has (not_byte c.in-Suba.size) (at_ea All c.in-Suba.size 9 c.in-Suba.register (long_bit c.in-Suba.size) 3 c.in-Suba.ea)
    (spelled c.in-Suba.is c.requires.row) in
    at_ea_range All c.in-Suba.size 9 c.in-Suba.register (long_bit c.in-Suba.size) 3 c.in-Suba.ea has.1

pub take-requires-in-MulW-clause-operand : goal.take-requires-in-MulW-clause-operand
take-requires-in-MulW-clause-operand g c =
    at_ea_range Data Word 12 c.in-MulW.register (flag c.in-MulW.is_signed) 3 c.in-MulW.ea (spelled c.in-MulW.is c.requires.row)

pub take-requires-in-MulL-clause-operand : goal.take-requires-in-MulL-clause-operand
take-requires-in-MulL-clause-operand g c =
    (word_ea_range rule.LongPair Data Long 4 6 0 0 c.in-MulL.word c.in-MulL.ea (spelled c.in-MulL.is c.requires.row)).2

pub take-requires-in-DivW-clause-operand : goal.take-requires-in-DivW-clause-operand
take-requires-in-DivW-clause-operand g c =
    at_ea_range Data Word 8 c.in-DivW.register (flag c.in-DivW.is_signed) 3 c.in-DivW.ea (spelled c.in-DivW.is c.requires.row)

pub take-requires-in-DivL-clause-operand : goal.take-requires-in-DivL-clause-operand
take-requires-in-DivL-clause-operand g c =
    (word_ea_range rule.LongPair Data Long 4 6 0 1 c.in-DivL.word c.in-DivL.ea (spelled c.in-DivL.is c.requires.row)).2
