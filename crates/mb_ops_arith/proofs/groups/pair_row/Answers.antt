use Rattle.std.proofs.Common.{refl}
use Rattle.mb_instr.specs.declared.operand.OperandClass.TheVariants.{All, Data, DataAlterable}
use Rattle.mb_instr.specs.Kinds.{flag, side}
use Rattle.mb_instr.specs.Sizes.{size_bits}
use Rattle.mb_instr.proofs.Ranges.{at_ea_destination}
use Rattle.mb_instr.proofs.Ranges.{at_ea_range}
use Rattle.mb_ops_arith.proofs.groups.pair_row.Goals as goal
use Rattle.mb_ops_arith.proofs.Spelled.{spelled}

pub combine_either_way-requires-clause-operand : goal.combine_either_way-requires-clause-operand
combine_either_way-requires-clause-operand g c =
    at_ea_range (side All c.in-Add.to_memory) c.in-Add.size 13 c.in-Add.register (flag c.in-Add.to_memory) (size_bits c.in-Add.size) c.in-Add.ea
    (spelled c.in-Add.is c.requires.row)

pub combine_either_way-requires-clause-destination : goal.combine_either_way-requires-clause-destination
combine_either_way-requires-clause-destination g c = λ e.
    at_ea_destination (side All c.in-Add.to_memory) c.in-Add.size 13 c.in-Add.register (flag c.in-Add.to_memory) (size_bits c.in-Add.size) c.in-Add.ea
    (rw e refl) (spelled c.in-Add.is c.requires.row)

pub combine_either_way-requires-in-Sub-clause-operand : goal.combine_either_way-requires-in-Sub-clause-operand
combine_either_way-requires-in-Sub-clause-operand g c =
    at_ea_range (side All c.in-Sub.to_memory) c.in-Sub.size 9 c.in-Sub.register (flag c.in-Sub.to_memory) (size_bits c.in-Sub.size) c.in-Sub.ea
    (spelled c.in-Sub.is c.requires.row)

pub combine_either_way-requires-in-Sub-clause-destination : goal.combine_either_way-requires-in-Sub-clause-destination
combine_either_way-requires-in-Sub-clause-destination g c = λ e.
    at_ea_destination (side All c.in-Sub.to_memory) c.in-Sub.size 9 c.in-Sub.register (flag c.in-Sub.to_memory) (size_bits c.in-Sub.size) c.in-Sub.ea
    (rw e refl) (spelled c.in-Sub.is c.requires.row)

pub combine_either_way-requires-in-And-clause-operand : goal.combine_either_way-requires-in-And-clause-operand
combine_either_way-requires-in-And-clause-operand g c =
    at_ea_range (side Data c.in-And.to_memory) c.in-And.size 12 c.in-And.register (flag c.in-And.to_memory) (size_bits c.in-And.size) c.in-And.ea
    (spelled c.in-And.is c.requires.row)

pub combine_either_way-requires-in-And-clause-destination : goal.combine_either_way-requires-in-And-clause-destination
combine_either_way-requires-in-And-clause-destination g c = λ e.
    at_ea_destination (side Data c.in-And.to_memory) c.in-And.size 12 c.in-And.register (flag c.in-And.to_memory) (size_bits c.in-And.size) c.in-And.ea
    (rw e refl) (spelled c.in-And.is c.requires.row)

pub combine_either_way-requires-in-Or-clause-operand : goal.combine_either_way-requires-in-Or-clause-operand
combine_either_way-requires-in-Or-clause-operand g c =
    at_ea_range (side Data c.in-Or.to_memory) c.in-Or.size 8 c.in-Or.register (flag c.in-Or.to_memory) (size_bits c.in-Or.size) c.in-Or.ea
    (spelled c.in-Or.is c.requires.row)

pub combine_either_way-requires-in-Or-clause-destination : goal.combine_either_way-requires-in-Or-clause-destination
combine_either_way-requires-in-Or-clause-destination g c = λ e.
    at_ea_destination (side Data c.in-Or.to_memory) c.in-Or.size 8 c.in-Or.register (flag c.in-Or.to_memory) (size_bits c.in-Or.size) c.in-Or.ea
    (rw e refl) (spelled c.in-Or.is c.requires.row)

pub combine_either_way-requires-in-Eor-clause-operand : goal.combine_either_way-requires-in-Eor-clause-operand
combine_either_way-requires-in-Eor-clause-operand g c =
    at_ea_range DataAlterable c.in-Eor.size 11 c.in-Eor.register 1 (size_bits c.in-Eor.size) c.in-Eor.ea (spelled c.in-Eor.is c.requires.row)

pub combine_either_way-requires-in-Eor-clause-destination : goal.combine_either_way-requires-in-Eor-clause-destination
combine_either_way-requires-in-Eor-clause-destination g c = λ e.
    at_ea_destination DataAlterable c.in-Eor.size 11 c.in-Eor.register 1 (size_bits c.in-Eor.size) c.in-Eor.ea refl (spelled c.in-Eor.is c.requires.row)
