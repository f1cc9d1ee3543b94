use Rattle.std.proofs.Common.{refl}
use Rattle.mb_instr.specs.declared.operand.OperandClass.TheVariants.{DataAlterable, MemoryAlterable}
use Rattle.mb_instr.specs.declared.size.Size.TheVariants.{Word, Byte}
use Rattle.mb_instr.specs.Kinds.{flag, shift_bits}
use Rattle.mb_instr.specs.Sizes.{size_bits}
use Rattle.mb_instr.proofs.Ranges.{at_ea_destination}
use Rattle.mb_instr.proofs.Ranges.{at_ea_range}
use Rattle.mb_ops_arith.proofs.groups.single_row.Goals as goal
use Rattle.mb_ops_arith.proofs.Spelled.{spelled}

pub modify-requires-clause-operand : goal.modify-requires-clause-operand
modify-requires-clause-operand g c =
    at_ea_range DataAlterable c.in-Neg.size 4 2 0 (size_bits c.in-Neg.size) c.in-Neg.ea (spelled c.in-Neg.is c.requires.row)

pub modify-requires-clause-destination : goal.modify-requires-clause-destination
modify-requires-clause-destination g c =
    at_ea_destination DataAlterable c.in-Neg.size 4 2 0 (size_bits c.in-Neg.size) c.in-Neg.ea refl (spelled c.in-Neg.is c.requires.row)

pub modify-requires-in-Negx-clause-operand : goal.modify-requires-in-Negx-clause-operand
modify-requires-in-Negx-clause-operand g c =
    at_ea_range DataAlterable c.in-Negx.size 4 0 0 (size_bits c.in-Negx.size) c.in-Negx.ea (spelled c.in-Negx.is c.requires.row)

pub modify-requires-in-Negx-clause-destination : goal.modify-requires-in-Negx-clause-destination
modify-requires-in-Negx-clause-destination g c =
    at_ea_destination DataAlterable c.in-Negx.size 4 0 0 (size_bits c.in-Negx.size) c.in-Negx.ea refl (spelled c.in-Negx.is c.requires.row)

pub modify-requires-in-Not-clause-operand : goal.modify-requires-in-Not-clause-operand
modify-requires-in-Not-clause-operand g c =
    at_ea_range DataAlterable c.in-Not.size 4 3 0 (size_bits c.in-Not.size) c.in-Not.ea (spelled c.in-Not.is c.requires.row)

pub modify-requires-in-Not-clause-destination : goal.modify-requires-in-Not-clause-destination
modify-requires-in-Not-clause-destination g c =
    at_ea_destination DataAlterable c.in-Not.size 4 3 0 (size_bits c.in-Not.size) c.in-Not.ea refl (spelled c.in-Not.is c.requires.row)

pub clr-requires-clause-operand : goal.clr-requires-clause-operand
clr-requires-clause-operand g c =
    at_ea_range DataAlterable c.in-Clr.size 4 1 0 (size_bits c.in-Clr.size) c.in-Clr.ea (spelled c.in-Clr.is c.requires.row)

pub clr-requires-clause-destination : goal.clr-requires-clause-destination
clr-requires-clause-destination g c =
    at_ea_destination DataAlterable c.in-Clr.size 4 1 0 (size_bits c.in-Clr.size) c.in-Clr.ea refl (spelled c.in-Clr.is c.requires.row)

pub modify-requires-in-ShiftMem-clause-operand : goal.modify-requires-in-ShiftMem-clause-operand
modify-requires-in-ShiftMem-clause-operand g c =
    at_ea_range MemoryAlterable Word 14 (shift_bits c.in-ShiftMem.kind) (flag c.in-ShiftMem.is_left) 3 c.in-ShiftMem.ea
    (spelled c.in-ShiftMem.is c.requires.row)

pub modify-requires-in-ShiftMem-clause-destination : goal.modify-requires-in-ShiftMem-clause-destination
modify-requires-in-ShiftMem-clause-destination g c =
    at_ea_destination MemoryAlterable Word 14 (shift_bits c.in-ShiftMem.kind) (flag c.in-ShiftMem.is_left) 3 c.in-ShiftMem.ea refl
    (spelled c.in-ShiftMem.is c.requires.row)

pub modify-requires-in-Nbcd-clause-operand : goal.modify-requires-in-Nbcd-clause-operand
modify-requires-in-Nbcd-clause-operand g c =
    at_ea_range DataAlterable Byte 4 4 0 0 c.in-Nbcd.ea (spelled c.in-Nbcd.is c.requires.row)

pub modify-requires-in-Nbcd-clause-destination : goal.modify-requires-in-Nbcd-clause-destination
modify-requires-in-Nbcd-clause-destination g c =
    at_ea_destination DataAlterable Byte 4 4 0 0 c.in-Nbcd.ea refl (spelled c.in-Nbcd.is c.requires.row)
