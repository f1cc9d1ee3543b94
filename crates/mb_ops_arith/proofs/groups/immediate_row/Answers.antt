use Rattle.std.proofs.Common.{refl, ◌%◌}
use Rattle.mb_instr.specs.declared.operand.OperandClass.TheVariants.{Alterable, DataAlterable}
use Rattle.mb_instr.specs.Sizes.{size_bits}
use Rattle.mb_instr.specs.Shapes.{sized, is_quick}
use Rattle.mb_instr.proofs.Ranges.{at_ea_destination, immediate_ea_destination}
use Rattle.mb_instr.proofs.Ranges.{when_has, at_ea_range, immediate_ea_range}
use Rattle.mb_ops_arith.proofs.groups.immediate_row.Goals as goal
use Rattle.mb_ops_arith.proofs.Spelled.{spelled}

pub combine_immediate-requires-clause-operand : goal.combine_immediate-requires-clause-operand
combine_immediate-requires-clause-operand g c =
    (immediate_ea_range DataAlterable 0 3 0 c.in-Addi.size c.in-Addi.immediate c.in-Addi.ea (spelled c.in-Addi.is c.requires.row)).1

pub combine_immediate-requires-clause-destination : goal.combine_immediate-requires-clause-destination
combine_immediate-requires-clause-destination g c =
    immediate_ea_destination DataAlterable 0 3 0 c.in-Addi.size c.in-Addi.immediate c.in-Addi.ea refl (spelled c.in-Addi.is c.requires.row)

pub combine_immediate-requires-in-Subi-clause-operand : goal.combine_immediate-requires-in-Subi-clause-operand
combine_immediate-requires-in-Subi-clause-operand g c =
    (immediate_ea_range DataAlterable 0 2 0 c.in-Subi.size c.in-Subi.immediate c.in-Subi.ea (spelled c.in-Subi.is c.requires.row)).1

pub combine_immediate-requires-in-Subi-clause-destination : goal.combine_immediate-requires-in-Subi-clause-destination
combine_immediate-requires-in-Subi-clause-destination g c =
    immediate_ea_destination DataAlterable 0 2 0 c.in-Subi.size c.in-Subi.immediate c.in-Subi.ea refl (spelled c.in-Subi.is c.requires.row)

pub combine_immediate-requires-in-Andi-clause-operand : goal.combine_immediate-requires-in-Andi-clause-operand
combine_immediate-requires-in-Andi-clause-operand g c =
    (immediate_ea_range DataAlterable 0 1 0 c.in-Andi.size c.in-Andi.immediate c.in-Andi.ea (spelled c.in-Andi.is c.requires.row)).1

pub combine_immediate-requires-in-Andi-clause-destination : goal.combine_immediate-requires-in-Andi-clause-destination
combine_immediate-requires-in-Andi-clause-destination g c =
    immediate_ea_destination DataAlterable 0 1 0 c.in-Andi.size c.in-Andi.immediate c.in-Andi.ea refl (spelled c.in-Andi.is c.requires.row)

pub combine_immediate-requires-in-Ori-clause-operand : goal.combine_immediate-requires-in-Ori-clause-operand
combine_immediate-requires-in-Ori-clause-operand g c =
    (immediate_ea_range DataAlterable 0 0 0 c.in-Ori.size c.in-Ori.immediate c.in-Ori.ea (spelled c.in-Ori.is c.requires.row)).1

pub combine_immediate-requires-in-Ori-clause-destination : goal.combine_immediate-requires-in-Ori-clause-destination
combine_immediate-requires-in-Ori-clause-destination g c =
    immediate_ea_destination DataAlterable 0 0 0 c.in-Ori.size c.in-Ori.immediate c.in-Ori.ea refl (spelled c.in-Ori.is c.requires.row)

pub combine_immediate-requires-in-Eori-clause-operand : goal.combine_immediate-requires-in-Eori-clause-operand
combine_immediate-requires-in-Eori-clause-operand g c =
    (immediate_ea_range DataAlterable 0 5 0 c.in-Eori.size c.in-Eori.immediate c.in-Eori.ea (spelled c.in-Eori.is c.requires.row)).1

pub combine_immediate-requires-in-Eori-clause-destination : goal.combine_immediate-requires-in-Eori-clause-destination
combine_immediate-requires-in-Eori-clause-destination g c =
    immediate_ea_destination DataAlterable 0 5 0 c.in-Eori.size c.in-Eori.immediate c.in-Eori.ea refl (spelled c.in-Eori.is c.requires.row)

pub combine_quick-requires-clause-operand : goal.combine_quick-requires-clause-operand
combine_quick-requires-clause-operand g c =
    let has = when_has (is_quick c.in-Addq.quick) (sized Alterable 5 (c.in-Addq.quick % 8) 0 c.in-Addq.size c.in-Addq.ea)
    (spelled c.in-Addq.is c.requires.row) in
    at_ea_range Alterable c.in-Addq.size 5 (c.in-Addq.quick % 8) 0 (size_bits c.in-Addq.size) c.in-Addq.ea has.1

pub combine_quick-requires-clause-destination : goal.combine_quick-requires-clause-destination
combine_quick-requires-clause-destination g c =
    let has = when_has (is_quick c.in-Addq.quick) (sized Alterable 5 (c.in-Addq.quick % 8) 0 c.in-Addq.size c.in-Addq.ea)
    (spelled c.in-Addq.is c.requires.row) in
    at_ea_destination Alterable c.in-Addq.size 5 (c.in-Addq.quick % 8) 0 (size_bits c.in-Addq.size) c.in-Addq.ea refl has.1

pub combine_quick-requires-in-Subq-clause-operand : goal.combine_quick-requires-in-Subq-clause-operand
combine_quick-requires-in-Subq-clause-operand g c =
    let has = when_has (is_quick c.in-Subq.quick) (sized Alterable 5 (c.in-Subq.quick % 8) 1 c.in-Subq.size c.in-Subq.ea)
    (spelled c.in-Subq.is c.requires.row) in
    at_ea_range Alterable c.in-Subq.size 5 (c.in-Subq.quick % 8) 1 (size_bits c.in-Subq.size) c.in-Subq.ea has.1

pub combine_quick-requires-in-Subq-clause-destination : goal.combine_quick-requires-in-Subq-clause-destination
combine_quick-requires-in-Subq-clause-destination g c =
    let has = when_has (is_quick c.in-Subq.quick) (sized Alterable 5 (c.in-Subq.quick % 8) 1 c.in-Subq.size c.in-Subq.ea)
    (spelled c.in-Subq.is c.requires.row) in
    at_ea_destination Alterable c.in-Subq.size 5 (c.in-Subq.quick % 8) 1 (size_bits c.in-Subq.size) c.in-Subq.ea refl has.1
