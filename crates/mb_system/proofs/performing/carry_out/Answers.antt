use Rattle.std.proofs.Common.{subst, refl}
use Rattle.mb_instr.specs.declared.instruction.System.{System}
use Rattle.mb_instr.specs.declared.instruction.Instr.TheVariants as instr
use Rattle.mb_instr.specs.declared.size.Size.TheVariants.{Word}
use Rattle.mb_instr.specs.declared.operand.OperandClass.TheVariants.{Data, DataAlterable, MemoryAlterable}
use Rattle.mb_instr.specs.declared.rule.WordRule.TheVariants as rule
use Rattle.mb_instr.specs.Sizes.{size_bits}
use Rattle.mb_instr.specs.Codes.{IsInstr}
use Rattle.mb_instr.proofs.Ranges.{at_ea_destination, word_ea_destination}
use Rattle.mb_instr.proofs.Ranges.{at_ea_range, word_ea_range, word_ea_memory, alterable_memory}
use Rattle.mb_system.proofs.performing.carry_out.Goals as goal

pub move_to_status-requires : goal.move_to_status-requires
move_to_status-requires g c =
    at_ea_range Data Word 4 3 0 3 c.in-ToSr.ea (subst (λ (i : System). IsInstr (instr.System i)) c.in-ToSr.is c.requires.row)

pub move_from_status-requires-clause-operand : goal.move_from_status-requires-clause-operand
move_from_status-requires-clause-operand g c =
    at_ea_range DataAlterable Word 4 0 0 3 c.in-FromSr.ea (subst (λ (i : System). IsInstr (instr.System i)) c.in-FromSr.is c.requires.row)

pub moves-requires-clause-place : goal.moves-requires-clause-place
moves-requires-clause-place g c =
    let size = c.in-Moves.size in
    word_ea_memory rule.RegisterAndBit MemoryAlterable size 0 7 0 (size_bits size) c.in-Moves.word c.in-Moves.ea (alterable_memory size)
    (subst (λ (i : System). IsInstr (instr.System i)) c.in-Moves.is c.requires.row)

pub moves-requires-clause-operand : goal.moves-requires-clause-operand
moves-requires-clause-operand g c =
    let size = c.in-Moves.size in
    let ea = c.in-Moves.ea in
    (word_ea_range rule.RegisterAndBit MemoryAlterable size 0 7 0 (size_bits size) c.in-Moves.word ea
    (subst (λ (i : System). IsInstr (instr.System i)) c.in-Moves.is c.requires.row)).2

pub move_from_status-requires-clause-destination : goal.move_from_status-requires-clause-destination
move_from_status-requires-clause-destination g c =
    at_ea_destination DataAlterable Word 4 0 0 3 c.in-FromSr.ea refl (subst (λ (i : System). IsInstr (instr.System i)) c.in-FromSr.is c.requires.row)

pub moves-requires-clause-destination : goal.moves-requires-clause-destination
moves-requires-clause-destination g c =
    let size = c.in-Moves.size in
    word_ea_destination rule.RegisterAndBit MemoryAlterable size 0 7 0 (size_bits size) c.in-Moves.word c.in-Moves.ea refl
    (subst (λ (i : System). IsInstr (instr.System i)) c.in-Moves.is c.requires.row)
