use Rattle.std.proofs.Common.{subst}
use Rattle.mb_instr.specs.declared.instruction.Flow.{Flow}
use Rattle.mb_instr.specs.declared.instruction.Instr.TheVariants as instr
use Rattle.mb_instr.specs.declared.size.Size.TheVariants.{Long}
use Rattle.mb_instr.specs.declared.operand.OperandClass.TheVariants.{Data, Control}
use Rattle.mb_instr.specs.declared.rule.WordRule.TheVariants as rule
use Rattle.mb_instr.specs.Sizes.{size_bits, chk_bits, not_byte}
use Rattle.mb_instr.specs.Shapes.{at_ea}
use Rattle.mb_instr.specs.Codes.{IsInstr}
use Rattle.mb_instr.proofs.Ranges.{when_has, at_ea_range, word_ea_range, at_ea_memory, word_ea_memory, control_memory}
use Rattle.mb_ops_flow.proofs.performing.carry_out.Goals as goal

pub chk-requires-clause-operand : goal.chk-requires-clause-operand
chk-requires-clause-operand g c =
    let d = c.in-Chk.register in
    let size = c.in-Chk.size in
    let ea = c.in-Chk.ea in
    let has = when_has (not_byte size) (at_ea Data size 4 d 1 (chk_bits size) ea) (subst (λ (i : Flow). IsInstr (instr.Flow i)) c.in-Chk.is c.requires) in
    at_ea_range Data size 4 d 1 (chk_bits size) ea has.1

pub chk2-requires-clause-operand : goal.chk2-requires-clause-operand
chk2-requires-clause-operand g c =
    let size = c.in-Chk2.size in
    let ea = c.in-Chk2.ea in
    (word_ea_range rule.Check Control size 0 (size_bits size) 0 3 c.in-Chk2.word ea (subst (λ (i : Flow). IsInstr (instr.Flow i)) c.in-Chk2.is c.requires)).2

pub chk2-requires-clause-place : goal.chk2-requires-clause-place
chk2-requires-clause-place g c =
    let size = c.in-Chk2.size in
    let ea = c.in-Chk2.ea in
    word_ea_memory rule.Check Control size 0 (size_bits size) 0 3 c.in-Chk2.word ea (control_memory size)
    (subst (λ (i : Flow). IsInstr (instr.Flow i)) c.in-Chk2.is c.requires)

pub jmp-requires-clause-operand : goal.jmp-requires-clause-operand
jmp-requires-clause-operand g c =
    at_ea_range Control Long 4 7 0 3 c.in-Jmp.ea (subst (λ (i : Flow). IsInstr (instr.Flow i)) c.in-Jmp.is c.requires)

pub jmp-requires-clause-place : goal.jmp-requires-clause-place
jmp-requires-clause-place g c =
    at_ea_memory Control Long 4 7 0 3 c.in-Jmp.ea (control_memory Long) (subst (λ (i : Flow). IsInstr (instr.Flow i)) c.in-Jmp.is c.requires)

pub jsr-requires-clause-operand : goal.jsr-requires-clause-operand
jsr-requires-clause-operand g c =
    at_ea_range Control Long 4 7 0 2 c.in-Jsr.ea (subst (λ (i : Flow). IsInstr (instr.Flow i)) c.in-Jsr.is c.requires)

pub jsr-requires-clause-place : goal.jsr-requires-clause-place
jsr-requires-clause-place g c =
    at_ea_memory Control Long 4 7 0 2 c.in-Jsr.ea (control_memory Long) (subst (λ (i : Flow). IsInstr (instr.Flow i)) c.in-Jsr.is c.requires)
