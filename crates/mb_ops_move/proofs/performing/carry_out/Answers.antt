use Rattle.std.proofs.Common.{subst, refl, ◌+◌, ◌/◌, ◌%◌}
use Rattle.mb_instr.specs.declared.instruction.Move.{Move}
use Rattle.mb_instr.specs.declared.instruction.Instr.TheVariants as instr
use Rattle.mb_instr.specs.Codes.{IsInstr}
use Rattle.mb_instr.specs.declared.size.Size.TheVariants.{Byte, Word, Long}
use Rattle.mb_instr.specs.declared.operand.OperandClass.TheVariants.{All, Data, DataAlterable, Control, LoadList, StoreList}
use Rattle.mb_instr.specs.declared.rule.WordRule.TheVariants as rule
use Rattle.mb_instr.specs.Sizes.{move_bits, long_bit, not_byte}
use Rattle.mb_instr.specs.Kinds.{condition_bits}
use Rattle.mb_instr.specs.Shapes.{at_ea, word_ea}
use Rattle.mb_instr.proofs.Ranges.{at_ea_destination, move_destination}
use Rattle.mb_instr.proofs.Ranges.{move_range, when_has, at_ea_range, word_ea_range}
use Rattle.mb_instr.proofs.Ranges.{at_ea_memory, word_ea_memory, control_memory, load_memory, store_memory}
use Rattle.mb_ops_move.proofs.performing.carry_out.Goals as goal

pub move_operand-requires-clause-target : goal.move_operand-requires-clause-target
move_operand-requires-clause-target g c =
    (move_range c.in-Move.size c.in-Move.destination c.in-Move.source (subst (λ (i : Move). IsInstr (instr.Move i)) c.in-Move.is c.requires)).0

pub move_operand-requires-clause-source : goal.move_operand-requires-clause-source
move_operand-requires-clause-source g c =
    (move_range c.in-Move.size c.in-Move.destination c.in-Move.source (subst (λ (i : Move). IsInstr (instr.Move i)) c.in-Move.is c.requires)).1

pub movem-requires-clause-operand : goal.movem-requires-clause-operand
movem-requires-clause-operand g c =
    let size = c.in-MovemLoad.size in
    let mask = c.in-MovemLoad.mask in
    let ea = c.in-MovemLoad.ea in
    let has = when_has (not_byte size) (word_ea rule.Any LoadList size 4 6 0 (2 + long_bit size) mask ea)
    (subst (λ (i : Move). IsInstr (instr.Move i)) c.in-MovemLoad.is c.requires) in
    (word_ea_range rule.Any LoadList size 4 6 0 (2 + long_bit size) mask ea has.1).2

pub movem-requires-clause-place : goal.movem-requires-clause-place
movem-requires-clause-place g c =
    let size = c.in-MovemLoad.size in
    let mask = c.in-MovemLoad.mask in
    let ea = c.in-MovemLoad.ea in
    let has = when_has (not_byte size) (word_ea rule.Any LoadList size 4 6 0 (2 + long_bit size) mask ea)
    (subst (λ (i : Move). IsInstr (instr.Move i)) c.in-MovemLoad.is c.requires) in
    word_ea_memory rule.Any LoadList size 4 6 0 (2 + long_bit size) mask ea (load_memory size) has.1

pub movem-requires-in-MovemStore-clause-operand : goal.movem-requires-in-MovemStore-clause-operand
movem-requires-in-MovemStore-clause-operand g c =
    let size = c.in-MovemStore.size in
    let mask = c.in-MovemStore.mask in
    let ea = c.in-MovemStore.ea in
    let has = when_has (not_byte size) (word_ea rule.Any StoreList size 4 4 0 (2 + long_bit size) mask ea)
    (subst (λ (i : Move). IsInstr (instr.Move i)) c.in-MovemStore.is c.requires) in
    (word_ea_range rule.Any StoreList size 4 4 0 (2 + long_bit size) mask ea has.1).2

pub movem-requires-in-MovemStore-clause-place : goal.movem-requires-in-MovemStore-clause-place
movem-requires-in-MovemStore-clause-place g c =
    let size = c.in-MovemStore.size in
    let mask = c.in-MovemStore.mask in
    let ea = c.in-MovemStore.ea in
    let has = when_has (not_byte size) (word_ea rule.Any StoreList size 4 4 0 (2 + long_bit size) mask ea)
    (subst (λ (i : Move). IsInstr (instr.Move i)) c.in-MovemStore.is c.requires) in
    word_ea_memory rule.Any StoreList size 4 4 0 (2 + long_bit size) mask ea (store_memory size) has.1

pub move_to_ccr-requires : goal.move_to_ccr-requires
move_to_ccr-requires g c =
    at_ea_range Data Word 4 2 0 3 c.in-ToCcr.ea (subst (λ (i : Move). IsInstr (instr.Move i)) c.in-ToCcr.is c.requires)

pub move_from_ccr-requires-clause-operand : goal.move_from_ccr-requires-clause-operand
move_from_ccr-requires-clause-operand g c =
    at_ea_range DataAlterable Word 4 1 0 3 c.in-FromCcr.ea (subst (λ (i : Move). IsInstr (instr.Move i)) c.in-FromCcr.is c.requires)

pub scc-requires-clause-operand : goal.scc-requires-clause-operand
scc-requires-clause-operand g c =
    let bits = condition_bits c.in-Scc.condition in
    at_ea_range DataAlterable Byte 5 (bits / 2) (bits % 2) 3 c.in-Scc.ea (subst (λ (i : Move). IsInstr (instr.Move i)) c.in-Scc.is c.requires)

pub movea-requires-clause-source : goal.movea-requires-clause-source
movea-requires-clause-source g c =
    let size = c.in-Movea.size in
    let register = c.in-Movea.register in
    let source = c.in-Movea.source in
    let has = when_has (not_byte size) (at_ea All size (move_bits size) register 0 1 source)
    (subst (λ (i : Move). IsInstr (instr.Move i)) c.in-Movea.is c.requires) in
    at_ea_range All size (move_bits size) register 0 1 source has.1

pub lea-requires-clause-operand : goal.lea-requires-clause-operand
lea-requires-clause-operand g c =
    at_ea_range Control Long 4 c.in-Lea.register 1 3 c.in-Lea.ea (subst (λ (i : Move). IsInstr (instr.Move i)) c.in-Lea.is c.requires)

pub lea-requires-clause-place : goal.lea-requires-clause-place
lea-requires-clause-place g c =
    at_ea_memory Control Long 4 c.in-Lea.register 1 3 c.in-Lea.ea (control_memory Long)
    (subst (λ (i : Move). IsInstr (instr.Move i)) c.in-Lea.is c.requires)

pub pea-requires-clause-place : goal.pea-requires-clause-place
pea-requires-clause-place g c =
    at_ea_memory Control Long 4 4 0 1 c.in-Pea.ea (control_memory Long) (subst (λ (i : Move). IsInstr (instr.Move i)) c.in-Pea.is c.requires)

pub pea-requires-clause-operand : goal.pea-requires-clause-operand
pea-requires-clause-operand g c =
    at_ea_range Control Long 4 4 0 1 c.in-Pea.ea (subst (λ (i : Move). IsInstr (instr.Move i)) c.in-Pea.is c.requires)

pub move_operand-requires-clause-destination : goal.move_operand-requires-clause-destination
move_operand-requires-clause-destination g c =
    move_destination c.in-Move.size c.in-Move.destination c.in-Move.source (subst (λ (i : Move). IsInstr (instr.Move i)) c.in-Move.is c.requires)

pub move_from_ccr-requires-clause-destination : goal.move_from_ccr-requires-clause-destination
move_from_ccr-requires-clause-destination g c =
    at_ea_destination DataAlterable Word 4 1 0 3 c.in-FromCcr.ea refl (subst (λ (i : Move). IsInstr (instr.Move i)) c.in-FromCcr.is c.requires)

pub scc-requires-clause-destination : goal.scc-requires-clause-destination
scc-requires-clause-destination g c =
    let bits = condition_bits c.in-Scc.condition in
    at_ea_destination DataAlterable Byte 5 (bits / 2) (bits % 2) 3 c.in-Scc.ea refl (subst (λ (i : Move). IsInstr (instr.Move i)) c.in-Scc.is c.requires)
