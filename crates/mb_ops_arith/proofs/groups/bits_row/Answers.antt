use Rattle.std.proofs.Common.{refl, false, ◌≡◌, ◌%◌, ◌+◌, ◌/◌}
use Rattle.mb_instr.specs.declared.rule.WordRule.TheVariants as rule
use Rattle.mb_instr.specs.declared.size.Size.TheVariants.{Long, Byte}
use Rattle.mb_instr.specs.Kinds.{bit_bits, bit_class, bit_class_immediate, field_bits, field_class, field_rule}
use Rattle.mb_instr.specs.declared.size.Size.{Size}
use Rattle.mb_instr.specs.declared.kinds.BitKind.{BitKind}
use Rattle.mb_instr.specs.declared.kinds.BitKind.TheVariants as bit
use Rattle.mb_instr.specs.Operands.{allows}
use Rattle.mb_instr.proofs.Ranges.{at_ea_destination, word_ea_destination}
use Rattle.mb_instr.proofs.Ranges.{at_ea_range, word_ea_range, word_ea_data}
use Rattle.mb_instr.proofs.Ranges.{field_data}
use Rattle.mb_ops_arith.proofs.groups.bits_row.Goals as goal
use Rattle.mb_ops_arith.proofs.Spelled.{spelled}

changing : (k : BitKind) (s : Size) → (k ≡ bit.Test → ⊥) → allows (bit_class k) s 7 4 ≡ false
changing bit.Test s other = absurd (other refl)
changing bit.Change s other = refl
changing bit.Clear s other = refl
changing bit.Set s other = refl

changing_immediate : (k : BitKind) (s : Size) → allows (bit_class_immediate k) s 7 4 ≡ false
changing_immediate bit.Test s = refl
changing_immediate bit.Change s = refl
changing_immediate bit.Clear s = refl
changing_immediate bit.Set s = refl

pub bit_row-requires-clause-operand : goal.bit_row-requires-clause-operand
bit_row-requires-clause-operand g c =
    let register = c.in-BitReg.register in
    let kind = c.in-BitReg.kind in
    let ea = c.in-BitReg.ea in
    at_ea_range (bit_class kind) Byte 0 register 1 (bit_bits kind) ea (spelled c.in-BitReg.is c.requires.row)

pub bit_row-requires-clause-destination : goal.bit_row-requires-clause-destination
bit_row-requires-clause-destination g c = λ other.
    at_ea_destination (bit_class c.in-BitReg.kind) Byte 0 c.in-BitReg.register 1 (bit_bits c.in-BitReg.kind) c.in-BitReg.ea
    (changing c.in-BitReg.kind Byte other) (spelled c.in-BitReg.is c.requires.row)

pub bit_row-requires-in-BitImm-clause-operand : goal.bit_row-requires-in-BitImm-clause-operand
bit_row-requires-in-BitImm-clause-operand g c =
    let kind = c.in-BitImm.kind in
    let ea = c.in-BitImm.ea in
    let word = c.in-BitImm.word in
    let has = spelled c.in-BitImm.is c.requires.row in
    (word_ea_range rule.Any (bit_class_immediate kind) Byte 0 4 0 (bit_bits kind) word ea has).2

pub bit_row-requires-in-BitImm-clause-destination : goal.bit_row-requires-in-BitImm-clause-destination
bit_row-requires-in-BitImm-clause-destination g c = λ other.
    word_ea_destination rule.Any (bit_class_immediate c.in-BitImm.kind) Byte 0 4 0 (bit_bits c.in-BitImm.kind) c.in-BitImm.word c.in-BitImm.ea
    (changing_immediate c.in-BitImm.kind Byte) (spelled c.in-BitImm.is c.requires.row)

pub bit_field-requires-clause-place : goal.bit_field-requires-clause-place
bit_field-requires-clause-place g c =
    let kind = c.in-Field.kind in
    let has = spelled c.in-Field.is c.requires.row in
    word_ea_data (field_rule kind) (field_class kind) Long 14 (4 + field_bits kind / 2) (field_bits kind % 2) 3 c.in-Field.word c.in-Field.ea
    (field_data kind Long) has

pub bit_field-requires-clause-operand : goal.bit_field-requires-clause-operand
bit_field-requires-clause-operand g c =
    let kind = c.in-Field.kind in
    let ea = c.in-Field.ea in
    let word = c.in-Field.word in
    let has = spelled c.in-Field.is c.requires.row in
    (word_ea_range (field_rule kind) (field_class kind) Long 14 (4 + field_bits kind / 2) (field_bits kind % 2) 3 word ea has).2
