-- Bit fields.
use Rattle.std.specs.Prelude.{refl, ℕ, ◌*◌, ◌%◌}
use Rattle.law_routines.specs.Twin.{returned}
use Rattle.law_routines.specs.Between.{Setting, between}
use Rattle.law_routines.proofs.Twinned.{twins_choose}
use Rattle.mb_instr.specs.declared.size.Size.TheVariants.{Long}
use Rattle.mb_instr.specs.declared.operand.Ea.{Ea}
use Rattle.mb_instr.specs.declared.operand.Ea.TheVariants.{Dn}
use Rattle.mb_instr.specs.declared.kinds.FieldKind.{FieldKind}
use Rattle.mb_instr.specs.declared.registers.Plain.{Plain}
use Rattle.mb_instr.specs.Registers.{data_register}
use Rattle.mb_instr.specs.FurtherWords.{field_word}
use Rattle.mb_fields.specs.Fields.{field_get_of, field_put_of}
use Rattle.mb_ea.specs.Addresses.{sum}
use Rattle.def_instructions.specs.BitFields.{field_offset_of, field_width_of, is_change, field_after, field_done, bytes_before, bytes_held, field_in_memory_of, bit_field_of}
use Rattle.law_twins.proofs.Parts.{SameCut, SameRowed, Rows, then_twins, reading_twins, writing_twins}
use Rattle.law_twins.proofs.Operands.{address_twins, read_twins, put_twins}

in_memory_twins : (x : Setting) (kind : FieldKind) (word address : ℕ) (p : Plain)
    → Rows x (field_in_memory_of kind word address x.here p) (field_in_memory_of kind word address x.there p)
in_memory_twins x kind word address p =
    let offset = field_offset_of word p in
    let width = field_width_of word p in
    let first = sum address (bytes_before offset) in
    let held = bytes_held offset width in
    then_twins x (SameCut x) (reading_twins x (read_twins x first held)) (λ bytes.
    let old = field_get_of bytes (8 * held) (offset % 8) width in
    let new = field_after kind width old (data_register p (field_word word).register) in
    twins_choose (between x) (SameRowed x) (is_change kind) _ _ _ _
    (then_twins x (SameCut x)
    (writing_twins x (field_done kind word old p) (put_twins x first held (field_put_of bytes (8 * held) (offset % 8) width new)))
    (λ done. returned refl))
    (returned refl))

pub field_row_twins : (x : Setting) (kind : FieldKind) (ea : Ea) (word word_at : ℕ) (p : Plain)
    → Rows x (bit_field_of kind ea word word_at x.here p) (bit_field_of kind ea word word_at x.there p)
field_row_twins x kind (Dn n) word word_at p = returned refl
field_row_twins x kind ea word word_at p =
    then_twins x (SameCut x) (reading_twins x (address_twins x Long ea word_at p)) (λ address. in_memory_twins x kind word address p)
