-- Bit fields.
use Rattle.std.specs.Prelude.{ℕ, ◌*◌, ◌%◌, false}
use Rattle.mb_port.specs.declared.types.Space.{Space}
use Rattle.mb_instr.specs.declared.registers.Plain.{Plain}
use Rattle.mb_writes.specs.declared.transfers.Movem.{Movem}
use Rattle.law_tells.specs.Guarded.{Guarded, Guards}
use Rattle.law_tells.specs.Laws.{AreLongs}
use Rattle.law_routines.proofs.Told.{tells_choose}
use Rattle.mb_instr.specs.declared.size.Size.TheVariants.{Long}
use Rattle.mb_instr.specs.declared.operand.Ea.{Ea}
use Rattle.mb_instr.specs.declared.operand.Ea.TheVariants.{Dn}
use Rattle.mb_instr.specs.declared.kinds.FieldKind.{FieldKind}
use Rattle.mb_instr.specs.Registers.{data_register}
use Rattle.mb_instr.specs.FurtherWords.{field_word}
use Rattle.mb_fields.specs.Fields.{field_get_of, field_put_of}
use Rattle.mb_ea.specs.Addresses.{sum}
use Rattle.def_instructions.specs.Ends.{Carried}
use Rattle.def_instructions.specs.BitFields.{field_offset_of, field_width_of, is_change, field_after, field_done}
use Rattle.def_instructions.specs.BitFields.{bytes_before, bytes_held, field_in_memory_of, bit_field_of}
use Rattle.law_tells.proofs.Longs.{sum_long}
use Rattle.law_tells.proofs.Ranges.{IsFormed}
use Rattle.law_tells.proofs.Parts.{RowTells, row_reading, row_done, row_writing}
use Rattle.law_tells.proofs.Operands.{reading_tells, address_tells, writing_tells}

module _ {S : Type 0} (x : Guarded S) (space : Space) (g : Guards x space) {moves : Movem → Type 0} where
  in_memory_tells : (kind : FieldKind) (word address : ℕ) (p : Plain) → RowTells x space p moves (field_in_memory_of kind word address space p)
  in_memory_tells kind word address p =
      let offset = field_offset_of word p in
      let width = field_width_of word p in
      let first = sum address (bytes_before offset) in
      let held = bytes_held offset width in
      let lt = sum_long address (bytes_before offset) in
      row_reading x space (reading_tells x space g first held lt) (λ bytes read.
      let old = field_get_of bytes (8 * held) (offset % 8) width in
      let new = field_after kind width old (data_register p (field_word word).register) in
      let done : Carried = record { flow = false; plain = field_done kind word old p } in
      tells_choose (is_change kind) _ _
      (λ e. row_writing x space tt (λ written. done) (writing_tells x space g first held (field_put_of bytes (8 * held) (offset % 8) width new) lt))
      (λ e. row_done x space done))

  pub field_row_tells : (kind : FieldKind) (ea : Ea) (word word_at : ℕ) (p : Plain) → IsFormed ea → AreLongs p.a
      → RowTells x space p moves (bit_field_of kind ea word word_at space p)
  field_row_tells kind (Dn n) word word_at p is longs = row_done x space _
  field_row_tells kind ea word word_at p is longs =
      row_reading x space (address_tells x space g Long ea word_at p is longs) (λ address found. in_memory_tells kind word address p)
