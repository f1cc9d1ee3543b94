-- The instructions on bit fields. Their word is `0nnn Oooo ooWw wwww`.
use Rattle.std.specs.Prelude.{ℕ, ◌+◌, ◌-◌, ◌*◌, ◌/◌, ◌%◌, ◌^◌, ◌==◌, nat_lt, Bool, true, false, if◌then◌else◌}
use Rattle.std.specs.Int.{w32, rotate_left, rotate_right}
use Rattle.mb_port.specs.Routine.{Routine, Return, ◌>>=◌, ◌>>◌, choose}
use Rattle.mb_port.specs.declared.types.Space.{Space}
use Rattle.mb_instr.specs.declared.size.Size.TheVariants.{Long}
use Rattle.mb_instr.specs.declared.operand.Ea.{Ea}
use Rattle.mb_instr.specs.declared.operand.Ea.TheVariants.{Dn}
use Rattle.mb_instr.specs.declared.kinds.FieldKind.{FieldKind}
use Rattle.mb_instr.specs.declared.kinds.FieldKind.TheVariants as field
use Rattle.mb_instr.specs.declared.registers.Plain.{Plain}
use Rattle.mb_instr.specs.Registers.{data_register, with_data_register}
use Rattle.mb_instr.specs.Sizes.{is_set}
use Rattle.mb_alu.specs.Conditions.{conditions_of, ccr_of}
use Rattle.mb_fields.specs.Fields.{field_get_of, field_put_of, field_first_of}
use Rattle.mb_ea.specs.Addresses.{sum}
use Rattle.mb_ea.specs.Reading.{read_operand_of}
use Rattle.mb_writes.specs.Writing.{write_operand_of}
use Rattle.def_instructions.specs.Ends.{Rowed, carried, reading, writing}
use Rattle.def_instructions.specs.Operands.{find_address_of}
use Rattle.mb_instr.specs.FurtherWords.{field_word}

-- the offset: where bit 11 is 1, the data register in bits 8 to 6, else bits 10 to 6
abbrev pub field_offset_of : ℕ → Plain → ℕ
field_offset_of word p =
    let f = field_word word in if f.offset_is_register then data_register p f.offset_register else f.offset

-- the width modulo 32: where bit 5 is 1, of the data register in bits 2 to 0, else bits 4 to 0
abbrev pub width_bits : ℕ → Plain → ℕ
width_bits word p =
    let f = field_word word in if f.width_is_register then data_register p f.width_register % 32 else f.width

-- the width, 0 meaning 32
abbrev pub field_width_of : ℕ → Plain → ℕ
field_width_of word p = if width_bits word p == 0 then 32 else width_bits word p

-- the row writes its field
abbrev pub is_change : FieldKind → Bool
is_change field.Test = false
is_change field.ExtractUnsigned = false
is_change field.ExtractSigned = false
is_change field.FindFirst = false
is_change field.Change = true
is_change field.Clear = true
is_change field.Set = true
is_change field.Insert = true

-- the field after the row; BFINS inserts the low bits of a register
abbrev pub field_after : FieldKind → ℕ → ℕ → ℕ → ℕ
field_after field.Change width old value = 2 ^ width - 1 - old
field_after field.Clear width old value = 0
field_after field.Set width old value = 2 ^ width - 1
field_after field.Insert width old value = value % 2 ^ width
field_after _ width old value = old

-- N is the top bit of a field of that width, Z says that the field is 0, V and C are cleared, X stays
abbrev pub field_flags : ℕ → ℕ → ℕ → ℕ
field_flags width value ccr = ccr_of (record {
  x = (conditions_of ccr).x;
  n = is_set value (width - 1);
  z = value == 0;
  v = false;
  c = false;
})

-- the field whose flags are set: the inserted one for BFINS, else the old one
abbrev pub field_seen : FieldKind → ℕ → ℕ → ℕ → ℕ
field_seen field.Insert width old value = value % 2 ^ width
field_seen _ width old value = old

-- the field with its sign
abbrev pub field_signed : ℕ → ℕ → ℕ
field_signed width old = if nat_lt old (2 ^ (width - 1)) then old else old + (2 ^ 32 - 2 ^ width)

-- what goes to the register that the word names: the field, with zeros or its sign, or the offset of its first one
abbrev pub with_result : FieldKind → ℕ → ℕ → ℕ → ℕ → Plain → Plain
with_result field.ExtractUnsigned n offset width old p = with_data_register p n old
with_result field.ExtractSigned n offset width old p = with_data_register p n (field_signed width old)
with_result field.FindFirst n offset width old p = with_data_register p n (sum offset (field_first_of old width))
with_result _ n offset width old p = p

-- the registers after a row whose field was that
abbrev pub field_done : FieldKind → ℕ → ℕ → Plain → Plain
field_done kind word old p =
    let width = field_width_of word p in
    let seen = field_seen kind width old (data_register p (field_word word).register) in
    record (with_result kind (field_word word).register (field_offset_of word p) width old p) {
      ccr = field_flags width seen p.ccr;
    }

-- ---- a field in a data register, where it wraps round

-- the register begins with its field where it is rotated by the offset, and is rotated back with the new one
abbrev pub field_in_register_of : FieldKind → ℕ → ℕ → Plain → Plain
field_in_register_of kind word n p =
    let width = field_width_of word p in
    let turned = rotate_left w32 (data_register p n) (field_offset_of word p) in
    let old = field_get_of turned 32 0 width in
    let new = field_after kind width old (data_register p (field_word word).register) in
    let changed = rotate_right w32 (field_put_of turned 32 0 width new) (field_offset_of word p) in
    let done = field_done kind word old p in
    if is_change kind then with_data_register done n changed else done

-- ---- a field in memory

-- the bytes from the operand's address to the field's first byte: the signed offset divided by 8, rounded down
abbrev pub bytes_before : ℕ → ℕ
bytes_before offset = if nat_lt offset (2 ^ 31) then offset / 8 else offset / 8 + (2 ^ 32 - 2 ^ 29)

-- how many bytes hold the field, one to five
abbrev pub bytes_held : ℕ → ℕ → ℕ
bytes_held offset width = (offset % 8 + width + 7) / 8

-- exactly the bytes that hold the field are read and, where the row changes it, written
abbrev pub field_in_memory_of : FieldKind → ℕ → ℕ → Space → Plain → Routine Rowed
field_in_memory_of kind word address space p =
    let offset = field_offset_of word p in
    let width = field_width_of word p in
    let first = sum address (bytes_before offset) in
    let held = bytes_held offset width in do
      bytes ← reading (read_operand_of space first held)
      let old = field_get_of bytes (8 * held) (offset % 8) width
      let new = field_after kind width old (data_register p (field_word word).register)
      let changed = field_put_of bytes (8 * held) (offset % 8) width new
      let done = field_done kind word old p
      choose (is_change kind)
          (writing done (write_operand_of space first held changed) >> Return (carried done))
          (Return (carried done))

-- BFTST, BFEXTU, BFCHG, BFEXTS, BFCLR, BFFFO, BFSET and BFINS
abbrev pub bit_field_of : FieldKind → Ea → ℕ → ℕ → Space → Plain → Routine Rowed
bit_field_of kind (Dn n) word word_at space p = Return (carried (field_in_register_of kind word n p))
bit_field_of kind ea word word_at space p = do
  address ← reading (find_address_of Long ea word_at space p)
  field_in_memory_of kind word address space p
