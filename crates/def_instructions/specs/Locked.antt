-- TAS, CAS and CAS2: operands that are checked for writing before they are read.
use Rattle.std.specs.Prelude.{ℕ, ◌^◌, ◌==◌, ◌&&◌, bit_or, if◌then◌else◌}
use Rattle.std.specs.Prelude.{Bool}
use Rattle.mb_port.specs.Routine.{Routine, Return, ◌>>=◌, ◌>>◌, choose, sure}
use Rattle.mb_port.specs.declared.types.Space.{Space}
use Rattle.mb_instr.specs.declared.size.Size.{Size}
use Rattle.mb_instr.specs.declared.size.Size.TheVariants.{Byte}
use Rattle.mb_instr.specs.declared.operand.Ea.{Ea}
use Rattle.mb_instr.specs.declared.operand.Ea.TheVariants.{Dn}
use Rattle.mb_instr.specs.declared.registers.Plain.{Plain}
use Rattle.mb_instr.specs.Sizes.{bytes_of, low_of}
use Rattle.mb_instr.specs.Registers.{register_of, data_register, with_data_register}
use Rattle.mb_alu.specs.declared.conditions.Flagged.{Flagged}
use Rattle.mb_alu.specs.declared.bitwise.LogicKind.TheVariants.{Pass}
use Rattle.mb_alu.specs.Logic.{logic_of}
use Rattle.mb_alu.specs.Sums.{compare_of}
use Rattle.mb_ea.specs.Resolve.{resolve_of}
use Rattle.mb_writes.specs.Checked.{probe_operand_of, get_operand_of, put_operand_of}
use Rattle.def_instructions.specs.Ends.{Rowed, carried, reading}
use Rattle.def_instructions.specs.Operands.{with_low, place_of}
use Rattle.def_instructions.specs.Modifying.{modify_of}
use Rattle.mb_instr.specs.FurtherWords.{swap_word}

-- ---- TAS

-- the byte with bit 7 set; N and Z by the byte as it was, V and C are cleared, X stays
abbrev pub test_and_set_of : ℕ → ℕ → Flagged
test_and_set_of value ccr = record { value = bit_or value (2 ^ 7); ccr = (logic_of Pass Byte value 0 ccr).ccr }

-- a locked byte, which is always written
abbrev pub tas_in_memory : ℕ → Space → Plain → Routine Rowed
tas_in_memory address space p = do
  places ← reading (probe_operand_of space address 1)
  value ← sure (get_operand_of places)
  let result = test_and_set_of value p.ccr
  sure (put_operand_of places 1 result.value)
  Return (carried (record p { ccr = result.ccr }))

-- TAS: a data register is no memory
abbrev pub tas_of : Ea → ℕ → Space → Plain → Routine Rowed
tas_of (Dn n) word_at space p = modify_of test_and_set_of Byte (Dn n) word_at space p
tas_of ea word_at space p = do
  to ← reading (resolve_of ea Byte word_at space p)
  tas_in_memory (place_of to.target) space to.plain

-- ---- CAS and CAS2

-- the condition codes of the operand less Dc
abbrev pub cas_codes : Size → ℕ → ℕ → Plain → ℕ
cas_codes size word value p = compare_of size (data_register p (swap_word word).compared) value p.ccr

-- Dc with the operand in its low bytes
abbrev pub cas_loaded : Size → ℕ → ℕ → Plain → Plain
cas_loaded size word value p =
    let n = (swap_word word).compared in
    with_data_register p n (with_low size (data_register p n) value)

-- Dc and the operand are the same
abbrev pub cas_equal : Size → ℕ → ℕ → Plain → Bool
cas_equal size word value p = low_of size (data_register p (swap_word word).compared) == value

-- Du goes to the places of an operand that is the same as Dc. Else Dc takes the operand, and nothing is written.
abbrev pub cas_at : Size → ℕ → ℕ → Space → Plain → Routine Rowed
cas_at size word address space p = do
  places ← reading (probe_operand_of space address (bytes_of size))
  value ← sure (get_operand_of places)
  let after = record p { ccr = cas_codes size word value p }
  choose (cas_equal size word value p)
      (sure (put_operand_of places (bytes_of size) (data_register p (swap_word word).update)) >> Return (carried after))
      (Return (carried (cas_loaded size word value after)))

-- CAS
abbrev pub cas_of : Size → Ea → ℕ → ℕ → Space → Plain → Routine Rowed
cas_of size ea word word_at space p = do
  to ← reading (resolve_of ea size word_at space p)
  cas_at size word (place_of to.target) space to.plain

-- both are the same as theirs; the codes are of the first that is not, else of operand 2
abbrev pub cas2_equal : Size → ℕ → ℕ → ℕ → ℕ → Plain → Bool
cas2_equal size first second one two p = cas_equal size first one p && cas_equal size second two p

abbrev pub cas2_codes : Size → ℕ → ℕ → ℕ → ℕ → Plain → ℕ
cas2_codes size first second one two p =
    if cas_equal size first one p then cas_codes size second two p else cas_codes size first one p

-- CAS2: both operands are checked, and then read. Where each is the same as its Dc, operand 1 is written first, and
-- then operand 2. Else both are loaded; a register that is Dc of both takes operand 1.
abbrev pub cas2_of : Size → ℕ → ℕ → Space → Plain → Routine Rowed
cas2_of size first second space p = do
  places ← reading (probe_operand_of space (register_of p (swap_word first).pointer) (bytes_of size))
  others ← reading (probe_operand_of space (register_of p (swap_word second).pointer) (bytes_of size))
  one ← sure (get_operand_of places)
  two ← sure (get_operand_of others)
  let after = record p { ccr = cas2_codes size first second one two p }
  choose (cas2_equal size first second one two p)
      (sure (put_operand_of places (bytes_of size) (data_register p (swap_word first).update))
      >> sure (put_operand_of others (bytes_of size) (data_register p (swap_word second).update))
      >> Return (carried after))
      (Return (carried (cas_loaded size first one (cas_loaded size second two after))))
