-- MOVEP.
use Rattle.std.specs.Prelude.{ℕ, Bool, Result}
use Rattle.mb_port.specs.Routine.{Routine, Return, ◌>>=◌, ◌>>◌, failing, choose}
use Rattle.mb_port.specs.declared.types.Space.{Space}
use Rattle.mb_instr.specs.declared.size.Size.{Size}
use Rattle.mb_instr.specs.declared.size.Size.TheVariants.{Word}
use Rattle.mb_instr.specs.declared.registers.Plain.{Plain}
use Rattle.mb_instr.specs.Sizes.{bytes_of, sign_extended}
use Rattle.mb_instr.specs.Registers.{data_register, address_register}
use Rattle.mb_ea.specs.declared.addresses.Target.TheVariants.{Reg}
use Rattle.mb_ea.specs.declared.reading.ReadFault.{ReadFault}
use Rattle.mb_ea.specs.Addresses.{sum}
use Rattle.mb_ea.specs.Reading.{read_pieces_of, refused_in}
use Rattle.mb_writes.specs.Writing.{apart, write_apart_of}
use Rattle.def_instructions.specs.Ends.{Rowed, carried, reading, writing}
use Rattle.def_instructions.specs.Operands.{finish_with_of}

-- an operand whose bytes stand at every second address, the highest first
abbrev pub read_apart_of : Space → ℕ → Size → Routine (Result ℕ ReadFault)
read_apart_of space at size = failing (refused_in at) (read_pieces_of space (apart at (bytes_of size)) 0)

-- all bytes are read, and then the low word or the long of Dn is set
abbrev pub load_peripheral_of : ℕ → Size → ℕ → Space → Plain → Routine Rowed
load_peripheral_of n size place space p = do
  value ← reading (read_apart_of space place size)
  finish_with_of (Reg n) size value space p

-- the low word or the long of Dn is written byte by byte
abbrev pub store_peripheral_of : ℕ → Size → ℕ → Space → Plain → Routine Rowed
store_peripheral_of n size place space p = do
  writing p (write_apart_of space place size (data_register p n))
  Return (carried p)

-- MOVEP: from An plus the displacement on; no condition code changes
abbrev pub movep_of : ℕ → Bool → Size → ℕ → ℕ → Space → Plain → Routine Rowed
movep_of n is_store size address displacement space p =
    let place = sum (address_register p address) (sign_extended Word displacement) in
    choose is_store (store_peripheral_of n size place space p) (load_peripheral_of n size place space p)
