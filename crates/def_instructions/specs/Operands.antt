-- Operands: what stands there, and what is put there.
use Rattle.std.specs.Prelude.{ℕ, ◌+◌, ◌-◌, ◌*◌, length, Result, Ok}
use Rattle.mb_port.specs.Routine.{Routine, Return, ◌>>=◌, ◌>>◌}
use Rattle.mb_port.specs.declared.types.Space.{Space}
use Rattle.mb_instr.specs.declared.size.Size.{Size}
use Rattle.mb_instr.specs.declared.operand.Ea.{Ea}
use Rattle.mb_instr.specs.declared.registers.Plain.{Plain}
use Rattle.mb_instr.specs.Sizes.{bytes_of, low_of}
use Rattle.mb_instr.specs.Operands.{more}
use Rattle.mb_instr.specs.Registers.{register_of, with_register, address_register, with_address_register}
use Rattle.mb_ea.specs.declared.addresses.Target.{Target}
use Rattle.mb_ea.specs.declared.addresses.Target.TheVariants.{Reg, Memory, Value}
use Rattle.mb_ea.specs.declared.reading.ReadFault.{ReadFault}
use Rattle.mb_ea.specs.Addresses.{sum, difference}
use Rattle.mb_ea.specs.Reading.{read_operand_of}
use Rattle.mb_ea.specs.Resolve.{resolve_of}
use Rattle.mb_writes.specs.declared.ends.WriteFault.{WriteFault}
use Rattle.mb_writes.specs.Writing.{write_operand_of}
use Rattle.def_instructions.specs.Ends.{Rowed, Cut, OtherEnd, carried, writing}

-- the address of the words behind those of an operand
abbrev pub behind_of : Size → Ea → ℕ → ℕ
behind_of size ea word_at = sum word_at (2 * length (more size ea))

-- what stands there: the low bytes of a register, the bytes in memory, or the value itself
abbrev pub load_of : Target → Size → Space → Plain → Routine (Result ℕ ReadFault)
load_of (Reg n) size space p = Return (Ok (low_of size (register_of p n)))
load_of (Memory at) size space p = read_operand_of space at (bytes_of size)
load_of (Value v) size space p = Return (Ok v)

-- a number with other low bytes
abbrev pub with_low : Size → ℕ → ℕ → ℕ
with_low size old value = old - low_of size old + low_of size value

-- what comes of a store where no instruction of the table comes
abbrev pub unreached_store : Plain → Routine (Result Plain WriteFault)
unreached_store p = Return (Ok p)

-- Puts a value there: in the low bytes of a register, the others staying, or in memory. No row stores to a value.
abbrev pub store_of : Target → Size → ℕ → Space → Plain → Routine (Result Plain WriteFault)
store_of (Reg n) size value space p = Return (Ok (with_register p n (with_low size (register_of p n) value)))
store_of (Memory at) size value space p = write_operand_of space at (bytes_of size) value >> Return (Ok p)
store_of (Value v) size value space p = unreached_store p

-- An operand that was read: where it stands, its value, and the registers then.
pub record Fetched : Type 0 where
  pub target : Target
  pub value : ℕ
  pub plain : Plain

-- an operand is resolved, and then read
abbrev pub fetch_operand_of : Size → Ea → ℕ → Space → Plain → Routine (Result Fetched ReadFault)
fetch_operand_of size ea word_at space p = do
  resolved ← resolve_of ea size word_at space p
  value ← load_of resolved.target size space resolved.plain
  Return (Ok (record { target = resolved.target; value = value; plain = resolved.plain }))

-- what stands for a number where no instruction of the table comes
abbrev pub unreached : ℕ
unreached = 0

-- Where an operand in memory stands. No row asks it of a register or of a value.
abbrev pub place_of : Target → ℕ
place_of (Memory at) = at
place_of _ = unreached

-- The address of an operand in memory, which is not read. `(An)+` and `-(An)` do not step here.
abbrev pub find_address_of : Size → Ea → ℕ → Space → Plain → Routine (Result ℕ ReadFault)
find_address_of size ea word_at space p = do
  resolved ← resolve_of ea size word_at space p
  Return (Ok (place_of resolved.target))

-- The last part of an instruction: a value goes to its target. The registers are these but for that.
abbrev pub finish_with_of : Target → Size → ℕ → Space → Plain → Routine Rowed
finish_with_of target size value space after = do
  done ← writing after (store_of target size value space after)
  Return (carried done)

-- the stack with one more long, and with one less
abbrev pub stack_lowered : Plain → Plain
stack_lowered p = with_address_register p 7 (difference (address_register p 7) 4)

abbrev pub stack_raised : Plain → Plain
stack_raised p = with_address_register p 7 (sum (address_register p 7) 4)

-- A long goes onto the stack, whose new top is given. After the instruction the registers are these.
abbrev pub push_of : ℕ → ℕ → Space → Plain → Routine (Result (Unit {0}) (Cut OtherEnd))
push_of value top space after = writing after (write_operand_of space top 4 value)
