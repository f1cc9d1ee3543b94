-- MOVEQ, MOVE, MOVEA, LEA, EXG, SWAP, MOVE to and from CCR, Scc, and MOVEM.
use Rattle.std.specs.Prelude.{ℕ, ◌+◌, ◌-◌, ◌*◌, ◌/◌, ◌%◌, ◌^◌, Bool, if◌then◌else◌, Result}
use Rattle.mb_port.specs.Routine.{Routine, Return, ◌>>=◌, failing}
use Rattle.mb_port.specs.declared.types.Space.{Space}
use Rattle.mb_instr.specs.declared.size.Size.{Size}
use Rattle.mb_instr.specs.declared.size.Size.TheVariants.{Byte, Word, Long}
use Rattle.mb_instr.specs.declared.operand.Ea.{Ea}
use Rattle.mb_instr.specs.declared.operand.Ea.TheVariants.{Post, Pre}
use Rattle.mb_instr.specs.declared.registers.Plain.{Plain}
use Rattle.mb_instr.specs.declared.kinds.Condition.{Condition}
use Rattle.mb_instr.specs.declared.kinds.Exchange.{Exchange}
use Rattle.mb_instr.specs.declared.kinds.Exchange.TheVariants as exchange
use Rattle.mb_instr.specs.Sizes.{sign_extended}
use Rattle.mb_instr.specs.Registers.{register_of, with_register, data_register, with_data_register}
use Rattle.mb_instr.specs.Registers.{with_address_register}
use Rattle.mb_alu.specs.declared.bitwise.LogicKind.TheVariants.{Pass}
use Rattle.mb_alu.specs.Extend.{extend_of}
use Rattle.mb_alu.specs.Logic.{logic_of}
use Rattle.mb_ea.specs.Resolve.{resolve_of}
use Rattle.mb_writes.specs.declared.transfers.Movem.{Movem}
use Rattle.mb_writes.specs.declared.transfers.MovemMode.{MovemMode}
use Rattle.mb_writes.specs.declared.transfers.MovemMode.TheVariants as mode
use Rattle.mb_writes.specs.declared.ends.Ended.TheVariants as ended
use Rattle.mb_writes.specs.Moving.{Halfway, transfer_of}
use Rattle.def_instructions.specs.Conditions.{is_met}
use Rattle.def_instructions.specs.Ends.{Rowed, Cut, Stop, OtherEnd, carried, reading}
use Rattle.def_instructions.specs.Operands.{behind_of, fetch_operand_of, find_address_of, finish_with_of}

-- MOVEQ: the byte, sign-extended; N and Z by it, V and C are cleared, X stays
abbrev pub moveq_of : ℕ → ℕ → Plain → Plain
moveq_of register immediate p =
    let extended = extend_of Byte Long immediate p.ccr in
    record (with_data_register p register extended.value) { ccr = extended.ccr }

-- N and Z by the value moved, V and C are cleared, X stays
abbrev pub move_flags : Size → ℕ → Plain → Plain
move_flags size value p = record p { ccr = (logic_of Pass size value 0 p.ccr).ccr }

-- MOVE: the source is read before the destination's address is formed, and the pieces are written last
abbrev pub move_operand_of : Size → Ea → Ea → ℕ → Space → Plain → Routine Rowed
move_operand_of size destination source word_at space p = do
  from ← reading (fetch_operand_of size source word_at space p)
  to ← reading (resolve_of destination size (behind_of size source word_at) space from.plain)
  finish_with_of to.target size from.value space (move_flags size from.value to.plain)

-- MOVEA: the source, read at its size, goes to the whole register with its sign; no condition code changes
abbrev pub movea_of : Size → ℕ → Ea → ℕ → Space → Plain → Routine Rowed
movea_of size n source word_at space p = do
  from ← reading (fetch_operand_of size source word_at space p)
  Return (carried (with_address_register from.plain n (sign_extended size from.value)))

-- LEA: the address of an operand, which is not read
abbrev pub lea_of : ℕ → Ea → ℕ → Space → Plain → Routine Rowed
lea_of n ea word_at space p = do
  place ← reading (find_address_of Long ea word_at space p)
  Return (carried (with_address_register p n place))

-- two of all sixteen registers with each other's values
abbrev pub exchange_registers_of : ℕ → ℕ → Plain → Plain
exchange_registers_of m n p = with_register (with_register p m (register_of p n)) n (register_of p m)

-- EXG: all 32 bits of two data registers, of two address registers, or of a data and an address register
abbrev pub exg_of : Exchange → ℕ → ℕ → Plain → Plain
exg_of exchange.Data x y p = exchange_registers_of x y p
exg_of exchange.Address x y p = exchange_registers_of (8 + x) (8 + y) p
exg_of exchange.DataAddress x y p = exchange_registers_of x (8 + y) p

-- SWAP: the halves of a long change places; N and Z by the long, V and C are cleared, X stays
abbrev pub swap_of : ℕ → Plain → Plain
swap_of n p =
    let swapped = data_register p n % 2 ^ 16 * 2 ^ 16 + data_register p n / 2 ^ 16 in
    move_flags Long swapped (with_data_register p n swapped)

-- MOVE to CCR: a word is read, and its low five bits are the condition codes
abbrev pub move_to_ccr_of : Ea → ℕ → Space → Plain → Routine Rowed
move_to_ccr_of ea word_at space p = do
  operand ← reading (fetch_operand_of Word ea word_at space p)
  Return (carried (record operand.plain { ccr = operand.value % 2 ^ 5 }))

-- MOVE from CCR: a word with X, N, Z, V and C in bits 4 to 0; the destination is not read
abbrev pub move_from_ccr_of : Ea → ℕ → Space → Plain → Routine Rowed
move_from_ccr_of ea word_at space p = do
  to ← reading (resolve_of ea Word word_at space p)
  finish_with_of to.target Word (p.ccr % 2 ^ 5) space to.plain

-- a byte of ones, or of zeros
abbrev pub condition_byte : Bool → ℕ
condition_byte met = if met then 2 ^ 8 - 1 else 0

-- Scc: ones where the condition is met, else zeros; the destination is not read
abbrev pub scc_of : Condition → Ea → ℕ → Space → Plain → Routine Rowed
scc_of c ea word_at space p = do
  to ← reading (resolve_of ea Byte word_at space p)
  finish_with_of to.target Byte (condition_byte (is_met c p.ccr)) space to.plain

-- what becomes of the address register of a MOVEM's operand
abbrev pub movem_mode : Ea → MovemMode
movem_mode (Post n) = mode.Post n
movem_mode (Pre n) = mode.Pre n
movem_mode _ = mode.Control

-- what a MOVEM moves
abbrev pub movem_by : Bool → Size → Ea → ℕ → Movem
movem_by is_load size ea mask = record { is_load = is_load; size = size; mode = movem_mode ea; mask = mask }

-- a refused transfer ends the instruction, with what was loaded so far
abbrev pub transferring : Routine (Result Plain Halfway) → Routine (Result Plain (Cut OtherEnd))
transferring m = failing (λ halfway. Stop (record { ended = ended.Movem halfway.fault; plain = halfway.plain })) m

-- MOVEM
abbrev pub movem_of : Bool → Size → Ea → ℕ → ℕ → Space → Plain → Routine Rowed
movem_of is_load size ea mask word_at space p = do
  place ← reading (find_address_of size ea word_at space p)
  moved ← transferring (transfer_of (movem_by is_load size ea mask) place 0 space p)
  Return (carried moved)
