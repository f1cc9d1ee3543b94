-- BRA, BSR, Bcc, DBcc, JMP and JSR.
use Rattle.std.specs.Prelude.{ℕ, ◌-◌, ◌^◌, ◌==◌, Bool, true, false, if◌then◌else◌}
use Rattle.mb_port.specs.Routine.{Routine, Return, ◌>>=◌, ◌>>◌, choose}
use Rattle.mb_port.specs.declared.types.Space.{Space}
use Rattle.mb_instr.specs.declared.size.Size.TheVariants.{Byte, Word, Long}
use Rattle.mb_instr.specs.declared.operand.Ea.{Ea}
use Rattle.mb_instr.specs.declared.kinds.Branch.{Branch}
use Rattle.mb_instr.specs.declared.kinds.Branch.TheVariants as displacement
use Rattle.mb_instr.specs.declared.kinds.Condition.{Condition}
use Rattle.mb_instr.specs.declared.kinds.Condition.TheVariants as condition
use Rattle.mb_instr.specs.declared.registers.Plain.{Plain}
use Rattle.mb_instr.specs.Sizes.{low_of, sign_extended}
use Rattle.mb_instr.specs.Registers.{data_register, with_data_register, address_register}
use Rattle.mb_ea.specs.Addresses.{sum, difference}
use Rattle.def_instructions.specs.Ends.{Rowed, carried, jumped, reading}
use Rattle.def_instructions.specs.Operands.{with_low, find_address_of, stack_lowered, push_of}
use Rattle.def_instructions.specs.Conditions.{is_met}

-- a displacement as a signed long
abbrev pub branch_displacement_of : Branch → ℕ
branch_displacement_of (displacement.Byte b) = sign_extended Byte b
branch_displacement_of (displacement.Word w) = sign_extended Word w
branch_displacement_of (displacement.Long l) = l

-- the displacement counts from the word behind the instruction's first
abbrev pub target_of : ℕ → Branch → ℕ
target_of word_at d = sum word_at (branch_displacement_of d)

-- the condition F, which BSR has in a branch
abbrev pub is_call : Condition → Bool
is_call condition.True = false
is_call condition.False = true
is_call condition.High = false
is_call condition.LowOrSame = false
is_call condition.CarryClear = false
is_call condition.CarrySet = false
is_call condition.NotEqual = false
is_call condition.Equal = false
is_call condition.OverflowClear = false
is_call condition.OverflowSet = false
is_call condition.Plus = false
is_call condition.Minus = false
is_call condition.GreaterOrEqual = false
is_call condition.LessThan = false
is_call condition.GreaterThan = false
is_call condition.LessOrEqual = false

-- the next instruction's address is pushed, and the flow goes to the target
abbrev pub call_of : ℕ → Space → Plain → Routine Rowed
call_of target space p =
    let after = record (stack_lowered p) { pc = target } in
    push_of p.pc (address_register after 7) space after >> Return (jumped after)

-- to the target where the condition is met, else to the next instruction
abbrev pub go_if_met_of : Condition → ℕ → Plain → Rowed
go_if_met_of c target p = if is_met c p.ccr then jumped (record p { pc = target }) else carried p

-- Bcc, with BRA for the condition T and BSR for F
abbrev pub branch_of : Condition → Branch → ℕ → Space → Plain → Routine Rowed
branch_of c d word_at space p =
    choose (is_call c) (call_of (target_of word_at d) space p) (Return (go_if_met_of c (target_of word_at d) p))

-- a data register whose low word, which counts, is less by one
abbrev pub count_down_of : ℕ → Plain → Plain
count_down_of n p =
    let count = data_register p n in
    with_data_register p n (with_low Word count (difference count 1))

-- the count falls by one, and the flow goes to the target unless it fell to -1
abbrev pub go_if_counted_of : ℕ → ℕ → Plain → Rowed
go_if_counted_of n target p =
    let after = count_down_of n p in
    if low_of Word (data_register after n) == 2 ^ 16 - 1 then carried after else jumped (record after { pc = target })

-- DBcc: to the next instruction where the condition is met, else one more turn where the count allows it
abbrev pub dbcc_of : Condition → ℕ → ℕ → ℕ → Plain → Rowed
dbcc_of c n d word_at p =
    if is_met c p.ccr then carried p else go_if_counted_of n (target_of word_at (displacement.Word d)) p

-- JMP: to the address of the operand
abbrev pub jmp_of : Ea → ℕ → Space → Plain → Routine Rowed
jmp_of ea word_at space p = do
  target ← reading (find_address_of Long ea word_at space p)
  Return (jumped (record p { pc = target }))

-- JSR: the address is formed, then the next instruction's is pushed
abbrev pub jsr_of : Ea → ℕ → Space → Plain → Routine Rowed
jsr_of ea word_at space p = do
  target ← reading (find_address_of Long ea word_at space p)
  call_of target space p
