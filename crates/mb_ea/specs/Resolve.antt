-- The addressing modes.
use Rattle.std.specs.Prelude.{ℕ, ◌+◌, ◌==◌, nat_lt, Result, Ok, Err, if◌then◌else◌}
use Rattle.mb_port.specs.Routine.{Routine, Return, ◌>>=◌, choose}
use Rattle.mb_port.specs.declared.types.Space.{Space}
use Rattle.mb_ea.specs.declared.reading.ReadFault.{ReadFault}
use Rattle.mb_instr.specs.declared.size.Size.{Size}
use Rattle.mb_instr.specs.declared.size.Size.TheVariants.{Byte, Word}
use Rattle.mb_instr.specs.declared.operand.Ea.{Ea}
use Rattle.mb_instr.specs.declared.operand.Ea.TheVariants.{Dn, An, Ind, Post, Pre, Disp, Index}
use Rattle.mb_instr.specs.declared.operand.Ea.TheVariants.{AbsW, AbsL, PcDisp, PcIndex, Imm}
use Rattle.mb_instr.specs.declared.operand.Ext.{Ext}
use Rattle.mb_instr.specs.declared.operand.Ext.TheVariants.{Brief, Full}
use Rattle.mb_instr.specs.declared.registers.Plain.{Plain}
use Rattle.mb_instr.specs.Sizes.{low_of, sign_extended}
use Rattle.mb_instr.specs.Registers.{address_register, with_address_register}
use Rattle.mb_instr.specs.FurtherWords.{extension_word}
use Rattle.mb_ea.specs.declared.addresses.Target.{Target}
use Rattle.mb_ea.specs.declared.addresses.Target.TheVariants.{Reg, Memory, Value}
use Rattle.mb_ea.specs.declared.resolving.Parts.{Parts}
use Rattle.mb_ea.specs.Reading.{read_operand_of}
use Rattle.mb_ea.specs.Addresses.{sum, difference, increment_of, index_of, displacement_of}

-- what a full extension word spells
abbrev pub parts_of : ℕ → ℕ → ℕ → ℕ → Plain → Parts
parts_of base w bd od p = let e = extension_word w in record {
  base = if e.leaves_base == 1 then 0 else base;
  displacement = displacement_of e.base_width bd;
  index = if e.leaves_index == 1 then 0 else index_of w p;
  outer = displacement_of e.outer_width od;
}

-- the address, where it is the long that stands in memory and an outer displacement
abbrev pub indirect_of : Space → ℕ → ℕ → Routine (Result ℕ ReadFault)
indirect_of space at outer = do
  long ← read_operand_of space at 4
  Return (Ok (sum long outer))

-- without indirection; preindexed, where the index counts before the long is read; postindexed, where it
-- counts after
abbrev pub full_of : ℕ → Parts → Space → Routine (Result ℕ ReadFault)
full_of w parts space =
    let kind = (extension_word w).indirection in
    choose (kind == 0) (Return (Ok (sum (sum parts.base parts.displacement) parts.index)))
    (choose (nat_lt kind 4) (indirect_of space (sum (sum parts.base parts.displacement) parts.index) parts.outer)
    (indirect_of space (sum parts.base parts.displacement) (sum parts.index parts.outer)))

-- a base with an index
abbrev pub indexed_of : ℕ → Ext → Space → Plain → Routine (Result ℕ ReadFault)
indexed_of base (Brief w) space p = Return (Ok (sum (sum base (sign_extended Byte w)) (index_of w p)))
indexed_of base (Full w bd od) space p = full_of w (parts_of base w bd od p) space

-- A target, and the registers after it was formed.
pub record Resolved : Type 0 where
  pub target : Target
  pub plain : Plain

-- a target that leaves the registers as they were
abbrev pub resolved_to : Target → Plain → Routine (Result Resolved ReadFault)
resolved_to target p = Return (Ok (record { target = target; plain = p }))

abbrev pub in_memory : Plain → Routine (Result ℕ ReadFault) → Routine (Result Resolved ReadFault)
in_memory p address = do
  at ← address
  resolved_to (Memory at) p

-- The target of an operand. `word_at` is the address of its first extension word, which is the base of the
-- modes relative to the PC. A memory indirection reads its long as an operand, in the space that is given.
unfoldable pub resolve_of : Ea → Size → ℕ → Space → Plain → Routine (Result Resolved ReadFault)
resolve_of (Dn n) size word_at space p = resolved_to (Reg n) p
resolve_of (An n) size word_at space p = resolved_to (Reg (8 + n)) p
resolve_of (Ind n) size word_at space p = resolved_to (Memory (address_register p n)) p
resolve_of (Post n) size word_at space p =
    resolved_to (Memory (address_register p n))
    (with_address_register p n (sum (address_register p n) (increment_of size n)))
resolve_of (Pre n) size word_at space p =
    let at = difference (address_register p n) (increment_of size n) in
    resolved_to (Memory at) (with_address_register p n at)
resolve_of (Disp n d) size word_at space p = resolved_to (Memory (sum (address_register p n) (sign_extended Word d))) p
resolve_of (Index n e) size word_at space p = in_memory p (indexed_of (address_register p n) e space p)
resolve_of (AbsW a) size word_at space p = resolved_to (Memory (sign_extended Word a)) p
resolve_of (AbsL a) size word_at space p = resolved_to (Memory a) p
resolve_of (PcDisp d) size word_at space p = resolved_to (Memory (sum word_at (sign_extended Word d))) p
resolve_of (PcIndex e) size word_at space p = in_memory p (indexed_of word_at e space p)
resolve_of (Imm v) size word_at space p = resolved_to (Value (low_of size v)) p

-- the registers once the operand's target was found: that of (An)+ has gone up, and that of -(An) down
abbrev pub step_over_of : Ea → Size → Plain → Plain
step_over_of (Post n) size p = with_address_register p n (sum (address_register p n) (increment_of size n))
step_over_of (Pre n) size p = with_address_register p n (difference (address_register p n) (increment_of size n))
step_over_of ea size p = p

-- what a call answered, with the registers after it
abbrev pub resolved : Result Target ReadFault → Plain → Result Resolved ReadFault
resolved (Ok target) p = Ok (record { target = target; plain = p })
resolved (Err fault) p = Err fault
