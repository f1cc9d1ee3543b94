-- MOVE to SR and MOVE to USP are read back.
use Rattle.std.proofs.Common.{◌≡◌, ◌∙◌, ◌<◌, ◌≤◌, ℕ, ◌-◌, ◌+◌, ◌%◌, ◌^◌, arith, refl, ap}
use Rattle.std.proofs.lemmas.Nat.{and_le_r}
use Rattle.mb_instr.specs.declared.size.Size.TheVariants.{Word}
use Rattle.mb_instr.specs.Registers.{plain_of, register_of}
use Rattle.mb_model.specs.declared.processor.Cpu.{Cpu}
use Rattle.mb_model.specs.declared.status.TheConstants.{STATUS_BITS}
use Rattle.mb_model.specs.Status.{kept_status}
use Rattle.mb_ea.specs.Resolve.{resolve_of}
use Rattle.def_instructions.specs.Operands.{with_low}
use Rattle.def_processor.specs.SystemEnds.{with_registers}
use Rattle.def_processor.specs.Status.{with_status, move_to_usp_of}
use Rattle.law_settings.specs.Control.{HasRegisters}
use Rattle.law_settings.specs.Status.{word_in, address_in, StatusIsKept, StatusIsReadBack, UspIsReadBack, UspIsControl}
use Rattle.law_settings.proofs.Registers.{register_again, address_again, has_again}

pub status_is_kept : {S : Type 0} → StatusIsKept S
unfolding resolve_of
status_is_kept bus n cpu s = refl

-- the word that was put in the low half
word_again : (old word : ℕ) → word < 2 ^ 16 → (old - old % 2 ^ 16 + word % 2 ^ 16) % 2 ^ 16 ≡ word
word_again old word small = omega arith

is_word : (word : ℕ) → kept_status word < 2 ^ 16
is_word word = let most : kept_status word ≤ STATUS_BITS = and_le_r word STATUS_BITS in omega arith

-- the processor between the two
abbrev between : ℕ → Cpu → Cpu
between n cpu = with_status (word_in cpu n) (with_registers (plain_of cpu.regs) cpu)

pub status_is_read_back : {S : Type 0} → StatusIsReadBack S
unfolding resolve_of
status_is_read_back bus n m cpu s has small =
    let status = kept_status (word_in cpu n) in
    let r = (between n cpu).regs in
    let old = register_of (plain_of r) m in
    ap (λ (x : ℕ). x % 2 ^ 16) (register_again r m (with_low Word old status) (has_again cpu.regs status has) (omega arith))
    ∙ word_again old status (is_word (word_in cpu n))

same_count : (n : ℕ) (cpu : Cpu) → HasRegisters cpu.regs → HasRegisters (move_to_usp_of n cpu).regs
same_count n cpu has = record { data_registers = has.data_registers; address_registers = has.address_registers }

usp_is : (n : ℕ) (cpu : Cpu) → (move_to_usp_of n cpu).regs.usp ≡ address_in cpu n
usp_is n cpu = refl

pub usp_is_read_back : UspIsReadBack
usp_is_read_back n m cpu has small =
    let r = (move_to_usp_of n cpu).regs in address_again r m r.usp (same_count n cpu has) small ∙ usp_is n cpu

pub usp_is_control : {S : Type 0} → UspIsControl S
usp_is_control bus n cpu s = refl
