-- Rows whose operands are data registers.
use Rattle.std.proofs.Common.{◌≡◌, ℕ, ◌<◌, refl, true, arith, ap}
use Rattle.std.specs.Prelude.{Bool, nat_lt}
use Rattle.std.proofs.lemmas.Bool.Decides.{nat_tests}
use Rattle.mb_port.specs.Routine.{Bus, run, other_fault}
use Rattle.mb_port.specs.declared.types.Space.{Space}
use Rattle.mb_instr.specs.declared.size.Size.{Size}
use Rattle.mb_instr.specs.declared.size.Size.TheVariants.{Byte}
use Rattle.mb_instr.specs.declared.kinds.Condition.{Condition}
use Rattle.mb_instr.specs.declared.operand.Ea.TheVariants.{Dn}
use Rattle.mb_instr.specs.declared.instruction.Instr.{Instr}
use Rattle.mb_instr.specs.declared.registers.Plain.{Plain}
use Rattle.mb_instr.specs.Sizes.{low_of}
use Rattle.mb_instr.specs.Registers.{data_register, with_data_register}
use Rattle.mb_ea.specs.Resolve.{resolve_of}
use Rattle.def_instructions.specs.Ends.{Rowed, carried, went, restored}
use Rattle.def_instructions.specs.Conditions.{is_met}
use Rattle.def_instructions.specs.Operands.{with_low}
use Rattle.def_instructions.specs.Moves.{move_operand_of, scc_of, condition_byte}
use Rattle.def_instructions.specs.Arithmetic.{take_of}
use Rattle.def_instructions.specs.Unary.{clr_of}
use Rattle.mb_ops_arith.proofs.WithoutBus.{taken, without_bus}
use Rattle.def_instructions.specs.Rows.{row_of, perform_of}
use Rattle.mb_short.specs.Moved.{moved_to}
use Rattle.mb_short.specs.Taken.{gone}

-- a data register is one of the first eight
pub is_data : (n : ℕ) → n < 8 → nat_lt n 8 ≡ true
is_data n h = grind (arith, nat_tests)

pub copied : {S : Type 0} (bus : Bus S) (size : Size) (n m word_at : ℕ) (space : Space) (p : Plain) (s : S) → n < 8 → m < 8
    → run bus (move_operand_of size (Dn n) (Dn m) word_at space p) s ≡ (carried (moved_to n size (low_of size (data_register p m)) p), s)
unfolding resolve_of
copied bus size n m word_at space p s h k = rw (is_data m k, is_data n h) refl

-- CLR
pub cleared : {S : Type 0} (bus : Bus S) (size : Size) (n word_at : ℕ) (space : Space) (p : Plain) (s : S) → n < 8
    → run bus (clr_of size (Dn n) word_at space p) s ≡ (carried (moved_to n size 0 p), s)
unfolding resolve_of
cleared bus size n word_at space p s h = rw (is_data n h) refl

-- Scc
pub conditioned : {S : Type 0} (bus : Bus S) (c : Condition) (n word_at : ℕ) (space : Space) (p : Plain) (s : S) → n < 8
    → run bus (scc_of c (Dn n) word_at space p) s
    ≡ (carried (with_data_register p n (with_low Byte (data_register p n) (condition_byte (is_met c p.ccr)))), s)
unfolding resolve_of
conditioned bus c n word_at space p s h = rw (is_data n h) refl

-- a row that is carried out is its instruction
pub goes : {S : Type 0} (bus : Bus S) (i : Instr) (at : ℕ) (space : Space) (p q : Plain) (flow : Bool) (s t : S)
    → run bus (row_of i at space p) s ≡ (went flow q, t) → run bus (perform_of i at space p) s ≡ (gone flow q, t)
goes bus i at space p q flow s t h = ap (λ (x : Rowed × _). (other_fault (restored p) x.0, x.1)) h

-- an operand in a data register is at hand
pub taken_register : {S : Type 0} (bus : Bus S) (effect : ℕ → Plain → Rowed) (size : Size) (m word_at : ℕ) (space : Space) (p : Plain) (s : S)
    → m < 8 → run bus (take_of effect size (Dn m) word_at space p) s ≡ (effect (low_of size (data_register p m)) p, s)
taken_register bus effect size m word_at space p s h = taken bus effect size (Dn m) (low_of size (data_register p m)) word_at space p s (h, refl)

pub ruleset rows = (without_bus, copied, cleared, conditioned, taken_register)
