-- Rows whose operands are at hand ask nothing of the bus.
use Rattle.std.proofs.Common.{◌≡◌, ℕ, ◌<◌, refl, true, Ok, arith}
use Rattle.std.specs.Prelude.{nat_lt}
use Rattle.std.proofs.lemmas.Bool.Decides.{nat_tests}
use Rattle.mb_port.specs.Routine.{Bus, run}
use Rattle.mb_port.specs.declared.types.Space.{Space}
use Rattle.mb_instr.specs.declared.size.Size.{Size}
use Rattle.mb_instr.specs.declared.operand.Ea.{Ea}
use Rattle.mb_instr.specs.declared.operand.Ea.TheVariants.{Dn, Imm, An, Ind, Post, Pre, Disp, Index, AbsW, AbsL, PcDisp, PcIndex}
use Rattle.mb_instr.specs.declared.registers.Plain.{Plain}
use Rattle.mb_instr.specs.Sizes.{low_of}
use Rattle.mb_instr.specs.Registers.{data_register}
use Rattle.mb_alu.specs.declared.conditions.Flagged.{Flagged}
use Rattle.mb_alu.specs.Sums.{compare_of}
use Rattle.mb_ea.specs.declared.addresses.Target.{Target}
use Rattle.mb_ea.specs.declared.addresses.Target.TheVariants.{Reg, Value}
use Rattle.mb_ea.specs.Resolve.{resolve_of}
use Rattle.def_instructions.specs.Ends.{Rowed, carried}
use Rattle.def_instructions.specs.Operands.{behind_of, fetch_operand_of}
use Rattle.def_instructions.specs.Arithmetic.{combine_of, compare_pair_of, take_of}
use Rattle.def_instructions.specs.Modifying.{modify_of}
use Rattle.def_instructions.specs.Unary.{put_in_register_of}
use Rattle.mb_ops_arith.specs.AtHand.{IsAtHand}

is_data : (n : ℕ) → n < 8 → nat_lt n 8 ≡ true
is_data n h = grind (arith, nat_tests)

-- where such an operand stands
abbrev target_of : Size → Ea → Target
target_of size (Dn n) = Reg n
target_of size (Imm v) = Value (low_of size v)
target_of size other = Value 0

-- ---- the operand

in_register_n : {S : Type 0} (bus : Bus S) (size : Size) (n word_at : ℕ) (space : Space) (p : Plain) (s : S) → n < 8
    → run bus (fetch_operand_of size (Dn n) word_at space p) s ≡ (Ok (record { target = Reg n; value = low_of size (data_register p n); plain = p }), s)
unfolding resolve_of
in_register_n bus size n word_at space p s h = rw (is_data n h) refl

at_hand : {S : Type 0} (bus : Bus S) (size : Size) (ea : Ea) (value word_at : ℕ) (space : Space) (p : Plain) (s : S) → IsAtHand size ea p value
    → run bus (fetch_operand_of size ea word_at space p) s ≡ (Ok (record { target = target_of size ea; value = value; plain = p }), s)
unfolding resolve_of
at_hand bus size (Dn n) value word_at space p s h = rw (is_data n h.0, h.1) refl
at_hand bus size (Imm v) value word_at space p s h = rw h refl
at_hand bus size (An n) value word_at space p s h = absurd h
at_hand bus size (Ind n) value word_at space p s h = absurd h
at_hand bus size (Post n) value word_at space p s h = absurd h
at_hand bus size (Pre n) value word_at space p s h = absurd h
at_hand bus size (Disp n d) value word_at space p s h = absurd h
at_hand bus size (Index n e) value word_at space p s h = absurd h
at_hand bus size (AbsW a) value word_at space p s h = absurd h
at_hand bus size (AbsL a) value word_at space p s h = absurd h
at_hand bus size (PcDisp d) value word_at space p s h = absurd h
at_hand bus size (PcIndex e) value word_at space p s h = absurd h

-- ---- rows

combined : {S : Type 0} (bus : Bus S) (operation : ℕ → ℕ → ℕ → Flagged) (size : Size) (source : Ea) (value register word_at : ℕ) (space : Space)
    (p : Plain) (s : S) → IsAtHand size source p value → register < 8
    → run bus (combine_of operation size source (Dn register) word_at space p) s
    ≡ (carried (put_in_register_of register size (operation value (low_of size (data_register p register)) p.ccr) p), s)
combined bus operation size source value register word_at space p s h k =
    let destination = in_register_n bus size register (behind_of size source word_at) space p s k in
    rw (run, at_hand bus size source value word_at space p s h, destination, is_data register k) refl

pub combined_registers : {S : Type 0} (bus : Bus S) (operation : ℕ → ℕ → ℕ → Flagged) (size : Size) (source register word_at : ℕ) (space : Space)
    (p : Plain) (s : S) → source < 8 → register < 8
    → run bus (combine_of operation size (Dn source) (Dn register) word_at space p) s
    ≡ (carried (put_in_register_of register size (operation (low_of size (data_register p source)) (low_of size (data_register p register)) p.ccr) p), s)
combined_registers bus operation size source register word_at space p s h k =
    combined bus operation size (Dn source) (low_of size (data_register p source)) register word_at space p s (h, refl) k

pub combined_immediate : {S : Type 0} (bus : Bus S) (operation : ℕ → ℕ → ℕ → Flagged) (size : Size) (value register word_at : ℕ) (space : Space)
    (p : Plain) (s : S) → register < 8 → run bus (combine_of operation size (Imm value) (Dn register) word_at space p) s
    ≡ (carried (put_in_register_of register size (operation (low_of size value) (low_of size (data_register p register)) p.ccr) p), s)
combined_immediate bus operation size value register word_at space p s k =
    combined bus operation size (Imm value) (low_of size value) register word_at space p s refl k

pub compared : {S : Type 0} (bus : Bus S) (size : Size) (source : Ea) (value register word_at : ℕ) (space : Space) (p : Plain) (s : S)
    → IsAtHand size source p value → register < 8
    → run bus (compare_pair_of size source (Dn register) word_at space p) s
    ≡ (carried (record p { ccr = compare_of size value (low_of size (data_register p register)) p.ccr }), s)
compared bus size source value register word_at space p s h k =
    let destination = in_register_n bus size register (behind_of size source word_at) space p s k in
    rw (run, at_hand bus size source value word_at space p s h, destination) refl

pub compared_immediate : {S : Type 0} (bus : Bus S) (size : Size) (value register word_at : ℕ) (space : Space) (p : Plain) (s : S) → register < 8
    → run bus (compare_pair_of size (Imm value) (Dn register) word_at space p) s
    ≡ (carried (record p { ccr = compare_of size (low_of size value) (low_of size (data_register p register)) p.ccr }), s)
compared_immediate bus size value register word_at space p s k =
    compared bus size (Imm value) (low_of size value) register word_at space p s refl k

pub modified : {S : Type 0} (bus : Bus S) (change : ℕ → ℕ → Flagged) (size : Size) (register word_at : ℕ) (space : Space) (p : Plain) (s : S)
    → register < 8 → run bus (modify_of change size (Dn register) word_at space p) s
    ≡ (carried (put_in_register_of register size (change (low_of size (data_register p register)) p.ccr) p), s)
modified bus change size register word_at space p s k = rw (run, in_register_n bus size register word_at space p s k, is_data register k) refl

pub taken : {S : Type 0} (bus : Bus S) (effect : ℕ → Plain → Rowed) (size : Size) (ea : Ea) (value word_at : ℕ) (space : Space) (p : Plain) (s : S)
    → IsAtHand size ea p value → run bus (take_of effect size ea word_at space p) s ≡ (effect value p, s)
taken bus effect size ea value word_at space p s h = rw (run, at_hand bus size ea value word_at space p s h) refl

pub ruleset without_bus = (combined_registers, combined_immediate, compared, compared_immediate, modified, taken)
