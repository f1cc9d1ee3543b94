-- A register that is set among all sixteen is read back.
use Rattle.std.proofs.Common.{◌≡◌, ◌∙◌, ◌<◌, ℕ, ◌+◌, ◌-◌, Bool, true, false, cond, List, [], ◌∷◌, ◌++◌}
use Rattle.std.proofs.Common.{take, length, length-append, nat_lt, arith, refl, ap, subst, sym}
use Rattle.std.proofs.lemmas.List.{get_or-set_same, length-set}
use Rattle.std.proofs.lemmas.Bool.Decides.{nat_tests}
use Rattle.mb_instr.specs.declared.registers.Plain.{Plain}
use Rattle.mb_instr.specs.declared.registers.Regs.{Regs}
use Rattle.mb_instr.specs.Registers.{active_stack, plain_of, with_plain}
use Rattle.mb_instr.specs.Registers.{data_register, with_data_register, address_register, with_address_register}
use Rattle.mb_instr.specs.Registers.{register_of, with_register}
use Rattle.mb_instr.proofs.PlainRegisters.{plain_found}
use Rattle.law_settings.specs.Control.{HasRegisters}

-- ---- one of sixteen

lt_is : (a b : ℕ) → nat_lt a b ≡ true → a < b
lt_is a b h = grind (arith, nat_tests)

abbrev with_by : Bool → Plain → ℕ → ℕ → Plain
with_by b p m v = cond b (with_data_register p m v) (with_address_register p (m - 8) v)

abbrev in_by : Bool → Plain → ℕ → ℕ
in_by b p m = cond b (data_register p m) (address_register p (m - 8))

again_by : (b : Bool) (p : Plain) (m v : ℕ) → length p.d ≡ 8 → length p.a ≡ 8 → m < 16 → nat_lt m 8 ≡ b → in_by b (with_by b p m v) m ≡ v
again_by true p m v d a small e = get_or-set_same p.d m v 0 (subst (λ (n : ℕ). m < n) (sym d) (lt_is m 8 e))
again_by false p m v d a small e = get_or-set_same p.a (m - 8) v 0 (subst (λ (n : ℕ). m - 8 < n) (sym a) (omega arith))

length_by : (b : Bool) (p : Plain) (m v : ℕ) → length p.a ≡ 8 → length (with_by b p m v).a ≡ 8
length_by true p m v a = a
length_by false p m v a = length-set p.a (m - 8) v ∙ a

codes_by : (b : Bool) (p : Plain) (m v : ℕ) → p.ccr < 32 → (with_by b p m v).ccr < 32
codes_by true p m v less = less
codes_by false p m v less = less

-- ---- the registers of a processor

pub eight_addresses : (r : Regs) → HasRegisters r → length (plain_of r).a ≡ 8
eight_addresses r has = length-append r.a (active_stack r ∷ []) ∙ ap (λ (n : ℕ). n + 1) has.address_registers

eight_data : (r : Regs) → HasRegisters r → length (plain_of r).d ≡ 8
eight_data r has = has.data_registers

five_codes : (r : Regs) → (plain_of r).ccr < 32
five_codes r = omega arith

-- register m of all sixteen
pub register_again : (r : Regs) (m v : ℕ) → HasRegisters r → m < 16
    → register_of (plain_of (with_plain r (with_register (plain_of r) m v))) m ≡ v
register_again r m v has small =
    let p = plain_of r in
    let b = nat_lt m 8 in
    ap (λ (q : Plain). register_of q m)
    (plain_found r (with_by b p m v) (length_by b p m v (eight_addresses r has)) (codes_by b p m v (five_codes r)))
    ∙ again_by b p m v (eight_data r has) (eight_addresses r has) small refl

-- address register m
pub address_again : (r : Regs) (m v : ℕ) → HasRegisters r → m < 8
    → address_register (plain_of (with_plain r (with_address_register (plain_of r) m v))) m ≡ v
address_again r m v has small =
    let p = plain_of r in
    ap (λ (q : Plain). address_register q m)
    (plain_found r (with_address_register p m v) (length-set p.a m v ∙ eight_addresses r has) (five_codes r))
    ∙ get_or-set_same p.a m v 0 (subst (λ (n : ℕ). m < n) (sym (eight_addresses r has)) small)

seven : (xs : List ℕ) (x : ℕ) → length xs ≡ 7 → length (take 7 (xs ++ x ∷ [])) ≡ 7
seven (a ∷ b ∷ c ∷ d ∷ e ∷ f ∷ g ∷ []) x n = refl
seven _ x n = absurd (omega arith)

-- a processor whose own registers are put into it has as many, whatever its SR becomes
pub has_again : (r : Regs) (sr : ℕ) → HasRegisters r
    → HasRegisters (let q = with_plain r (plain_of r) in record q { sr = sr })
has_again r sr has = record {
  data_registers = has.data_registers;
  address_registers = seven r.a (active_stack r) has.address_registers;
}
