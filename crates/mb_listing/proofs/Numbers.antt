-- The numbers of a statement that is read: sums of one number, which are known and narrow.
use Rattle.std.proofs.Common.{◌≡◌, ℕ, suc, Bool, false, List, [], ◌∷◌, map, refl, ap, zero-add, arith}
use Rattle.std.specs.Prelude.{ℤ, pos, negsuc, ◌+ℤ◌, Option, Some, None, option_map}
use Rattle.std.specs.List.{list_any}
use Rattle.std.proofs.lemmas.Bool.{lt-ltb}
use Rattle.mb_syntax.specs.declared.mode.Displacement.{Displacement}
use Rattle.mb_syntax.specs.declared.mode.Mode.{Mode}
use Rattle.mb_syntax.specs.declared.mode.Mode.TheVariants as mode
use Rattle.mb_syntax.specs.declared.operand.FieldNumber.{FieldNumber}
use Rattle.mb_syntax.specs.declared.operand.FieldNumber.TheVariants as field_number
use Rattle.mb_syntax.specs.declared.operand.Operand.{Operand}
use Rattle.mb_syntax.specs.declared.operand.Operand.TheVariants as operand
use Rattle.mb_syntax.specs.Options.{has}
use Rattle.mb_syntax.specs.Modes.{Sum}
use Rattle.mb_mnemonics.specs.Values.{valued, valued_displacement, valued_mode, valued_number}
use Rattle.mb_asm.specs.Values.{Scope, has_flaw, have_flaw, in_displacement, in_mode, in_number, in_operand, value_of, value_or_one, values_of}
use Rattle.mb_statement.specs.Read.{sum_of}
use Rattle.mb_statement.proofs.PartsRead.{Domain}

-- ---- what no number has, no operand has

module _ (test : Sum → Bool) (none : (e : ℤ) → test (sum_of e) ≡ false) where
  in_no_displacement : (d : Option (Displacement ℤ)) → has (in_displacement test) (option_map (valued_displacement sum_of) d) ≡ false
  in_no_displacement None = refl
  in_no_displacement (Some d) = none d.value

  in_no_mode : (m : Mode ℤ) → in_mode test (valued_mode sum_of m) ≡ false
  in_no_mode (mode.Data n) = refl
  in_no_mode (mode.Address n) = refl
  in_no_mode (mode.Indirect n) = refl
  in_no_mode (mode.PostIncrement n) = refl
  in_no_mode (mode.PreDecrement n) = refl
  in_no_mode (mode.Displaced n e) = none e
  in_no_mode (mode.Indexed n e i) = none e
  in_no_mode (mode.Absolute e w) = none e
  in_no_mode (mode.PcDisplaced e) = none e
  in_no_mode (mode.PcIndexed e i) = none e
  in_no_mode (mode.Full f) = rw (in_no_displacement f.displacement) (in_no_displacement f.outer)
  in_no_mode (mode.Immediate e) = none e

  in_no_number : (n : FieldNumber ℤ) → in_number test (valued_number sum_of n) ≡ false
  in_no_number (field_number.Data n) = refl
  in_no_number (field_number.Number e) = none e

  in_no_operand : (o : Operand ℤ) → in_operand test (valued sum_of o) ≡ false
  in_no_operand (operand.Mode m) = in_no_mode m
  in_no_operand (operand.Field m f) = rw (in_no_mode m, in_no_number f.offset) (in_no_number f.width)
  in_no_operand operand.Sr = refl
  in_no_operand operand.Ccr = refl
  in_no_operand (operand.Control c) = refl
  in_no_operand (operand.List mask) = refl
  in_no_operand (operand.Pair n m) = refl
  in_no_operand (operand.IndirectPair n m) = refl
  in_no_operand (operand.Caches c) = refl
  in_no_operand (operand.Text t) = refl

  in_none : (os : List (Operand ℤ)) → list_any (in_operand test) (map (valued sum_of) os) ≡ false
  in_none [] = refl
  in_none (o ∷ os) = rw (in_no_operand o) (in_none os)

-- the kinds of flaws
abbrev pub Flaw : Type 0
Flaw = Domain has_flaw

sum_has_no : (k : Flaw) (scope : Scope) (e : ℤ) → has_flaw k scope (sum_of e) ≡ false
sum_has_no k scope (pos n) = grind arith
sum_has_no k scope (negsuc n) = grind arith

-- what is read has no flaw
pub no_flaw : (scope : Scope) (os : List (Operand ℤ)) (k : Flaw) → have_flaw k scope (map (valued sum_of) os) ≡ false
no_flaw scope os k = in_none (has_flaw k scope) (sum_has_no k scope) os

-- ---- the values of what is read are the numbers

below_zero : (n : ℕ) → pos 0 +ℤ negsuc n ≡ negsuc n
below_zero n =
    let less = lt-ltb 0 (suc n) (omega arith) in
    rw less (ap negsuc (omega arith))

pub sum_value : (scope : Scope) (e : ℤ) → value_of scope (sum_of e) ≡ Some e
sum_value scope (pos n) = ap (λ (m : ℕ). Some (pos m)) (zero-add n)
sum_value scope (negsuc n) = ap (λ (z : ℤ). Some z) (below_zero n)

module _ (value : Sum → ℤ) (same : (e : ℤ) → value (sum_of e) ≡ e) where
  again_displacement : (d : Option (Displacement ℤ)) → option_map (valued_displacement value) (option_map (valued_displacement sum_of) d) ≡ d
  again_displacement None = refl
  again_displacement (Some d) = rw (same d.value) refl

  again_mode : (m : Mode ℤ) → valued_mode value (valued_mode sum_of m) ≡ m
  again_mode (mode.Data n) = refl
  again_mode (mode.Address n) = refl
  again_mode (mode.Indirect n) = refl
  again_mode (mode.PostIncrement n) = refl
  again_mode (mode.PreDecrement n) = refl
  again_mode (mode.Displaced n e) = rw (same e) refl
  again_mode (mode.Indexed n e i) = rw (same e) refl
  again_mode (mode.Absolute e w) = rw (same e) refl
  again_mode (mode.PcDisplaced e) = rw (same e) refl
  again_mode (mode.PcIndexed e i) = rw (same e) refl
  again_mode (mode.Full f) = rw (again_displacement f.displacement, again_displacement f.outer) refl
  again_mode (mode.Immediate e) = rw (same e) refl

  again_number : (n : FieldNumber ℤ) → valued_number value (valued_number sum_of n) ≡ n
  again_number (field_number.Data n) = refl
  again_number (field_number.Number e) = rw (same e) refl

  again : (o : Operand ℤ) → valued value (valued sum_of o) ≡ o
  again (operand.Mode m) = ap operand.Mode (again_mode m)
  again (operand.Field m f) = rw (again_mode m, again_number f.offset, again_number f.width) refl
  again operand.Sr = refl
  again operand.Ccr = refl
  again (operand.Control c) = refl
  again (operand.List mask) = refl
  again (operand.Pair n m) = refl
  again (operand.IndirectPair n m) = refl
  again (operand.Caches c) = refl
  again (operand.Text t) = refl

  all_again : (os : List (Operand ℤ)) → map (valued value) (map (valued sum_of) os) ≡ os
  all_again [] = refl
  all_again (o ∷ os) = rw (again o, all_again os) refl

one_value : (scope : Scope) (e : ℤ) → value_or_one scope (sum_of e) ≡ e
one_value scope e = rw (sum_value scope e) refl

pub values_again : (scope : Scope) (os : List (Operand ℤ)) → values_of scope (map (valued sum_of) os) ≡ os
values_again scope os = all_again (value_or_one scope) (one_value scope) os
