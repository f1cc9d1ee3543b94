-- Sums and differences.
use Rattle.std.specs.Prelude.{ℕ, ◌+◌, ◌-◌, pos, ◌+ℤ◌, ◌-ℤ◌, Bool, true, false, ◌&&◌, ◌||◌, not, nat_le, nat_lt}
use Rattle.std.specs.Int.{from_bool}
use Rattle.mb_instr.specs.declared.size.Size.{Size}
use Rattle.mb_instr.specs.Sizes.{values_of, low_of}
use Rattle.mb_alu.specs.declared.conditions.Flagged.{Flagged}
use Rattle.mb_alu.specs.declared.conditions.Conditions.{Conditions}
use Rattle.mb_alu.specs.Conditions.{conditions_of, ccr_of}
use Rattle.mb_alu.specs.Signs.{is_negative, is_zero, signed_of, fits}

-- X, where the sum or the difference is extended
abbrev pub carry_in : Bool → ℕ → ℕ
carry_in extended ccr = from_bool (extended && (conditions_of ccr).x)

-- Z of a sum or a difference: an extended one that is zero leaves it
abbrev pub zero_of : Size → ℕ → ℕ → Bool → Bool
zero_of size value ccr extended = is_zero size value && (not extended || (conditions_of ccr).z)

-- y + x, and X where extended: carry is that the unsigned sum reaches the number of values, overflow
-- that the signed sum leaves the signed range
abbrev pub add_of : Size → ℕ → ℕ → ℕ → Bool → Flagged
add_of size x y ccr extended =
    let sum = low_of size y + low_of size x + carry_in extended ccr in
    let signed_sum = signed_of size y +ℤ signed_of size x +ℤ pos (carry_in extended ccr) in
    let carry = nat_le (values_of size) sum in
    record {
      value = low_of size sum;
      ccr = ccr_of (record {
        x = carry;
        n = is_negative size sum;
        z = zero_of size sum ccr extended;
        v = not (fits true (values_of size) signed_sum);
        c = carry;
      });
    }

-- y - x, less X where extended, modulo the number of values
abbrev pub difference_of : Size → ℕ → ℕ → ℕ → Bool → ℕ
difference_of size x y ccr extended =
    low_of size (low_of size y + values_of size - (low_of size x + carry_in extended ccr))

-- carry is that more is taken away than is there, overflow that the signed difference leaves the
-- signed range
abbrev pub difference_codes : Size → ℕ → ℕ → ℕ → Bool → Conditions
difference_codes size x y ccr extended =
    let difference = difference_of size x y ccr extended in
    let signed_difference = signed_of size y -ℤ signed_of size x -ℤ pos (carry_in extended ccr) in
    let borrow = nat_lt (low_of size y) (low_of size x + carry_in extended ccr) in
    record {
      x = borrow;
      n = is_negative size difference;
      z = zero_of size difference ccr extended;
      v = not (fits true (values_of size) signed_difference);
      c = borrow;
    }

abbrev pub sub_of : Size → ℕ → ℕ → ℕ → Bool → Flagged
sub_of size x y ccr extended = record {
  value = difference_of size x y ccr extended;
  ccr = ccr_of (difference_codes size x y ccr extended);
}

-- the condition codes of y - x, with X as it was
abbrev pub compare_of : Size → ℕ → ℕ → ℕ → ℕ
compare_of size x y ccr = ccr_of (record (difference_codes size x y ccr false) { x = (conditions_of ccr).x })
