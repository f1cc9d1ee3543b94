-- Shifts and rotates: so many shifts by one bit.
use Rattle.std.specs.Prelude.{ℕ, zero, suc, ◌+◌, ◌*◌, ◌/◌, ◌%◌, ◌==◌, Bool, true, false, ◌&&◌, ◌||◌, not, if◌then◌else◌}
use Rattle.std.specs.Bool.{beq}
use Rattle.std.specs.Int.{from_bool}
use Rattle.mb_instr.specs.declared.size.Size.{Size}
use Rattle.mb_instr.specs.Sizes.{values_of, low_of}
use Rattle.mb_alu.specs.declared.conditions.Flagged.{Flagged}
use Rattle.mb_alu.specs.declared.shifts.Shifting.{Shifting}
use Rattle.mb_instr.specs.declared.kinds.ShiftKind.{ShiftKind}
use Rattle.mb_instr.specs.declared.kinds.ShiftKind.TheVariants.{Arithmetic, Logical, RotateExtended, Rotate}
use Rattle.mb_alu.specs.Conditions.{conditions_of, ccr_of}
use Rattle.mb_alu.specs.Signs.{is_negative, is_zero}

-- the bit that leaves: the highest to the left, the lowest to the right
abbrev pub leaving : Bool → Size → ℕ → Bool
leaving left size value = if left then is_negative size value else value % 2 == 1

-- the bit that enters: 0, the sign, X, or the bit that leaves
abbrev pub entering : ShiftKind → Bool → Size → Bool → ℕ → Bool
entering Arithmetic true size x value = false
entering Arithmetic false size x value = is_negative size value
entering Logical left size x value = false
entering RotateExtended left size x value = x
entering Rotate left size x value = leaving left size value

-- the bits, with one that enters
abbrev pub by_one : Bool → Size → Bool → ℕ → ℕ
by_one left size enters value = if left
    then low_of size (2 * value + from_bool enters)
    else from_bool enters * (values_of size / 2) + value / 2

-- X takes the bit that leaves, but not from a rotate without X
abbrev pub extend_after : ShiftKind → Bool → Bool → Bool
extend_after Rotate x leaves = x
extend_after kind x leaves = leaves

abbrev pub is_arithmetic : ShiftKind → Bool
is_arithmetic Arithmetic = true
is_arithmetic kind = false

-- C before a bit has left: X where it is rotated too
abbrev pub carry_before : ShiftKind → Bool → Bool
carry_before RotateExtended x = x
carry_before kind x = false

abbrev pub shifted_by_one : ShiftKind → Bool → Size → Shifting → Shifting
shifted_by_one kind left size s =
    let value = by_one left size (entering kind left size s.x s.value) s.value in
    record {
      value = value;
      x = extend_after kind s.x (leaving left size s.value);
      c = leaving left size s.value;
      v = s.v || (is_arithmetic kind && not (beq (is_negative size s.value) (is_negative size value)));
    }

unfoldable pub repeated : ℕ → (Shifting → Shifting) → Shifting → Shifting
repeated zero step s = s
repeated (suc n) step s = step (repeated n step s)

abbrev pub unshifted : ShiftKind → ℕ → Bool → Shifting
unshifted kind value x = record { value = value; x = x; c = carry_before kind x; v = false }

abbrev pub shifted : ShiftKind → Bool → Size → ℕ → ℕ → Bool → Shifting
shifted kind left size count value x = repeated count (shifted_by_one kind left size) (unshifted kind value x)

abbrev pub shift_flagged : Size → Shifting → Flagged
shift_flagged size end = record {
  value = end.value;
  ccr = ccr_of (record {
    x = end.x;
    n = is_negative size end.value;
    z = is_zero size end.value;
    v = end.v;
    c = end.c;
  });
}

abbrev pub shift_of : ShiftKind → Bool → Size → ℕ → ℕ → ℕ → Flagged
shift_of kind left size count x ccr =
    shift_flagged size (shifted kind left size count (low_of size x) (conditions_of ccr).x)
