-- Logic, bit by bit.
use Rattle.std.specs.Prelude.{ℕ, ◌-◌, ◌^◌, bit_and, bit_or, bit_xor, false}
use Rattle.mb_instr.specs.declared.size.Size.{Size}
use Rattle.mb_instr.specs.Sizes.{low_of}
use Rattle.mb_alu.specs.declared.conditions.Flagged.{Flagged}
use Rattle.mb_alu.specs.declared.bitwise.LogicKind.{LogicKind}
use Rattle.mb_alu.specs.declared.bitwise.LogicKind.TheVariants.{And, Or, Eor, Not, Pass}
use Rattle.mb_alu.specs.Conditions.{conditions_of, ccr_of}
use Rattle.mb_alu.specs.Signs.{is_negative, is_zero}

-- the result, as longs; at a shorter size its low bytes count
abbrev pub combined : LogicKind → ℕ → ℕ → ℕ
combined And x y = bit_and y x
combined Or x y = bit_or y x
combined Eor x y = bit_xor y x
combined Not x y = 2 ^ 32 - 1 - x
combined Pass x y = x

-- a value with N and Z by it, V and C clear, and X as it was
abbrev pub moved_of : Size → ℕ → ℕ → Flagged
moved_of size value ccr = record {
  value = low_of size value;
  ccr = ccr_of (record {
    x = (conditions_of ccr).x;
    n = is_negative size value;
    z = is_zero size value;
    v = false;
    c = false;
  });
}

abbrev pub logic_of : LogicKind → Size → ℕ → ℕ → ℕ → Flagged
logic_of kind size x y ccr = moved_of size (combined kind x y) ccr
