-- A whole number as its sign and its magnitude.
use Rattle.std.specs.Prelude.{ℕ, ℤ, pos, neg_ℤ, Bool, true, false}
use Rattle.mb_alu.specs.declared.whole.Whole.{Whole}

abbrev pub signed_magnitude : Bool → ℕ → ℤ
signed_magnitude false n = pos n
signed_magnitude true n = neg_ℤ (pos n)

abbrev pub whole_of : Whole → ℤ
whole_of w = signed_magnitude w.negative w.magnitude
