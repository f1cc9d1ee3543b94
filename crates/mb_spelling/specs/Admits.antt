-- Numbers of so many digits, as the code names them.
use Rattle.std.specs.Prelude.{[], ◌∷◌}
use Rattle.mb_spelling.specs.Hex.{May, any_number, not_zero, masked, within, among}
use Rattle.mb_spelling.specs.Decimals.{Range}
use Rattle.mb_spelling.specs.declared.numerals.Numerals.{Numerals}
use Rattle.mb_spelling.specs.declared.numbers.Numbers.{Numbers}
use Rattle.mb_spelling.specs.declared.numbers.Numbers.TheVariants.{Any, NotZero, Masked, Within, OneOf}

abbrev pub may_of : Numbers → May
may_of Any = any_number
may_of NotZero = not_zero
may_of (Masked mask) = masked mask
may_of (Within least most) = within least most
may_of (OneOf one other) = among (one ∷ other ∷ [])

-- a range as the code names it
abbrev pub range_of : Numerals → Range
range_of r = record { least = r.least; most = r.most; unit = r.unit }
