-- Numbers as they are listed.
use Rattle.std.specs.Prelude.{ℕ, zero, suc, ◌/◌, ◌%◌, ◌++◌, ℤ, pos, negsuc, List, [], ◌∷◌, nat_lt, if◌then◌else◌}
use Rattle.mb_report.specs.Digits.{hex_digit}

-- the upper-case digits of a number without leading zeros, the last ones where it has more
unfoldable pub last_digits : ℕ → ℕ → List ℕ
last_digits zero n = []
last_digits (suc most) n =
    if nat_lt n 16 then hex_digit n ∷ [] else last_digits most (n / 16) ++ hex_digit (n % 16) ∷ []

-- `$` and the digits; no number here has more than sixteen
abbrev pub number : ℕ → List ℕ
number n = 36 ∷ last_digits 16 n

-- the same, with `-` before the `$` of a negative number; negsuc n is -(n + 1)
abbrev pub signed : ℤ → List ℕ
signed (pos n) = number n
signed (negsuc n) = 45 ∷ number (suc n)
