-- The line of a kept translation.
use Rattle.std.specs.Prelude.{ℕ, ◌+◌, ◌*◌, ◌++◌, List, [], ◌∷◌, drop}
use Rattle.std.specs.Int.{from_bool}
use Rattle.mb_port.specs.declared.types.Space.{Space}
use Rattle.mb_port.specs.declared.types.Space.TheVariants.{User, Super}
use Rattle.mb_model.specs.declared.kept.Kept.{Kept}
use Rattle.mb_report.specs.Digits.{hex_digit, hex8}

-- `S` or `U`
abbrev pub space_letter : Space → ℕ
space_letter Super = 83
space_letter User = 85

-- the five digits of a number below 2^20
abbrev pub hex5 : ℕ → List ℕ
hex5 n = drop 3 (hex8 n)

-- 8 for W, 4 for S, 2 for G and 1 for M
abbrev pub flags_of : Kept → ℕ
flags_of k = 8 * from_bool k.w + (4 * from_bool k.s + (2 * from_bool k.g + from_bool k.m))

-- its space, its page, its frame and its flags, parted by spaces
abbrev pub kept_line : Kept → List ℕ
kept_line k =
    space_letter k.space ∷ 32 ∷ [] ++ hex5 k.page ++ 32 ∷ [] ++ hex5 k.frame ++ 32 ∷ hex_digit (flags_of k) ∷ 10 ∷ []
