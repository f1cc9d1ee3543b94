-- Words that are too few for a command, and numbers of so many digits.
use Rattle.std.proofs.Common.{◌≡◌, ◌<◌, ◌≤◌, ◌^◌, ℕ, List, [], ◌∷◌, map, refl, arith, length, None, string_bytes}
use Rattle.std.proofs.Math.Nat.{pow-le-pow_right}
use Rattle.std.specs.Prelude.{String}
use Rattle.std.specs.declared.alloc.Global.{Global}
use Rattle.mb_words.specs.Words.{asked_by}

pub too_short : (words : List (String Global)) → length words < 2 → asked_by (map string_bytes words) ≡ None
unfolding asked_by
too_short [] h = refl
too_short (a ∷ []) h = refl
too_short (a ∷ b ∷ rest) h = absurd (omega arith)

-- fewer than eight hexadecimal digits, and at most eight
pub is_short : (n count : ℕ) → n < 16 ^ count → count < 8 → n < 268435456
is_short n count small few =
    let most : 16 ^ count ≤ 16 ^ 7 = pow-le-pow_right (omega arith) {i = count} {j = 7} (omega arith) in
    omega arith

pub is_long : (n count : ℕ) → n < 16 ^ count → count ≤ 8 → n < 4294967296
is_long n count small few =
    let most : 16 ^ count ≤ 16 ^ 8 = pow-le-pow_right (omega arith) {i = count} {j = 8} (omega arith) in
    omega arith
