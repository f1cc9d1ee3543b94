-- Numbers digit by digit.
use Rattle.std.proofs.Common.{◌≡◌, ℕ, suc, ◌+◌, ◌*◌, ◌<◌, ◌≤◌, Bool, true, false, cond, List, [], ◌∷◌, length, drop, get_or, Some, None, refl, sym, ap, ◌∙◌}
use Rattle.std.proofs.Common.{drop-cons, arith}
use Rattle.std.specs.Prelude.{nat_le}
use Rattle.std.proofs.lemmas.Bool.{le-leb, lt-leb, leb-false}
use Rattle.std.proofs.lemmas.List.{drop_all}
use Rattle.std.proofs.Math.Nat.{mul-le-mul_left}
use Rattle.mb_syntax.specs.Code.{narrow_number}
use Rattle.mb_syntax.specs.declared.word.Word.TheVariants as word
use Rattle.mb_syntax.specs.Words.{digit_value, digits_behind, number_word}

not_less : (base n more : ℕ) → 1 ≤ base → n ≤ base * n + more
not_less base n more some = let h : n * 1 ≤ n * base = mul-le-mul_left n some in omega (arith, h)

-- more digits make no number smaller
grows : (base n : ℕ) (digits : List ℕ) → 1 ≤ base → n ≤ digits_behind base n digits
grows base n [] some = omega arith
grows base n (digit ∷ digits) some =
    let first = not_less base n (digit_value digit) some in
    let later = grows base (base * n + digit_value digit) digits some in
    omega (arith, first, later)

is_wide : (n : ℕ) (test : Bool) → nat_le n 4294967295 ≡ test → None ≡ cond test (Some n) None → 4294967295 < n
is_wide n true e h = absurd cc
is_wide n false e h = leb-false n 4294967295 e

-- the next digit makes the number too wide
pub too_wide : (base : ℕ) (digits : List ℕ) (i n : ℕ) → 1 ≤ base → i < length digits → None ≡ narrow_number (base * n + digit_value (get_or digits i 0))
    → digits_behind base n (drop i digits) ≡ digits_behind base 0 digits → word.WideNumber ≡ number_word (digits_behind base 0 digits)
too_wide base digits i n some within none reads =
    let digit = get_or digits i 0 in
    let first : drop i digits ≡ digit ∷ drop (suc i) digits = drop-cons digits i 0 within in
    let next = base * n + digit_value digit in
    let whole : digits_behind base next (drop (suc i) digits) ≡ digits_behind base 0 digits = ap (digits_behind base n) (sym first) ∙ reads in
    let large : 4294967295 < next = is_wide next (nat_le next 4294967295) refl none in
    let more = grows base next (drop (suc i) digits) some in
    let wide : 4294967295 < digits_behind base 0 digits = omega (arith, large, more, whole) in
    rw (lt-leb (digits_behind base 0 digits) 4294967295 wide) refl

-- no digit is left
pub all_read : (base : ℕ) (digits : List ℕ) (i n : ℕ) → length digits ≤ i → n ≤ 4294967295
    → digits_behind base n (drop i digits) ≡ digits_behind base 0 digits → word.Number n ≡ number_word (digits_behind base 0 digits)
all_read base digits i n past small reads =
    let whole : n ≡ digits_behind base 0 digits = ap (digits_behind base n) (sym (drop_all i digits past)) ∙ reads in
    let word_is : number_word n ≡ word.Number n = rw (le-leb n 4294967295 small) refl in
    sym word_is ∙ ap number_word whole
