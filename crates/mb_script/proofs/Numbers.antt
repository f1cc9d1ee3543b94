-- Numbers digit by digit.
use Rattle.std.proofs.Common.{◌≡◌, ℕ, suc, ◌+◌, ◌-◌, ◌*◌, ◌<◌, ◌≤◌, Bool, true, false, cond, List, [], ◌∷◌, length, drop, get_or, Option, Some, None, refl, sym, ap, ◌∙◌, drop-cons, arith}
use Rattle.std.specs.Prelude.{option_and_then, nat_le}
use Rattle.std.proofs.lemmas.Bool.{le-leb, lt-leb}
use Rattle.std.proofs.lemmas.List.{drop_all}
use Rattle.mb_script.specs.Words.{digits_after, is_digit, number_of, tested}

abbrev pub limited : Option ℕ → Option ℕ
limited number = option_and_then (tested (λ n. nat_le n 4294967295)) number

limited_if : (b : Bool) (number : Option ℕ) → limited number ≡ None → limited (cond b number None) ≡ None
limited_if true number h = h
limited_if false number h = refl

-- more digits make no number smaller
too_large : (n : ℕ) (digits : List ℕ) → 4294967295 < n → limited (digits_after n digits) ≡ None
too_large n [] h = rw (lt-leb n 4294967295 h) refl
too_large n (digit ∷ digits) h =
    limited_if (is_digit digit) (digits_after (10 * n + (digit - 48)) digits) (too_large (10 * n + (digit - 48)) digits (omega arith))

number_is : (word left : List ℕ) (n : ℕ) → 0 < length word → digits_after n left ≡ digits_after 0 word → number_of word ≡ limited (digits_after n left)
number_is [] left n some reads = absurd (omega arith)
number_is (digit ∷ digits) left n some reads = ap limited (sym reads)

-- the next digit makes the number too large
pub overflow : (word : List ℕ) (i n : ℕ) → i < length word → 4294967295 < 10 * n + (get_or word i 0 - 48) → digits_after n (drop i word) ≡ digits_after 0 word
    → None ≡ number_of word
overflow word i n within large reads =
    let digit = get_or word i 0 in
    let first : drop i word ≡ digit ∷ drop (suc i) word = drop-cons word i 0 within in
    let whole : number_of word ≡ limited (digits_after n (digit ∷ drop (suc i) word)) =
    number_is word (digit ∷ drop (suc i) word) n (omega arith) (ap (digits_after n) (sym first) ∙ reads) in
    sym (whole ∙ limited_if (is_digit digit) (digits_after (10 * n + (digit - 48)) (drop (suc i) word))
    (too_large (10 * n + (digit - 48)) (drop (suc i) word) large))

-- no digit is left
pub all_read : (word : List ℕ) (i n : ℕ) → length word ≤ i → 0 < length word → n ≤ 4294967295 → digits_after n (drop i word) ≡ digits_after 0 word
    → Some n ≡ number_of word
all_read word i n past some small reads =
    let whole : number_of word ≡ limited (digits_after n []) = number_is word [] n some (ap (digits_after n) (sym (drop_all i word past)) ∙ reads) in
    sym (whole ∙ (rw (le-leb n 4294967295 small) refl))
