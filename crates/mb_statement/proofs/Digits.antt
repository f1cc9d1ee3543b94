-- The digits of a number spell the number.
use Rattle.std.proofs.Common.{◌≡◌, ℕ, zero, suc, ◌+◌, ◌-◌, ◌*◌, ◌/◌, ◌%◌, ◌^◌, ◌<◌, Bool}
use Rattle.std.proofs.Common.{true, false, cond, List, [], ◌∷◌, ◌++◌, length, refl, ◌∙◌, arith, pow-suc}
use Rattle.std.specs.Prelude.{nat_lt}
use Rattle.std.specs.List.{list_all}
use Rattle.std.proofs.lemmas.Bool.{ltb-true}
use Rattle.std.proofs.lemmas.Bool.Decides.{nat_tests}
use Rattle.std.proofs.lemmas.List.{length-append}
use Rattle.std.proofs.lemmas.List.Folds.{list_all-append}
use Rattle.mb_asm_text.specs.Kinds.{is_hexadecimal_digit}
use Rattle.mb_syntax.specs.Words.{digit_value, digits_behind}
use Rattle.mb_report.specs.Digits.{hex_digit}
use Rattle.mb_statement.specs.Numbers.{last_digits}

-- some digits that spell the value
pub record Spells (digits : List ℕ) (value : ℕ) : Type 0 where
  pub some : 0 < length digits
  pub all : list_all is_hexadecimal_digit digits ≡ true
  pub spelled : digits_behind 16 0 digits ≡ value

value_by : (d : ℕ) (b : Bool) → nat_lt d 10 ≡ b → d < 16 → digit_value (cond b (48 + d) (65 + (d - 10))) ≡ d
value_by d true e h = grind (arith, nat_tests)
value_by d false e h = grind (arith, nat_tests)

pub hex_digit_value : (d : ℕ) → d < 16 → digit_value (hex_digit d) ≡ d
hex_digit_value d h = value_by d (nat_lt d 10) refl h

digit_by : (d : ℕ) (b : Bool) → nat_lt d 10 ≡ b → d < 16 → is_hexadecimal_digit (cond b (48 + d) (65 + (d - 10))) ≡ true
digit_by d true e h = grind (arith, nat_tests)
digit_by d false e h = grind (arith, nat_tests)

pub hex_digit_is : (d : ℕ) → d < 16 → is_hexadecimal_digit (hex_digit d) ≡ true
hex_digit_is d h = digit_by d (nat_lt d 10) refl h

-- one more digit behind others
pub digits_append : (base n : ℕ) (digits : List ℕ) (digit : ℕ)
    → digits_behind base n (digits ++ digit ∷ []) ≡ base * digits_behind base n digits + digit_value digit
digits_append base n [] digit = refl
digits_append base n (first ∷ digits) digit = digits_append base (base * n + digit_value first) digits digit

last_by : (most n : ℕ) (b : Bool) → nat_lt n 16 ≡ b → n < 16 ^ suc most
    → (n / 16 < 16 ^ most → digits_behind 16 0 (last_digits most (n / 16)) ≡ n / 16)
    → digits_behind 16 0 (cond b (hex_digit n ∷ []) (last_digits most (n / 16) ++ hex_digit (n % 16) ∷ [])) ≡ n
last_by most n true e h front =
    let small : n < 16 = ltb-true n 16 e in
    rw (hex_digit_value n small) (omega arith)
last_by most n false e h front =
    let low : n % 16 < 16 = omega arith in
    let power : 16 ^ suc most ≡ 16 ^ most * 16 = pow-suc 16 most in
    let part : n / 16 < 16 ^ most = omega (arith, h, power) in
    digits_append 16 0 (last_digits most (n / 16)) (hex_digit (n % 16))
    ∙ rw (front part, hex_digit_value (n % 16) low) (omega arith)

pub last_spelled : (most n : ℕ) → n < 16 ^ most → digits_behind 16 0 (last_digits most n) ≡ n
unfolding last_digits
last_spelled zero n h = omega arith
last_spelled (suc most) n h = last_by most n (nat_lt n 16) refl h (last_spelled most (n / 16))

last_all_by : (most n : ℕ) (b : Bool) → nat_lt n 16 ≡ b → list_all is_hexadecimal_digit (last_digits most (n / 16)) ≡ true
    → list_all is_hexadecimal_digit (cond b (hex_digit n ∷ []) (last_digits most (n / 16) ++ hex_digit (n % 16) ∷ [])) ≡ true
last_all_by most n true e front = let small : n < 16 = ltb-true n 16 e in rw (hex_digit_is n small) refl
last_all_by most n false e front =
    let low : n % 16 < 16 = omega arith in
    list_all-append is_hexadecimal_digit (last_digits most (n / 16)) (hex_digit (n % 16) ∷ [])
    ∙ rw (front, hex_digit_is (n % 16) low) refl

pub last_all : (most n : ℕ) → list_all is_hexadecimal_digit (last_digits most n) ≡ true
unfolding last_digits
last_all zero n = refl
last_all (suc most) n = last_all_by most n (nat_lt n 16) refl (last_all most (n / 16))

last_some_by : (most n : ℕ) (b : Bool) → 0 < length (cond b (hex_digit n ∷ []) (last_digits most (n / 16) ++ hex_digit (n % 16) ∷ []))
last_some_by most n true = omega arith
last_some_by most n false = let long = length-append (last_digits most (n / 16)) (hex_digit (n % 16) ∷ []) in omega (arith, long)

pub last_some : (most n : ℕ) → 0 < length (last_digits (suc most) n)
unfolding last_digits
last_some most n = last_some_by most n (nat_lt n 16)

-- a number of at most so many digits
pub last_spells : (most n : ℕ) → n < 16 ^ suc most → Spells (last_digits (suc most) n) n
last_spells most n h = record { some = last_some most n; all = last_all (suc most) n; spelled = last_spelled (suc most) n h }
