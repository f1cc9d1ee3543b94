-- Words and numbers.
use Rattle.std.specs.Prelude.{ℕ, ◌+◌, ◌*◌, ◌-◌, ◌==◌, nat_le, nat_lt, not, Bool, ◌&&◌, if◌then◌else◌, List, [], ◌∷◌, length, take, drop, position, Option, Some, None, option_map, option_and_then}
use Rattle.std.specs.List.{list_all}

-- a value that passes a test
abbrev pub tested : {A : Type 0} → (A → Bool) → A → Option A
tested test x = if test x then Some x else None

abbrev pub is_digit : ℕ → Bool
is_digit character = nat_le 48 character && nat_le character 57

-- the number that digits spell after those that spell n
abbrev pub digits_after : ℕ → List ℕ → Option ℕ
digits_after n [] = Some n
digits_after n (digit ∷ digits) = if is_digit digit then digits_after (10 * n + (digit - 48)) digits else None

-- one or more decimal digits
abbrev pub decimal_of : List ℕ → Option ℕ
decimal_of [] = None
decimal_of (digit ∷ digits) = digits_after 0 (digit ∷ digits)

-- a decimal number of 32 bits
abbrev pub number_of : List ℕ → Option ℕ
number_of word = option_and_then (tested (λ n. nat_le n 4294967295)) (decimal_of word)

-- one of these that is not 0
abbrev pub positive_of : List ℕ → Option ℕ
positive_of word = option_and_then (tested (nat_le 1)) (number_of word)

abbrev pub is_space : ℕ → Bool
is_space character = character == 32

-- what comes before the first space, and what comes after it
abbrev pub cut_at_space : List ℕ → Option (List ℕ × List ℕ)
cut_at_space line = option_map (λ end. (take end line, drop (end + 1) line)) (position is_space line)

-- one or more characters, and no space
abbrev pub is_word : List ℕ → Bool
is_word characters = nat_lt 0 (length characters) && list_all (λ character. not (is_space character)) characters
