-- Hexadecimal digits, upper case, and numbers of so many digits.
use Rattle.std.specs.Prelude.{◌≡◌, ℕ, zero, suc, ◌+◌, ◌-◌, ◌*◌, ◌/◌, ◌%◌, ◌^◌, ◌<◌, ◌==◌, nat_le, nat_lt, Bool, true, false, ◌&&◌, ◌||◌, if◌then◌else◌, List, [], ◌∷◌, bit_and}
use Rattle.std.specs.List.{list_any}
use Rattle.mb_spelling.specs.Spelling.{Reading, Read, Spelling, mapped, followed, read_one, one, over}

-- 0 to 9, then A to F
abbrev pub hex_digit : ℕ → ℕ
hex_digit d = if nat_lt d 10 then 48 + d else 65 + (d - 10)

abbrev pub is_hex : ℕ → Bool
is_hex c = (nat_le 48 c && nat_le c 57) || (nat_le 65 c && nat_le c 70)

abbrev pub hex_value : ℕ → ℕ
hex_value c = if nat_lt c 58 then c - 48 else c - 55

-- a digit whose value passes a test
abbrev pub is_digit_of : (ℕ → Bool) → ℕ → Bool
is_digit_of test c = is_hex c && test (hex_value c)

abbrev pub LawfulDigit : (ℕ → Bool) → ℕ → Type 0
LawfulDigit test d = (d < 16) × (test d ≡ true)

abbrev pub write_digit : ℕ → List ℕ
write_digit d = hex_digit d ∷ []

abbrev pub digit : (ℕ → Bool) → Spelling ℕ
digit test = over (one (is_digit_of test)) hex_value (LawfulDigit test) write_digit

-- the last so many digits of a number
abbrev pub hex_of : ℕ → ℕ → List ℕ
hex_of zero n = []
hex_of (suc k) n = hex_digit (n / 16 ^ k % 16) ∷ hex_of k n

-- Which numbers may stand: `may k v` says whether one of them has the digits of v and then k more.
abbrev pub May : Type 0
May = ℕ → ℕ → Bool

pub record IsMay (may : May) : Type 0 where
  pub up : (k v d : ℕ) → d < 16 → may k (16 * v + d) ≡ true → may (suc k) v ≡ true
  pub down : (k v : ℕ) → may (suc k) v ≡ true → ℕ
  pub below : (k v : ℕ) (h : may (suc k) v ≡ true) → down k v h < 16
  pub still : (k v : ℕ) (h : may (suc k) v ≡ true) → may k (16 * v + down k v h) ≡ true

-- the number whose first digits are v's and of which k more are to come
unfoldable pub read_number : May → (k v : ℕ) → List ℕ → Reading ℕ
read_number may zero v text = Read v text
read_number may (suc k) v text =
    mapped (λ x. x.1) (followed (mapped hex_value (read_one (is_digit_of (λ d. may k (16 * v + d))) text))
    (λ d rest. read_number may k (16 * v + d) rest))

abbrev pub LawfulNumber : May → (k v : ℕ) → ℕ → Type 0
LawfulNumber may k v n = (n / 16 ^ k ≡ v) × (may 0 n ≡ true)

abbrev pub number : May → (k v : ℕ) → Spelling ℕ
number may k v = record { IsLawful = LawfulNumber may k v; write = hex_of k; read = read_number may k v }

-- ---- which numbers

-- any
abbrev pub any_number : May
any_number k v = true

-- those with no other bits than the mask's
abbrev pub masked : (mask : ℕ) → May
masked mask k v = bit_and v (mask / 16 ^ k) == v

-- those above 0
abbrev pub not_zero : May
not_zero k v = nat_lt 0 k || nat_lt 0 v

-- those from lo to hi
abbrev pub within : (lo hi : ℕ) → May
within lo hi k v = nat_le (lo / 16 ^ k) v && nat_le v (hi / 16 ^ k)

-- those of a list
abbrev pub among : List ℕ → May
among ns k v = list_any (λ n. n / 16 ^ k == v) ns

-- one of the numbers below n passes a test
unfoldable pub any_below : (ℕ → Bool) → (n : ℕ) → Bool
any_below test zero = false
any_below test (suc n) = test n || any_below test n

-- those that pass a test
abbrev pub passing : (ℕ → Bool) → May
passing test zero v = test v
passing test (suc k) v = any_below (λ d. passing test k (16 * v + d)) 16
