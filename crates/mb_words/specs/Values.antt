-- What a value of the command line says by itself.
use Rattle.std.specs.Prelude.{◌≤◌, ◌+◌, ◌-◌, ◌*◌, ◌%◌, ◌==◌, ◌&&◌, ◌||◌, not, ℕ, nat_lt, nat_le}
use Rattle.std.specs.Prelude.{if◌then◌else◌}
use Rattle.std.specs.Prelude.{List, [], ◌∷◌, length, Option, Some, None, option_and_then, option_map}
use denote.Ref.{Bor}
use Rattle.mb_script.specs.declared.sizes.TheConstants.{LEAST_RAM, MOST_BLOCKS, MOST_GUESTS, MOST_RAM, SIZE_UNIT}
use Rattle.mb_script.specs.Words.{digits_after, is_digit, tested}
use Rattle.mb_forms.specs.Forms.{Text, Use, value_in}
use Rattle.mb_forms.specs.Said.{text_said}

-- a file's name, which is not empty
abbrev pub name_of : Text → Option Text
name_of text = tested (λ name. not (length name == 0)) text

-- what the code's name of a file says, where there is one
abbrev pub file_said : Option (Bor Text) → Option Text
file_said name = option_map text_said name

-- what a text says, where there is one
abbrev pub if_given : {A : Type 0} → (Text → Option A) → Option Text → Option (Option A)
if_given says None = Some None
if_given says (Some text) = option_map Some (says text)

-- one to ten decimal digits
abbrev pub number_of : Text → Option ℕ
number_of text = if (length text == 0) || nat_lt 10 (length text) then None else digits_after 0 text

-- a number from the least to the most
abbrev pub ranged : ℕ → ℕ → Text → Option ℕ
ranged least most text = option_and_then (tested (λ n. nat_le least n && nat_le n most)) (number_of text)

-- the value of a hexadecimal digit, of either case
abbrev pub digit_of : ℕ → Option ℕ
digit_of byte =
    if is_digit byte then Some (byte - 48)
    else if nat_le 65 byte && nat_le byte 70 then Some (byte - 55)
    else if nat_le 97 byte && nat_le byte 102 then Some (byte - 87)
    else None

-- the number that hexadecimal digits spell after those that spell n
abbrev pub hex_after : ℕ → Text → Option ℕ
hex_after n [] = Some n
hex_after n (digit ∷ digits) = option_and_then (λ value. hex_after (16 * n + value) digits) (digit_of digit)

-- one to eight hexadecimal digits
abbrev pub hex_of : Text → Option ℕ
hex_of text = if (length text == 0) || nat_lt 8 (length text) then None else hex_after 0 text

-- the address of a word: an even one
abbrev pub word_address_of : Text → Option ℕ
word_address_of text = option_and_then (tested (λ at. at % 2 == 0)) (hex_of text)

-- the RAM of a machine in KiB: 64 to 16,384, a multiple of 64
abbrev pub ram_of : Text → Option ℕ
ram_of text = option_and_then (tested (λ kib. kib % SIZE_UNIT == 0)) (ranged LEAST_RAM MOST_RAM text)

-- how many blocks a disk has: 1 to 32,768
abbrev pub blocks_of : Text → Option ℕ
blocks_of text = ranged 1 MOST_BLOCKS text

-- the seed of a session that is made: up to 2^32 - 1
abbrev pub seed_of : Text → Option ℕ
seed_of text = ranged 0 4294967295 text

-- how many guests a session has, or the number of one of them: 1 to 16
abbrev pub guests_of : Text → Option ℕ
guests_of text = ranged 1 MOST_GUESTS text

abbrev pub IsGuestCount : ℕ → Type 0
IsGuestCount guests = (1 ≤ guests) × (guests ≤ MOST_GUESTS)

-- what the value of a name says, where it has one
abbrev pub said_by : {A : Type 0} → (Text → Option A) → Text → List Use → Option A
said_by says name uses = option_and_then says (value_in name uses)

-- the same for a name that may have none
abbrev pub said_if_given : {A : Type 0} → (Text → Option A) → Text → List Use → Option (Option A)
said_if_given says name uses = if_given says (value_in name uses)
