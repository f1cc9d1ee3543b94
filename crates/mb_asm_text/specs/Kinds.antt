-- Which bytes are a token of which kind.
use Rattle.std.specs.Prelude.{ℕ, ◌==◌, Bool, true, false, nat_le, not, ◌&&◌, ◌||◌, if◌then◌else◌, List, [], ◌∷◌, codes}
use Rattle.std.specs.List.{list_all, list_any}
use Rattle.mb_asm_text.specs.declared.token.TokenKind.{TokenKind}
use Rattle.mb_asm_text.specs.declared.token.TokenKind.TheVariants.{Name, Number, Text, Mark, Blank, Comment}

-- Classes of bytes.

abbrev pub is_between : ℕ → ℕ → ℕ → Bool
is_between low high byte = nat_le low byte && nat_le byte high

-- 0 to 9
abbrev pub is_digit : ℕ → Bool
is_digit = is_between 48 57

-- 0 and 1
abbrev pub is_binary_digit : ℕ → Bool
is_binary_digit = is_between 48 49

-- 0 to 9, A to F, a to f
abbrev pub is_hexadecimal_digit : ℕ → Bool
is_hexadecimal_digit byte = is_digit byte || is_between 65 70 byte || is_between 97 102 byte

-- a letter or `_`
abbrev pub is_name_start : ℕ → Bool
is_name_start byte = is_between 65 90 byte || is_between 97 122 byte || byte == 95

-- a letter, a digit or `_`
abbrev pub is_name_part : ℕ → Bool
is_name_part byte = is_name_start byte || is_digit byte

abbrev pub is_quotation_mark : ℕ → Bool
is_quotation_mark byte = byte == 34

abbrev pub is_apostrophe : ℕ → Bool
is_apostrophe byte = byte == 39

abbrev pub is_dollar : ℕ → Bool
is_dollar byte = byte == 36

abbrev pub is_percent : ℕ → Bool
is_percent byte = byte == 37

-- $20 to $7E
abbrev pub is_printable : ℕ → Bool
is_printable = is_between 32 126

-- $20 to $7E, and no quotation mark
abbrev pub is_quotable : ℕ → Bool
is_quotable byte = is_printable byte && not (is_quotation_mark byte)

abbrev pub is_mark : ℕ → Bool
is_mark byte = list_any (λ mark. byte == mark) (codes "#()[]{},.:+-*/")

-- a space or a tab
abbrev pub is_blank : ℕ → Bool
is_blank byte = byte == 32 || byte == 9

-- Forms of byte strings.

abbrev pub is_empty : List ℕ → Bool
is_empty [] = true
is_empty (_ ∷ _) = false

-- a first byte of a class, and a form of what stands behind it
abbrev pub begins : (ℕ → Bool) → (List ℕ → Bool) → List ℕ → Bool
begins is_first is_rest [] = false
begins is_first is_rest (byte ∷ bytes) = is_first byte && is_rest bytes

-- one or more bytes of a class
abbrev pub is_run : (ℕ → Bool) → List ℕ → Bool
is_run is_part = begins is_part (list_all is_part)

abbrev pub is_one : (ℕ → Bool) → List ℕ → Bool
is_one is_only = begins is_only is_empty

-- bytes that may stand in a text, and behind them a quotation mark that ends it
abbrev pub is_closed : List ℕ → Bool
is_closed [] = false
is_closed (byte ∷ bytes) = if is_quotation_mark byte then is_empty bytes else is_printable byte && is_closed bytes

-- any bytes
abbrev pub is_any : List ℕ → Bool
is_any _ = true

-- a character, and an apostrophe
abbrev pub is_quoted_character : List ℕ → Bool
is_quoted_character = begins is_printable (is_one is_apostrophe)

-- The four forms of numbers: decimal, `$` hexadecimal, `%` binary, and a character between apostrophes.
abbrev pub is_number : List ℕ → Bool
is_number bytes =
    is_run is_digit bytes
    || begins is_dollar (is_run is_hexadecimal_digit) bytes
    || begins is_percent (is_run is_binary_digit) bytes
    || begins is_apostrophe is_quoted_character bytes

-- Where bytes stand in their line: whether they begin in column 1, and whether they reach the line's end.
pub record Where : Type 0 where
  pub first : Bool
  pub last : Bool

-- `;`, or `*` in column 1
abbrev pub starts_comment : Bool → ℕ → Bool
starts_comment first byte = byte == 59 || (first && byte == 42)

-- Whether bytes that stand so in their line are a token of the kind: names do not begin with a digit, and `*` in
-- column 1 is no mark.
abbrev pub is_token : TokenKind → Where → List ℕ → Bool
is_token Name stands bytes = begins is_name_start (list_all is_name_part) bytes
is_token Number stands bytes = is_number bytes
is_token Text stands bytes = begins is_quotation_mark is_closed bytes
is_token Mark stands bytes = begins (λ byte. is_mark byte && not (starts_comment stands.first byte)) is_empty bytes
is_token Blank stands bytes = is_run is_blank bytes
is_token Comment stands bytes = begins (starts_comment stands.first) is_any bytes && stands.last
