-- The words of a line: what its tokens say.
use Rattle.std.specs.Prelude.{ℕ, ◌+◌, ◌-◌, ◌*◌, nat_le, if◌then◌else◌, List, [], ◌∷◌, Option, Some, None, codes}
use Rattle.mb_asm_text.specs.declared.token.Token.{Token}
use Rattle.mb_asm_text.specs.declared.token.TokenKind.{TokenKind}
use Rattle.mb_asm_text.specs.declared.token.TokenKind.TheVariants as kind
use Rattle.mb_asm_text.specs.Kinds.{is_apostrophe, is_between, is_digit, is_dollar, is_percent}
use Rattle.mb_asm_text.specs.Cut.{text_of}
use Rattle.mb_syntax.specs.declared.word.Name.{Name}
use Rattle.mb_syntax.specs.declared.word.Word.{Word}
use Rattle.mb_syntax.specs.declared.word.Word.TheVariants as word
use Rattle.mb_syntax.specs.Names.{cache_names, register_of, size_letters}
use Rattle.mb_syntax.specs.Tables.{found_in}

-- Numbers.

-- the value of a hexadecimal digit of either case
abbrev pub digit_value : ℕ → ℕ
digit_value digit = if is_digit digit then digit - 48 else if is_between 65 70 digit then digit - 55 else digit - 87

-- the number that digits spell behind those that spell n
abbrev pub digits_behind : ℕ → ℕ → List ℕ → ℕ
digits_behind base n [] = n
digits_behind base n (digit ∷ digits) = digits_behind base (base * n + digit_value digit) digits

-- what stands behind the first apostrophe
abbrev pub character_of : List ℕ → ℕ
character_of [] = 0
character_of (character ∷ _) = character

-- the number that a token spells: `$` hexadecimal, `%` binary, a character between apostrophes, or decimal
abbrev pub number_of : List ℕ → ℕ
number_of [] = 0
number_of (byte ∷ bytes) =
    if is_dollar byte then digits_behind 16 0 bytes
    else if is_percent byte then digits_behind 2 0 bytes
    else if is_apostrophe byte then character_of bytes
    else digits_behind 10 0 (byte ∷ bytes)

-- a number of 32 bits at most, or a wider one
abbrev pub number_word : ℕ → Word
number_word n = if nat_le n 4294967295 then word.Number n else word.WideNumber

-- Names.

abbrev pub place_of : Token → Name
place_of token = record { start = token.start; end = token.end }

-- a name as one of a table, or else as what it is otherwise
abbrev pub read_as : {A : Type 0} → (A → Name → Word) → Option A → Name → Word → Word
read_as reading (Some x) name other = reading x name
read_as reading None name other = other

-- a register, a size letter, a cache, or none of these
abbrev pub name_word : List ℕ → Name → Word
name_word bytes name =
    read_as word.Register (register_of bytes) name
    (read_as word.Letter (found_in size_letters bytes) name
    (read_as word.Cache (found_in cache_names bytes) name (word.Name name)))

-- Marks.

abbrev pub marks : List (List ℕ × Word)
marks =
    (codes "#", word.Hash)
    ∷ (codes "(", word.Open)
    ∷ (codes ")", word.Close)
    ∷ (codes "[", word.OpenSquare)
    ∷ (codes "]", word.CloseSquare)
    ∷ (codes "{", word.OpenBrace)
    ∷ (codes "}", word.CloseBrace)
    ∷ (codes ",", word.Comma)
    ∷ (codes ".", word.Dot)
    ∷ (codes ":", word.Colon)
    ∷ (codes "+", word.Plus)
    ∷ (codes "-", word.Minus)
    ∷ (codes "*", word.Star)
    ∷ (codes "/", word.Slash)
    ∷ []

-- What a token of the kind says; a comment says nothing.
abbrev pub said_by : List ℕ → Token → TokenKind → Option Word
said_by line token kind.Name = Some (name_word (text_of line token) (place_of token))
said_by line token kind.Number = Some (number_word (number_of (text_of line token)))
said_by line token kind.Text = Some (word.Text (place_of token))
said_by line token kind.Mark = found_in marks (text_of line token)
said_by line token kind.Blank = Some word.Blank
said_by line token kind.Comment = None

unfoldable pub word_of : List ℕ → Token → Option Word
word_of line token = said_by line token token.kind

abbrev pub with_word : Option Word → List Word → List Word
with_word (Some said) words = said ∷ words
with_word None words = words

-- the words of a line that is cut into the tokens
abbrev pub words_of : List ℕ → List Token → List Word
words_of line [] = []
words_of line (token ∷ tokens) = with_word (word_of line token) (words_of line tokens)
