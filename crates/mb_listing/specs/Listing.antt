-- The listing: the lines of a memory from an address on.
use Rattle.std.specs.Prelude.{ℕ, zero, suc, ◌+◌, ◌*◌, ◌/◌, ◌%◌, ◌==◌, ◌&&◌, ◌++◌, Bool, false, if◌then◌else◌}
use Rattle.std.specs.Prelude.{List, [], ◌∷◌, length, take, drop, slice_index, codes}
use Rattle.std.specs.Prelude.{Option, Some, None, option_and_then, unwrap_or}
use Rattle.std.specs.Option.{option_or}
use Rattle.std.specs.List.{flat_map, list_all}
use Rattle.std.specs.Str.{bytes_eq}
use Rattle.mb_decode.specs.declared.front.Decoded.{Decoded}
use Rattle.mb_decode.specs.declared.front.Decoded.TheVariants.{Whole}
use Rattle.mb_decode.specs.Decodes.{decode_of}
use Rattle.mb_mnemonics.specs.declared.line.Line.{Line as Mnemonic}
use Rattle.mb_mnemonics.specs.Lines.{lines}
use Rattle.mb_mnemonics.specs.Means.{words_by}
use Rattle.mb_report.specs.Digits.{digits, hex8}
use Rattle.mb_statement.specs.Numbers.{number}
use Rattle.mb_statement.specs.Statements.{Statement, has_bits, statement_by}
use Rattle.mb_statement.specs.Texts.{statement_text}
use Rattle.mb_statement.specs.Written.{has_text}

-- ---- whether a statement says the words

-- the bytes of words, the high one first
abbrev pub bytes_of : List ℕ → List ℕ
bytes_of words = flat_map (λ word. word / 256 ∷ word % 256 ∷ []) words

-- what is said, if anything, is the words
abbrev pub is_said : List ℕ → Option (List ℕ) → Bool
is_said words None = false
is_said words (Some said) = bytes_eq said words

-- A statement that a line makes of words has a text, and these are the words that the table has for it at the address.
abbrev pub says : ℕ → List ℕ → Statement → Bool
says at words s = list_all has_text s.operands && is_said words (words_by s.name s.size s.operands at)

-- ---- lines

-- an address, words that stand there, and their text
pub record Line : Type 0 where
  pub at : ℕ
  pub words : List ℕ
  pub text : List ℕ

-- one word, as a number
abbrev pub data_line : ℕ → ℕ → Line
data_line at word = record { at = at; words = word ∷ []; text = codes "DC.W " ++ number word }

-- the words and the text of a statement, where it says just them
abbrev pub line_said : ℕ → List ℕ → Statement → Option Line
line_said at words s =
    if says at words s then Some (record { at = at; words = words; text = statement_text s }) else None

-- the line that a line of the table of mnemonics makes of the words of an instruction at an address
abbrev pub line_by : Mnemonic → ℕ → List ℕ → Option Line
line_by l at words =
    if has_bits l (slice_index words 0) then option_and_then (line_said at words) (statement_by l at words) else None

abbrev pub line_among : List Mnemonic → ℕ → List ℕ → Option Line
line_among [] at words = None
line_among (l ∷ ls) at words = option_or (line_by l at words) (line_among ls at words)

-- the line of the instruction that words begin with, at an even address
abbrev pub instruction_line : ℕ → List ℕ → Decoded → Option Line
instruction_line at words (Whole i n) = if at % 2 == 0 then line_among lines at (take n words) else None
instruction_line at words _ = None

-- The line at an address by the words that begin there, as far as memory has them; there is one at least: that of the
-- first line of the table whose statement says just the words of the instruction there, else the first word alone.
abbrev pub line_at : ℕ → List ℕ → Line
line_at at words = unwrap_or (instruction_line at words (decode_of words)) (data_line at (slice_index words 0))

-- the address, the words in digits, and the text
abbrev pub line_text : Line → List ℕ
line_text line = hex8 line.at ++ 32 ∷ digits (bytes_of line.words) ++ 32 ∷ line.text ++ 10 ∷ []

-- ---- the listing

-- at most so many words, as far as there are bytes for them
unfoldable pub words_in : ℕ → List ℕ → List ℕ
words_in (suc most) (high ∷ low ∷ bytes) = (high * 256 + low) ∷ words_in most bytes
words_in _ _ = []

-- no instruction has more than eleven words
abbrev pub words_at : List ℕ → ℕ → List ℕ
words_at ram at = words_in 11 (drop at ram)

-- A line, and the lines behind it. A first word outside memory ends the listing.
abbrev pub lines_from : (ℕ → List Line) → ℕ → List ℕ → List Line
lines_from rest at [] = []
lines_from rest at (first ∷ others) =
    let line = line_at at (first ∷ others) in line ∷ rest (at + 2 * length line.words)

-- so many lines of a memory, from an address on
unfoldable pub lines_of : List ℕ → ℕ → ℕ → List Line
lines_of ram at zero = []
lines_of ram at (suc count) = lines_from (λ next. lines_of ram next count) at (words_at ram at)

-- their texts
abbrev pub listing : List ℕ → ℕ → ℕ → List ℕ
listing ram at count = flat_map line_text (lines_of ram at count)
