-- What a statement means.
use Rattle.std.specs.Prelude.{ℕ, ◌+◌, ◌*◌, ◌%◌, ◌^◌, ◌==◌, ℤ, Bool, List, [], ◌∷◌, ◌++◌, take, length, Option, Some}
use Rattle.std.specs.Prelude.{None, Result, Ok, Err}
use Rattle.std.specs.Prelude.{if◌then◌else◌, is_some, ok_or, option_map, option_and_then}
use Rattle.std.specs.Option.{option_or}
use Rattle.std.specs.List.{list_any}
use Rattle.mb_instr.specs.declared.size.Size.{Size}
use Rattle.mb_instr.specs.declared.kinds.Condition.{Condition}
use Rattle.mb_instr.specs.declared.instruction.Instr.{Instr}
use Rattle.mb_instr.specs.Kinds.{condition_bits}
use Rattle.mb_decode.specs.declared.front.Decoded.{Decoded}
use Rattle.mb_decode.specs.declared.front.Decoded.TheVariants.{Whole}
use Rattle.mb_decode.specs.Decodes.{decode_of}
use Rattle.mb_syntax.specs.declared.statement.SizeLetter.{SizeLetter}
use Rattle.mb_syntax.specs.declared.operand.Operand.{Operand}
use Rattle.mb_mnemonics.specs.declared.fault.MeansFault.{MeansFault}
use Rattle.mb_mnemonics.specs.declared.fault.MeansFault.TheVariants as fault
use Rattle.mb_mnemonics.specs.Sizes.{size_in, size_bits_by}
use Rattle.mb_mnemonics.specs.declared.front.Form.{Form as CodeForm}
use Rattle.mb_mnemonics.specs.declared.line.Line.{Line}
use Rattle.mb_mnemonics.specs.Lines.{condition_by, lines, patterns_of}
use Rattle.mb_mnemonics.specs.Operands.{Said, takes_operands, operands_words, in_first, operands_said}

-- a line that a statement is written by, with the condition that the name says and the size
pub record Form : Type 0 where
  pub line : Line
  pub condition : Condition
  pub size : Size

-- a form as the code has it
abbrev pub form_said : CodeForm → Form
form_said f = record { line = f.line.now; condition = f.condition; size = f.size }

abbrev pub said_form : Result CodeForm MeansFault → Result Form MeansFault
said_form (Ok f) = Ok (form_said f)
said_form (Err e) = Err e

-- the size by a line, where the line has it and takes the operands with it
abbrev pub size_by : Line → Option SizeLetter → List (Operand ℤ) → Option Size
size_by l letter os = option_and_then
    (λ s. if takes_operands (patterns_of l.operands) s os then Some s else None) (size_in l.sizes letter)

-- a statement by a line
abbrev pub form_by : Line → List ℕ → Option SizeLetter → List (Operand ℤ) → Option Form
form_by l name letter os = option_and_then
    (λ c. option_map (λ s. record { line = l; condition = c; size = s }) (size_by l letter os)) (condition_by l name)

-- the first of the lines that a statement is written by
abbrev pub form_among : List Line → List ℕ → Option SizeLetter → List (Operand ℤ) → Option Form
form_among [] name letter os = None
form_among (l ∷ ls) name letter os = option_or (form_by l name letter os) (form_among ls name letter os)

-- whether one of the lines has the name
abbrev pub is_named : List Line → List ℕ → Bool
is_named ls name = list_any (λ l. is_some (condition_by l name)) ls

-- The form of a statement: no line has its name, or none of those that have it has its size and its operands. Numbers
-- have no part in it.
abbrev pub form_of : List ℕ → Option SizeLetter → List (Operand ℤ) → Result Form MeansFault
form_of name letter os =
    ok_or (form_among lines name letter os) (if is_named lines name then fault.Operand else fault.Name)

-- the first word: the line's bits, the condition, the size and what the operands say
abbrev pub first_word : Form → Said → ℕ
first_word f said =
    (f.line.first + condition_bits f.condition * 2 ^ 8 + size_bits_by f.line.sizes f.size + said.first) % 2 ^ 16

-- the words of a form whose operands say this
abbrev pub words_said : Form → Said → List ℕ
words_said f said =
    first_word f said ∷ take f.line.words ((f.line.second + said.second) % 2 ^ 16 ∷ said.third ∷ []) ++ said.own

-- the words of a statement of the form at the address
abbrev pub said : Form → List (Operand ℤ) → ℕ → Option (List ℕ)
said f os at = option_map (words_said f)
    (operands_said (patterns_of f.line.operands) f.size at ((at + (2 + 2 * f.line.words)) % 2 ^ 32) os (in_first 0))

-- The words that the table has for a statement at the address: none where no line has its form, or a number is out of
-- its range.
abbrev pub words_by : List ℕ → Option SizeLetter → List (Operand ℤ) → ℕ → Option (List ℕ)
words_by name letter os at = option_and_then (λ f. said f os at) (form_among lines name letter os)

-- the instruction that so many words are, all of them
abbrev pub whole : ℕ → Decoded → Result Instr MeansFault
whole count (Whole i n) = if n == count then Ok i else Err fault.Operand
whole count _ = Err fault.Operand

abbrev pub told : Option (List ℕ) → Result Instr MeansFault
told None = Err fault.Range
told (Some words) = whole (length words) (decode_of words)

abbrev pub meaning_by : Result Form MeansFault → List (Operand ℤ) → ℕ → Result Instr MeansFault
meaning_by (Ok f) os at = told (said f os at)
meaning_by (Err e) os at = Err e

-- The instruction that a statement at the address means: no line has its name, none of those has its size and operands,
-- a number is out of its range, or the words of the first line that has them are decoded as it.
abbrev pub meaning : List ℕ → Option SizeLetter → List (Operand ℤ) → ℕ → Result Instr MeansFault
meaning name letter os at = meaning_by (form_of name letter os) os at

-- how many bytes the words of a form have
abbrev pub form_length : Form → List (Operand ℤ) → ℕ
form_length f os = 2 * (1 + f.line.words + operands_words (patterns_of f.line.operands) f.size os)

abbrev pub length_of_form : Result Form MeansFault → List (Operand ℤ) → Result ℕ MeansFault
length_of_form (Ok f) os = Ok (form_length f os)
length_of_form (Err e) os = Err e

-- How many bytes the instruction of a statement has, whatever its numbers are.
abbrev pub length_by : List ℕ → Option SizeLetter → List (Operand ℤ) → Result ℕ MeansFault
length_by name letter os = length_of_form (form_of name letter os) os
