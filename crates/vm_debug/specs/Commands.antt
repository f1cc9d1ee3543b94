-- The grammar of a debugger's commands: what a line says, and what a text says.
use Rattle.std.specs.Prelude.{ℕ, ◌+◌, ◌*◌, ◌%◌, ◌==◌, nat_le, nat_lt, ◌&&◌, if◌then◌else◌, List, [], ◌∷◌, length, codes}
use Rattle.std.specs.Prelude.{Option, Some, None, option_and_then, Result, Ok, Err}
use Rattle.std.specs.Str.{bytes_eq}
use Rattle.std.specs.Option.{ok_or}
use Rattle.std.specs.Char.{digit_value}
use Rattle.mb_lines.specs.Lines.{Line}
use Rattle.mb_lines.specs.Results.{◌>>=◌}
use Rattle.mb_script.specs.declared.fault.LineWhy.{LineWhy}
use Rattle.mb_script.specs.declared.fault.LineWhy.TheVariants as why
use Rattle.mb_script.specs.Faults.{Fault}
use Rattle.mb_script.specs.Lines.{read_by, statements_of}
use Rattle.mb_script.specs.Words.{cut_at_space, is_word, number_of, tested}
use Rattle.vm_debug.specs.declared.command.Command.{Command}
use Rattle.vm_debug.specs.declared.command.Command.TheVariants.{Step, Go, Break, Clear, Regs, Mem, Kept}

-- the value of a hexadecimal digit of either case
abbrev pub hex_digit_of : ℕ → Option ℕ
hex_digit_of character = tested (λ value. nat_lt value 16) (digit_value character)

-- the number that hexadecimal digits spell after those that spell n
abbrev pub hex_after : ℕ → List ℕ → Option ℕ
hex_after n [] = Some n
hex_after n (digit ∷ digits) = option_and_then (λ value. hex_after (16 * n + value) digits) (hex_digit_of digit)

-- HEX: one to eight hexadecimal digits
abbrev pub address_of : List ℕ → Option ℕ
address_of word = if nat_le 1 (length word) && nat_le (length word) 8 then hex_after 0 word else None

-- the address of a row of memory: a multiple of 16
abbrev pub row_of : List ℕ → Option ℕ
row_of word = option_and_then (tested (λ at. at % 16 == 0)) (address_of word)

abbrev pub word_in : List ℕ → Result (List ℕ) LineWhy
word_in characters = ok_or (tested is_word characters) why.Word

-- `N`, a decimal number of 32 bits
abbrev pub number_in : List ℕ → Result ℕ LineWhy
number_in characters = word_in characters >>= λ word. ok_or (number_of word) why.Number

-- `HEX`
abbrev pub address_in : List ℕ → Result ℕ LineWhy
address_in characters = word_in characters >>= λ word. ok_or (address_of word) why.Digits

-- `HEX N`
abbrev pub rows_in : List ℕ → Result Command LineWhy
rows_in characters = do
  parts ← ok_or (cut_at_space characters) why.Word
  at ← word_in parts.0
  count ← word_in parts.1
  rows ← ok_or (number_of count) why.Number
  address ← ok_or (row_of at) why.Digits
  Ok (Mem address rows)

-- a command that has words behind its name
abbrev pub command_by : List ℕ × List ℕ → Result Command LineWhy
command_by (name, words) =
    if bytes_eq name (codes "step") then (number_in words >>= λ n. Ok (Step n))
    else if bytes_eq name (codes "go") then (number_in words >>= λ n. Ok (Go n))
    else if bytes_eq name (codes "break") then (address_in words >>= λ at. Ok (Break at))
    else if bytes_eq name (codes "clear") then (address_in words >>= λ at. Ok (Clear at))
    else if bytes_eq name (codes "mem") then rows_in words
    else Err why.Word

-- the command in a line, with single spaces between its words
abbrev pub command_of : List ℕ → Result Command LineWhy
command_of line =
    if bytes_eq line (codes "regs") then Ok Regs
    else if bytes_eq line (codes "kept") then Ok Kept
    else ok_or (cut_at_space line) why.Word >>= command_by

-- the commands in lines
abbrev pub commands_in : List Line → Result (List Command) Fault
commands_in [] = Ok []
commands_in (line ∷ lines) = do
  command ← read_by command_of line
  later ← commands_in lines
  Ok (command ∷ later)

-- The commands of a text, or the first fault in order of lines. Lines without characters and comments are passed over.
abbrev pub commands_of : List ℕ → Result (List Command) Fault
commands_of text = commands_in (statements_of text)
