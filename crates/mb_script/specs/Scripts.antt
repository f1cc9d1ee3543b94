-- The grammar of scripts: what a line says, and what a list of lines says.
use Rattle.std.specs.Prelude.{ℕ, Bool, nat_le, nat_lt, ◌&&◌, if◌then◌else◌, List, [], ◌∷◌, ◌++◌, map, Option, Some, None, option_map, option_and_then, Result, Ok, Err, codes}
use Rattle.std.specs.List.{list_all}
use Rattle.std.specs.Str.{bytes_eq}
use Rattle.std.specs.Option.{ok_or}
use Rattle.std.specs.Result.{result_ok}
use Rattle.hex.specs.Hex.{decode_of}
use Rattle.mb_lines.specs.Lines.{Line}
use Rattle.mb_script.specs.declared.fault.LineWhy.{LineWhy}
use Rattle.mb_script.specs.declared.fault.LineWhy.TheVariants as why
use Rattle.mb_script.specs.declared.entry.Entry.{Entry}
use Rattle.mb_script.specs.declared.input.Input.{Input}
use Rattle.mb_script.specs.declared.input.Input.TheVariants as input
use Rattle.mb_script.specs.Faults.{Fault}
use Rattle.mb_lines.specs.Results.{◌>>=◌}
use Rattle.mb_script.specs.Script.{Entries}
use Rattle.mb_script.specs.Lines.{read_by, statements_of}
use Rattle.mb_script.specs.Words.{cut_at_space, is_word, positive_of, tested}

-- How a line writes what arrives: bytes in three forms, or the abort key.
pub data Written : Type 0 where
  Hex : List ℕ → Written
  Text : List ℕ → Written
  WithLineFeed : List ℕ → Written
  Abort : Written

-- The words of a line.
pub record Parts : Type 0 where
  pub step : List ℕ
  pub written : Written

-- `hex PAIRS`, `text REST` or `line REST`; PAIRS is one word, REST is all that is left of the line
abbrev pub written_by : List ℕ × List ℕ → Option Written
written_by (form, rest) =
    if bytes_eq form (codes "hex") then option_map Hex (tested is_word rest)
    else if bytes_eq form (codes "text") then Some (Text rest)
    else if bytes_eq form (codes "line") then Some (WithLineFeed rest)
    else None

-- what stands behind `at STEP`: `abort`, or one of the others
abbrev pub written_as : List ℕ → Option Written
written_as words =
    if bytes_eq words (codes "abort") then Some Abort else option_and_then written_by (cut_at_space words)

abbrev pub with_step : List ℕ × List ℕ → Option Parts
with_step (step, words) =
    if is_word step then option_map (λ written. record { step = step; written = written }) (written_as words) else None

abbrev pub behind_at : List ℕ × List ℕ → Option Parts
behind_at (first, words) = if bytes_eq first (codes "at") then option_and_then with_step (cut_at_space words) else None

-- a line `at STEP` and what is due, with single spaces between the words
abbrev pub parts_of : List ℕ → Option Parts
parts_of line = option_and_then behind_at (cut_at_space line)

abbrev pub is_printable : ℕ → Bool
is_printable character = nat_le 32 character && nat_le character 126

abbrev pub printable : List ℕ → Option (List ℕ)
printable text = tested (list_all is_printable) text

-- these bytes arrive
abbrev pub typed : List ℕ → List Input
typed bytes = map input.Byte bytes

-- hexadecimal digits of either case in pairs, or printable characters; a line has a LF at its end
abbrev pub inputs_of : Written → Option (List Input)
inputs_of (Hex digits) = option_map typed (result_ok (decode_of digits))
inputs_of (Text characters) = option_map typed (printable characters)
inputs_of (WithLineFeed characters) = option_map (λ text. typed (text ++ 10 ∷ [])) (printable characters)
inputs_of Abort = Some (input.Abort ∷ [])

-- What arrives at a step.
pub record Arrival : Type 0 where
  pub step : ℕ
  pub inputs : List Input

-- what a line says by itself
abbrev pub arrival_of : List ℕ → Result Arrival LineWhy
arrival_of line = do
  parts ← ok_or (parts_of line) why.Word
  step ← ok_or (positive_of parts.step) why.Number
  inputs ← ok_or (inputs_of parts.written) why.Digits
  Ok (record { step = step; inputs = inputs })

-- a step is not smaller than that of the line before
abbrev pub not_before : ℕ → Arrival → Result Arrival LineWhy
not_before last arrival = if nat_lt arrival.step last then Err why.Order else Ok arrival

-- what a line says behind a line of the step `last`
abbrev pub arrival_after : ℕ → List ℕ → Result Arrival LineWhy
arrival_after last line = arrival_of line >>= not_before last

-- an input at a step
abbrev pub entry_at : ℕ → Input → Entry
entry_at step one = record { step = step; input = one }

-- each of the inputs
abbrev pub at_step : ℕ → List Input → Entries
at_step step inputs = map (entry_at step) inputs

-- the entries of all lines behind a line of the step `last`
abbrev pub entries_after : ℕ → List Line → Result Entries Fault
entries_after last [] = Ok []
entries_after last (line ∷ lines) = do
  arrival ← read_by (arrival_after last) line
  later ← entries_after arrival.step lines
  Ok (at_step arrival.step arrival.inputs ++ later)

-- The entries of a script's text, or the first fault in order of lines.
abbrev pub script_of : List ℕ → Result Entries Fault
script_of text = entries_after 0 (statements_of text)
