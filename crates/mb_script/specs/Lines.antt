-- The lines of a text that say something, and the first fault among them.
use Rattle.std.specs.Prelude.{ℕ, ◌==◌, not, Bool, false, List, [], ◌∷◌, Option, Some, None, Result, Ok, Err}
use Rattle.std.specs.List.{filter}
use Rattle.mb_lines.specs.Lines.{Line, numbered}
use Rattle.mb_script.specs.declared.fault.LineWhy.{LineWhy}
use Rattle.mb_script.specs.Faults.{Fault}

-- a line of which the first character is `#`
abbrev pub is_comment : List ℕ → Bool
is_comment [] = false
is_comment (character ∷ characters) = character == 35

-- the lines that are no comments
abbrev pub statements : List Line → List Line
statements lines = filter (λ line. not (is_comment line.characters)) lines

-- lines without characters and comments are passed over, and counted
abbrev pub statements_of : List ℕ → List Line
statements_of text = statements (numbered text)

abbrev pub at_line : {A : Type 0} → ℕ → Result A LineWhy → Result A Fault
at_line number (Ok x) = Ok x
at_line number (Err why) = Err (record { number = number; why = why })

-- what a rule reads from a line
abbrev pub read_by : {A : Type 0} → (List ℕ → Result A LineWhy) → Line → Result A Fault
read_by rule line = at_line line.number (rule line.characters)

-- the lines from one on that was read, where there was one
abbrev pub ahead : Option Line → List Line → List Line
ahead None later = []
ahead (Some line) later = line ∷ later
