-- The lines of a text.
use Rattle.std.specs.Prelude.{ℕ, ◌+◌, List, [], ◌∷◌, length, map, sum_by}
use Rattle.bstr.specs.Text.{lines_of, without_terminator}

-- Lines end with LF, before which a CR may stand; behind the last line the LF may be missing.
abbrev pub lines_in : List ℕ → List (List ℕ)
lines_in text = map without_terminator (lines_of text)

-- A line with its number.
pub record Line : Type 0 where
  pub number : ℕ
  pub characters : List ℕ

-- the lines that have characters, where the first line has the number
abbrev pub numbered_from : ℕ → List (List ℕ) → List Line
numbered_from number [] = []
numbered_from number ([] ∷ lines) = numbered_from (number + 1) lines
numbered_from number ((character ∷ characters) ∷ lines) =
    record { number = number; characters = character ∷ characters } ∷ numbered_from (number + 1) lines

-- lines count from 1, those without characters too
abbrev pub numbered : List ℕ → List Line
numbered text = numbered_from 1 (lines_in text)

-- The lines that are left of a text, and how many came before.
pub record LinesLeft : Type 0 where
  pub count : ℕ
  pub lines : List (List ℕ)

abbrev pub left : LinesLeft → List Line
left rest = numbered_from (rest.count + 1) rest.lines

-- the number of the line after the last
abbrev pub past : LinesLeft → ℕ
past rest = rest.count + length rest.lines + 1

-- how many characters are left
abbrev pub room : LinesLeft → ℕ
room rest = sum_by length rest.lines
