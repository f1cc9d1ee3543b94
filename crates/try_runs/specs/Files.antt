-- The lines of a file of cases.
use Rattle.std.specs.Prelude.{ℕ, ◌==◌, Bool, true, false, List, [], ◌∷◌, count_by, if◌then◌else◌}
use Rattle.mb_lines.specs.Lines.{Line, numbered}

-- all lines with characters but comments, which begin with #
abbrev pub is_case : List ℕ → Bool
is_case [] = true
is_case (first ∷ characters) = if first == 35 then false else true

abbrev pub cases_among : List Line → ℕ
cases_among lines = count_by (λ line. is_case line.characters) lines

abbrev pub count_of : List ℕ → ℕ
count_of text = cases_among (numbered text)
