-- Tables of names.
use Rattle.std.specs.Prelude.{ℕ, if◌then◌else◌, List, [], ◌∷◌, Option, Some, None}
use Rattle.std.specs.Str.{str_eq_ignore_ascii_case}
use denote.Ref.{Bor}

-- what the table has beside a word in either case
abbrev pub found_in : {A : Type 0} → List (List ℕ × A) → List ℕ → Option A
found_in [] word = None
found_in ((name, value) ∷ rows) word = if str_eq_ignore_ascii_case name word then Some value else found_in rows word

-- a row of a table of the code
abbrev pub row_said : {A : Type 0} → Bor (List ℕ) × A → List ℕ × A
row_said (name, value) = (name.now, value)
