-- Symbols.
use Rattle.std.specs.Prelude.{ℕ, ℤ, if◌then◌else◌, List, [], ◌∷◌, ◌++◌, Option, Some, None}
use Rattle.std.specs.Option.{is_some}
use Rattle.std.specs.Str.{bytes_eq}

-- A name with its value, which may not be known.
pub record Symbol : Type 0 where
  pub name : List ℕ
  pub value : Option ℤ

-- the value of the symbol of the name, if there is one; upper and lower case differ
abbrev pub value_in : List Symbol → List ℕ → Option (Option ℤ)
value_in [] name = None
value_in (symbol ∷ symbols) name = if bytes_eq name symbol.name then Some symbol.value else value_in symbols name

-- The first symbol of a name counts.
abbrev pub with_symbol : List Symbol → Symbol → List Symbol
with_symbol symbols symbol = if is_some (value_in symbols symbol.name) then symbols else symbols ++ symbol ∷ []
