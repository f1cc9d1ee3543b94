-- The bytes of a line at a place.
use Rattle.std.specs.Prelude.{ℕ, List, slice_range}
use Rattle.mb_syntax.specs.declared.word.Name.{Name}

-- the slice of the line where the name stands
abbrev pub bytes_at : List ℕ → Name → List ℕ
bytes_at line name = slice_range line name.start name.end
