-- The lines of a memory that are saved, and the memory that has them.
use Rattle.std.specs.Prelude.{◌≡◌, ℕ, zero, suc, ◌*◌, ◌/◌, ◌%◌, ◌<◌, if◌then◌else◌}
use Rattle.std.specs.Prelude.{List, [], ◌∷◌, ◌++◌, length, map, take, drop, replicate, All}
use Rattle.std.specs.List.{AllPairs}
use Rattle.mb_walk.specs.Memory.{Contents, with_contents}
use Rattle.mb_saved.specs.declared.line.RamLine.{RamLine}
use Rattle.mb_saved.specs.Saved.{IsLine, is_zero}

-- ---- the lines of a memory

-- a line of 16 bytes with its address, or nothing where it is all zero
abbrev pub line_at : ℕ → List ℕ → List RamLine
line_at at row = if is_zero row then [] else (record { at = at; bytes = row }) ∷ []

-- of the first so many lines of memory those that are not all zero
abbrev pub first_lines : List ℕ → ℕ → List RamLine
first_lines ram zero = []
first_lines ram (suc n) = first_lines ram n ++ line_at (16 * n) (take 16 (drop (16 * n) ram))

abbrev pub lines_of : List ℕ → List RamLine
lines_of ram = first_lines ram (length ram / 16)

-- ---- the memory of lines

-- a line as bytes from an address on
abbrev pub content_of : RamLine → ℕ × List ℕ
content_of line = (line.at, line.bytes)

abbrev pub contents_of : List RamLine → Contents
contents_of lines = map content_of lines

-- memory of so many bytes that is zero but for these lines
abbrev pub ram_by : ℕ → List RamLine → List ℕ
ram_by size lines = with_contents (replicate size 0) (contents_of lines)

-- ---- laws

-- Memory of whole lines is given back by its lines.
abbrev pub MemoryIsGivenBack : Type 0
MemoryIsGivenBack = (ram : List ℕ) → length ram % 16 ≡ 0 → ram_by (length ram) (lines_of ram) ≡ ram

-- They lie in it, none is all zero, and they ascend.
abbrev pub LinesLieInMemory : Type 0
LinesLieInMemory = (ram : List ℕ) → All (IsLine (length ram)) (lines_of ram)

abbrev pub LinesAscend : Type 0
LinesAscend = (ram : List ℕ) → AllPairs (λ first later. first.at < later.at) (lines_of ram)
