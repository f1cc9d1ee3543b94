-- The lines of a memory are those of the outcome text.
use Rattle.std.specs.Prelude.{◌≡◌, ℕ, zero, suc, ◌+◌, ◌*◌, if◌then◌else◌, List, [], ◌∷◌, ◌++◌, length, take, drop, codes}
use Rattle.mb_report.specs.Text.{is_zero, memory_text}
use Rattle.mb_saved.specs.declared.line.RamLine.{RamLine}
use Rattle.vm_snapshot.specs.Memory.{memory}

abbrev pub row_before : (place : ℕ) → List ℕ → List RamLine → List RamLine
row_before place chunk lines = if is_zero chunk then lines else record { at = 16 * place; bytes = chunk } ∷ lines

-- the first so many rows that are not all zero, counted from a place
abbrev pub rows_of : (place count : ℕ) → List ℕ → List RamLine
rows_of place zero ram = []
rows_of place (suc count) ram = row_before place (take 16 ram) (rows_of (place + 1) count (drop 16 ram))

abbrev pub LinesAreMemory : Type 0
LinesAreMemory = (rows : ℕ) (ram : List ℕ) → length ram ≡ 16 * rows
    → (memory rows).write (rows_of 0 rows ram) ≡ memory_text ram ++ codes "end\n"
