-- Rows of bytes: the dumps of 32 a line, and the lines of a memory of 16 that are not all zero.
use Rattle.std.specs.Prelude.{◌≡◌, ℕ, ◌+◌, ◌-◌, ◌*◌, ◌/◌, ◌%◌, ◌<◌, ◌≤◌, ◌==◌, nat_lt, Bool, false, ◌||◌, List, [], ◌∷◌, length, codes}
use Rattle.std.specs.Int.{to_be_bytes, w128}
use Rattle.std.specs.List.{AllByRecursion}
use Rattle.mb_report.specs.Digits.{digits, hex8}
use Rattle.mb_report.specs.Text.{word_line}
use Rattle.mb_saved.specs.declared.line.RamLine.{RamLine}
use Rattle.mb_saved.specs.Saved.{is_zero}
use Rattle.mb_spelling.specs.Spelling.{Spelling, both, over, before, chosen}
use Rattle.mb_spelling.specs.Hex.{not_zero, within, number}
use Rattle.mb_spelling.specs.Lists.{Going, until, times}
use Rattle.vm_snapshot.specs.Inputs.{byte}

-- ---- dumps

-- a byte in a column, behind which n are to come; a row ends behind the 32nd and behind the last
abbrev pub dump_byte : (n column : ℕ) → Spelling ℕ
dump_byte n column = chosen ((n == 0) || (column == 31)) (before byte (10 ∷ [])) byte

abbrev pub next_column : (column b : ℕ) → ℕ
next_column column b = (column + 1) % 32

abbrev pub dump : (n : ℕ) → Spelling (List ℕ)
dump n = times dump_byte next_column n 0

-- ---- memory

abbrev pub AreBytes : List ℕ → Type 0
AreBytes bytes = AllByRecursion (λ b. b < 256) bytes

-- A line of a memory of so many rows, from a row on: its address is a row's, and its 16 bytes are not all zero.
pub record IsRow (rows from : ℕ) (line : RamLine) : Type 0 where
  pub aligned : line.at % 16 ≡ 0
  pub after : 16 * from ≤ line.at
  pub inside : line.at < 16 * rows
  pub count : length line.bytes ≡ 16
  pub bytes : AreBytes line.bytes
  pub some : is_zero line.bytes ≡ false

abbrev pub write_row : RamLine → List ℕ
write_row line = word_line (hex8 line.at) (digits line.bytes)

-- which row, and its bytes as one number
abbrev pub row_said : ℕ × ℕ → RamLine
row_said v = record { at = 16 * v.0; bytes = to_be_bytes w128 (v.1) }

-- The last digit of an address is 0, and a row that is not all zero is a number above 0.
abbrev pub row : (rows from : ℕ) → Spelling RamLine
row rows from =
    over (both (before (number (within from (rows - 1)) 7 0) (codes "0 "))
    (λ place. before (number not_zero 32 0) (10 ∷ [])))
    row_said (IsRow rows from) write_row

abbrev pub is_end : ℕ → Bool
is_end c = c == 101

-- rows that ascend, up to `end`, where there are places left
abbrev pub row_lines : (rows : ℕ) → Going RamLine ℕ
row_lines rows = record {
  mark = codes "end\n";
  test = is_end;
  going = λ from. nat_lt from rows;
  item = row rows;
  next = λ from line. line.at / 16 + 1;
}

abbrev pub memory : (rows : ℕ) → Spelling (List RamLine)
memory rows = until (row_lines rows) rows 0
