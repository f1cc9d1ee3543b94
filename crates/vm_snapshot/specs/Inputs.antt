-- Lines of input: what is still to come by a script, a line for each run of bytes of one step and for each abort.
use Rattle.std.specs.Prelude.{◌≡◌, ℕ, ◌+◌, ◌-◌, ◌==◌, max, Bool, true, false, ◌&&◌, List, [], ◌∷◌, ◌++◌, length, codes, decimal}
use Rattle.mb_spelling.specs.Spelling.{Spelling, Either, First, Second, both, over, either, behind, said, more, chosen}
use Rattle.mb_spelling.specs.Hex.{any_number, number}
use Rattle.mb_spelling.specs.Decimals.{Range, from_to, is_in, ranged}
use Rattle.mb_spelling.specs.Lists.{Going, until, times, listed}

-- the greatest number of 32 bits: no step is above it, and no script has more entries
abbrev pub MOST : ℕ
MOST = 4294967295

-- What arrives by a line.
pub data Due : Type 0 where
  Bytes : List ℕ → Due
  Abort : Due

pub record InputLine : Type 0 where
  pub step : ℕ
  pub due : Due

-- how many entries of a script a line stands for
abbrev pub entries_in : Due → ℕ
entries_in (Bytes bytes) = length bytes
entries_in Abort = 1

abbrev pub are_bytes : Due → Bool
are_bytes (Bytes bytes) = true
are_bytes Abort = false

-- What came before a line: the last step (0 before the first line), whether its line had bytes, and how many entries.
pub record SoFar : Type 0 where
  pub last : ℕ
  pub bytes : Bool
  pub total : ℕ

abbrev pub at_first : SoFar
at_first = record { last = 0; bytes = false; total = 0 }

abbrev pub behind_line : SoFar → InputLine → SoFar
behind_line s line =
    record { last = line.step; bytes = are_bytes line.due; total = s.total + entries_in line.due }

-- ---- what is due

-- a byte, in two digits
abbrev pub byte : Spelling ℕ
byte = number any_number 2 0

abbrev pub is_line_end : ℕ → Bool
is_line_end c = c == 10

-- bytes up to the end of the line
abbrev pub pairs : Going ℕ (Unit {0})
pairs = record { mark = 10 ∷ []; test = is_line_end; going = λ s. true; item = λ s. byte; next = λ s b. s }

-- one byte or more, and at most so many
abbrev pub some_pairs : (room : ℕ) → Spelling (List ℕ)
some_pairs room = more byte (λ b. until pairs (room - 1) tt)

abbrev pub is_abort : ℕ → Bool
is_abort c = c == 97

abbrev pub LawfulDue : (room : ℕ) → Due → Type 0
LawfulDue room (Bytes bytes) = (some_pairs room).IsLawful bytes
LawfulDue room Abort = Unit {0}

abbrev pub write_due : (room : ℕ) → Due → List ℕ
write_due room (Bytes bytes) = codes "hex " ++ (some_pairs room).write bytes
write_due room Abort = codes "abort\n"

abbrev pub due_said : Either Due (List ℕ) → Due
due_said (First due) = due
due_said (Second bytes) = Bytes bytes

abbrev pub any_due : (room : ℕ) → Spelling Due
any_due room =
    over (either is_abort (said (codes "abort\n") Abort) (behind (codes "hex ") (some_pairs room))) due_said
    (LawfulDue room)
    (write_due room)

-- behind bytes of the same step there is nothing but an abort, since bytes would have stood in that line
abbrev pub due_of : (room : ℕ) → (only_abort : Bool) → Spelling Due
due_of room only_abort = chosen only_abort (said (codes "abort\n") Abort) (any_due room)

-- ---- lines

-- the steps that a line can have
abbrev pub steps_from : SoFar → Range
steps_from s = from_to (max 1 s.last) MOST

abbrev pub only_abort : SoFar → (step : ℕ) → Bool
only_abort s step = (step == s.last) && s.bytes

-- `room` is how many entries the line may stand for
abbrev pub LawfulLine : (room : ℕ) → SoFar → InputLine → Type 0
LawfulLine room s line =
    (is_in (steps_from s) line.step ≡ true) × (due_of room (only_abort s line.step)).IsLawful line.due

abbrev pub write_line : (room : ℕ) → SoFar → InputLine → List ℕ
write_line room s line =
    codes "at " ++ ((decimal line.step ++ 32 ∷ []) ++ (due_of room (only_abort s line.step)).write line.due)

abbrev pub line_said : ℕ × Due → InputLine
line_said v = record { step = v.0; due = v.1 }

abbrev pub input_line : (room : ℕ) → SoFar → Spelling InputLine
input_line room s =
    over (behind (codes "at ") (both (ranged (steps_from s) 32) (λ step. due_of room (only_abort s step)))) line_said
    (LawfulLine room s) (write_line room s)

-- behind which n lines are to come, each of an entry or more
abbrev pub room_of : (n : ℕ) → SoFar → ℕ
room_of n s = MOST - s.total - n

abbrev pub input_lines : (n : ℕ) → Spelling (List InputLine)
input_lines n = times (λ left s. input_line (room_of left s) s) behind_line n at_first

abbrev pub counts_32 : Range
counts_32 = from_to 0 MOST

abbrev pub inputs : Spelling (List InputLine)
inputs = behind (codes "input ") (listed counts_32 10 input_lines)
