-- The entries of a script and their lines: a line for each run of bytes of one step, and for each abort.
use Rattle.std.specs.Prelude.{◌≡◌, ℕ, ◌==◌, if◌then◌else◌, List, [], ◌∷◌, ◌++◌, map}
use Rattle.mb_script.specs.declared.entry.Entry.{Entry}
use Rattle.mb_script.specs.declared.input.Input.{Input}
use Rattle.mb_script.specs.declared.input.Input.TheVariants as input
use Rattle.vm_snapshot.specs.Inputs.{InputLine, Due, Bytes, Abort}

-- ---- from lines to entries

abbrev pub entry_of : (step b : ℕ) → Entry
entry_of step b = record { step = step; input = input.Byte b }

abbrev pub due_entries : (step : ℕ) → Due → List Entry
due_entries step (Bytes bytes) = map (entry_of step) bytes
due_entries step Abort = record { step = step; input = input.Abort } ∷ []

abbrev pub entries_of : List InputLine → List Entry
entries_of [] = []
entries_of (line ∷ lines) = due_entries line.step line.due ++ entries_of lines

-- ---- from entries to lines

abbrev pub bytes_at : (step : ℕ) → List ℕ → InputLine
bytes_at step bytes = record { step = step; due = Bytes bytes }

-- a byte before a line: it joins the bytes of its own step
abbrev pub joined_to : (step b : ℕ) → (at : ℕ) → Due → List InputLine → List InputLine
joined_to step b at (Bytes bytes) lines =
    if step == at then bytes_at step (b ∷ bytes) ∷ lines else bytes_at step (b ∷ []) ∷ bytes_at at bytes ∷ lines
joined_to step b at Abort lines = bytes_at step (b ∷ []) ∷ record { step = at; due = Abort } ∷ lines

abbrev pub byte_before : (step b : ℕ) → List InputLine → List InputLine
byte_before step b [] = bytes_at step (b ∷ []) ∷ []
byte_before step b (line ∷ lines) = joined_to step b line.step line.due lines

abbrev pub entry_before : (step : ℕ) → Input → List InputLine → List InputLine
entry_before step (input.Byte b) lines = byte_before step b lines
entry_before step input.Abort lines = record { step = step; due = Abort } ∷ lines

abbrev pub lines_of : List Entry → List InputLine
lines_of [] = []
lines_of (entry ∷ entries) = entry_before entry.step entry.input (lines_of entries)

-- ---- lines that are runs

abbrev pub HasBytes : Due → Type 0
HasBytes (Bytes []) = ⊥
HasBytes (Bytes (b ∷ bytes)) = Unit {0}
HasBytes Abort = Unit {0}

-- bytes of one step do not stand in two lines
abbrev pub PartedDue : (step : ℕ) → Due → (at : ℕ) → Due → Type 0
PartedDue step (Bytes bytes) at (Bytes others) = step ≡ at → ⊥
PartedDue step (Bytes bytes) at Abort = Unit {0}
PartedDue step Abort at due = Unit {0}

abbrev pub PartedFrom : InputLine → List InputLine → Type 0
PartedFrom line [] = Unit {0}
PartedFrom line (other ∷ lines) = PartedDue line.step line.due other.step other.due

abbrev pub AreRuns : List InputLine → Type 0
AreRuns [] = Unit {0}
AreRuns (line ∷ lines) = HasBytes line.due × PartedFrom line lines × AreRuns lines

-- ---- laws

-- The lines of entries say these entries,
abbrev pub LinesSayEntries : Type 0
LinesSayEntries = (entries : List Entry) → entries_of (lines_of entries) ≡ entries

-- they are runs,
abbrev pub LinesAreRuns : Type 0
LinesAreRuns = (entries : List Entry) → AreRuns (lines_of entries)

-- and runs are the lines of what they say: each list of entries has one spelling.
abbrev pub RunsAreLines : Type 0
RunsAreLines = (lines : List InputLine) → AreRuns lines → lines_of (entries_of lines) ≡ lines
