-- Entries and their lines.
use Rattle.std.proofs.Common.{◌≡◌, ℕ, eqb, true, false, List, [], ◌∷◌, ◌++◌, map, refl, sym, ap, ◌∙◌, inl, inr}
use Rattle.std.proofs.lemmas.Bool.{cases_Bool, eqb-true, eqb-false, eq-eqb, ne_eqb}
use Rattle.mb_script.specs.declared.entry.Entry.{Entry}
use Rattle.mb_script.specs.declared.input.Input.{Input}
use Rattle.mb_script.specs.declared.input.Input.TheVariants as input
use Rattle.vm_snapshot.specs.Inputs.{InputLine, Due, Bytes, Abort}
use Rattle.vm_snapshot.specs.Runs.{entry_of, due_entries, entries_of, bytes_at, joined_to, byte_before, entry_before, lines_of}
use Rattle.vm_snapshot.specs.Runs.{HasBytes, PartedDue, PartedFrom, AreRuns, LinesSayEntries, LinesAreRuns, RunsAreLines}

abbrev line_at : ℕ → Due → InputLine
line_at at due = record { step = at; due = due }

-- ---- a byte before a line

joined_same : (step b at : ℕ) (bytes : List ℕ) (lines : List InputLine) → eqb step at ≡ true
    → joined_to step b at (Bytes bytes) lines ≡ bytes_at step (b ∷ bytes) ∷ lines
joined_same step b at bytes lines e = rw e refl

joined_apart : (step b at : ℕ) (bytes : List ℕ) (lines : List InputLine) → eqb step at ≡ false
    → joined_to step b at (Bytes bytes) lines ≡ bytes_at step (b ∷ []) ∷ bytes_at at bytes ∷ lines
joined_apart step b at bytes lines e = rw e refl

joined_says : (step b at : ℕ) (due : Due) (lines : List InputLine)
    → entries_of (joined_to step b at due lines) ≡ entry_of step b ∷ (due_entries at due ++ entries_of lines)
joined_says step b at Abort lines = refl
joined_says step b at (Bytes bytes) lines =
    elim (cases_Bool (eqb step at)) [
      | inl e ↦
          ap entries_of (joined_same step b at bytes lines e)
          ∙ ap (λ (x : ℕ). entry_of step b ∷ (due_entries x (Bytes bytes) ++ entries_of lines)) (eqb-true step at e)
      | inr e ↦ ap entries_of (joined_apart step b at bytes lines e)
    ]

before_says : (step b : ℕ) (lines : List InputLine) → entries_of (byte_before step b lines) ≡ entry_of step b ∷ entries_of lines
before_says step b [] = refl
before_says step b (line ∷ lines) = joined_says step b line.step line.due lines

entry_says : (step : ℕ) (what : Input) (lines : List InputLine)
    → entries_of (entry_before step what lines) ≡ record { step = step; input = what } ∷ entries_of lines
entry_says step (input.Byte b) lines = before_says step b lines
entry_says step input.Abort lines = refl

pub lines_say : LinesSayEntries
lines_say [] = refl
lines_say (entry ∷ entries) =
    entry_says entry.step entry.input (lines_of entries) ∙ ap (λ (es : List Entry). entry ∷ es) (lines_say entries)

-- ---- the lines of entries are runs

parted_step : (step at : ℕ) (due : Due) (bytes others : List ℕ) → PartedDue at (Bytes bytes) step due → PartedDue at (Bytes others) step due
parted_step step at (Bytes more) bytes others h = h
parted_step step at Abort bytes others h = tt

parted_more : (at : ℕ) (bytes others : List ℕ) (lines : List InputLine) → PartedFrom (bytes_at at bytes) lines → PartedFrom (bytes_at at others) lines
parted_more at bytes others [] h = tt
parted_more at bytes others (line ∷ lines) h = parted_step line.step at line.due bytes others h

joined_runs : (step b at : ℕ) (due : Due) (lines : List InputLine) → AreRuns (line_at at due ∷ lines) → AreRuns (joined_to step b at due lines)
joined_runs step b at Abort lines h = (tt, tt, h)
joined_runs step b at (Bytes bytes) lines h =
    elim (cases_Bool (eqb step at)) [
      | inl e ↦
          let same : at ≡ step = sym (eqb-true step at e) in
          rw e (tt, parted_more step bytes (b ∷ bytes) lines (rw same at h.1), h.2)
      | inr e ↦ rw e (tt, eqb-false step at e, h)
    ]

before_runs : (step b : ℕ) (lines : List InputLine) → AreRuns lines → AreRuns (byte_before step b lines)
before_runs step b [] h = (tt, tt, tt)
before_runs step b (line ∷ lines) h = joined_runs step b line.step line.due lines h

entry_runs : (step : ℕ) (what : Input) (lines : List InputLine) → AreRuns lines → AreRuns (entry_before step what lines)
entry_runs step (input.Byte b) lines h = before_runs step b lines h
entry_runs step input.Abort [] h = (tt, tt, h)
entry_runs step input.Abort (line ∷ lines) h = (tt, tt, h)

pub lines_are_runs : LinesAreRuns
lines_are_runs [] = tt
lines_are_runs (entry ∷ entries) = entry_runs entry.step entry.input (lines_of entries) (lines_are_runs entries)

-- ---- runs are lines

-- a first byte does not join what stands apart
first_apart : (step b at : ℕ) (due : Due) (lines : List InputLine) (bytes : List ℕ) → PartedDue step (Bytes bytes) at due
    → joined_to step b at due lines ≡ bytes_at step (b ∷ []) ∷ line_at at due ∷ lines
first_apart step b at Abort lines bytes h = refl
first_apart step b at (Bytes others) lines bytes h = joined_apart step b at others lines (ne_eqb step at h)

first_byte : (step b : ℕ) (lines : List InputLine) (bytes : List ℕ) → PartedFrom (bytes_at step bytes) lines
    → byte_before step b lines ≡ bytes_at step (b ∷ []) ∷ lines
first_byte step b [] bytes h = refl
first_byte step b (line ∷ lines) bytes h = first_apart step b line.step line.due lines bytes h

run_of : (step b : ℕ) (bytes whole : List ℕ) (es : List Entry) → PartedFrom (bytes_at step whole) (lines_of es)
    → lines_of (map (entry_of step) (b ∷ bytes) ++ es) ≡ bytes_at step (b ∷ bytes) ∷ lines_of es
run_of step b [] whole es h = first_byte step b (lines_of es) whole h
run_of step b (c ∷ bytes) whole es h =
    ap (byte_before step b) (run_of step c bytes whole es h)
    ∙ joined_same step b step (c ∷ bytes) (lines_of es) (eq-eqb step step refl)

line_run : (step : ℕ) (due : Due) (es : List Entry) → HasBytes due → PartedFrom (line_at step due) (lines_of es)
    → lines_of (due_entries step due ++ es) ≡ line_at step due ∷ lines_of es
line_run step (Bytes []) es some h = absurd some
line_run step (Bytes (b ∷ bytes)) es some h = run_of step b bytes (b ∷ bytes) es h
line_run step Abort es some h = refl

pub runs_are : RunsAreLines
runs_are [] h = refl
runs_are (line ∷ lines) h =
    let later = runs_are lines h.2 in
    let apart : PartedFrom line (lines_of (entries_of lines)) = rw later h.1 in
    line_run line.step line.due (entries_of lines) h.0 apart ∙ ap (λ (ls : List InputLine). line ∷ ls) later
