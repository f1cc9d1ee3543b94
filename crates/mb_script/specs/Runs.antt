-- Entries in runs: a byte for each, and what the entries of a line have in common once.
use Rattle.std.specs.Prelude.{ℕ, ◌+◌, ◌*◌, ◌<◌, ◌≤◌, nat_lt, Bool, false, if◌then◌else◌, List, [], ◌∷◌, length, take, get_or, All}
use Rattle.mb_script.specs.declared.entry.Entry.{Entry}
use Rattle.mb_script.specs.declared.input.Input.TheVariants as input
use Rattle.mb_script.specs.declared.runs.Run.{Run}
use Rattle.mb_script.specs.declared.runs.Runs.{Runs}
use Rattle.mb_script.specs.Script.{Entries}

-- what is read where no run stands
abbrev pub no_run : Run
no_run = record { step = 0; end = 0; aborts = false }

-- the run of the entry at a place: the first that ends behind it
abbrev pub run_at : ℕ → List Run → Run
run_at place [] = no_run
run_at place (run ∷ runs) = if nat_lt place run.end then run else run_at place runs

-- the entry of a byte, or of the abort key
abbrev pub entry_by : (step : ℕ) → (aborts : Bool) → ℕ → Entry
entry_by step aborts byte = record { step = step; input = if aborts then input.Abort else input.Byte byte }

abbrev pub entry_in : Run → ℕ → Entry
entry_in run byte = entry_by run.step run.aborts byte

-- the entries of these bytes, of which the first has this place
abbrev pub entries_from : ℕ → List Run → List ℕ → Entries
entries_from place runs [] = []
entries_from place runs (byte ∷ bytes) = entry_in (run_at place runs) byte ∷ entries_from (place + 1) runs bytes

abbrev pub kept : Runs → Entries
kept runs = entries_from 0 runs.runs.items runs.bytes.items

-- the runs before the start of a stretch of sixteen places end before it
abbrev pub AreStarts : List Run → List ℕ → Type 0
AreStarts runs starts = (stretch : ℕ) → stretch < length starts → (get_or starts stretch 0 ≤ length runs) ×
    All (λ run. run.end ≤ 16 * stretch) (take (get_or starts stretch 0) runs)

-- Each byte has a run, and each place a start.
pub record AreKept (runs : Runs) : Type 0 where
  pub ended : All (λ run. run.end ≤ length runs.bytes.items) runs.runs.items
  pub covered : (place : ℕ) → place < length runs.bytes.items → place < (run_at place runs.runs.items).end
  pub started : AreStarts runs.runs.items runs.starts.items
  pub served : length runs.bytes.items ≤ 16 * length runs.starts.items
