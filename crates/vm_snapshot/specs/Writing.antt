-- Lines of input as they are written, entry by entry. A line of bytes stands open until an entry comes that is not in
-- it.
use Rattle.std.specs.Prelude.{ℕ, ◌+◌, ◌==◌, nat_lt, Bool, true, false, if◌then◌else◌, List, [], ◌∷◌, ◌++◌, codes, decimal, Option, Some, None}
use Rattle.mb_report.specs.Digits.{hex2}
use Rattle.mb_script.specs.declared.entry.Entry.{Entry}
use Rattle.mb_script.specs.declared.input.Input.{Input}
use Rattle.mb_script.specs.declared.input.Input.TheVariants as input
use Rattle.mb_script.specs.Script.{Entries}

-- the end of the line that stands open, of which the step is given, if one does
abbrev pub closing : Option ℕ → List ℕ
closing (Some step) = 10 ∷ []
closing None = []

-- a byte of this step is in the open line
abbrev pub is_within : Option ℕ → (step : ℕ) → Bool
is_within (Some last) step = step == last
is_within None step = false

abbrev pub byte_text : (within : Bool) → Option ℕ → (step b : ℕ) → List ℕ
byte_text true open_line step b = hex2 b
byte_text false open_line step b =
    closing open_line ++ codes "at " ++ decimal step ++ codes " hex " ++ hex2 b

abbrev pub entry_text : Option ℕ → (step : ℕ) → Input → List ℕ
entry_text open_line step (input.Byte b) = byte_text (is_within open_line step) open_line step b
entry_text open_line step input.Abort = closing open_line ++ codes "at " ++ decimal step ++ codes " abort\n"

-- how many lines an entry begins
abbrev pub entry_count : Option ℕ → (step : ℕ) → Input → ℕ
entry_count open_line step (input.Byte b) = if is_within open_line step then 0 else 1
entry_count open_line step input.Abort = 1

-- the line that stands open behind an entry
abbrev pub open_behind : (step : ℕ) → Input → Option ℕ
open_behind step (input.Byte b) = Some step
open_behind step input.Abort = None

-- the same of entries of which only those of later steps are written
abbrev pub later_text : (steps : ℕ) → Option ℕ → Entry → List ℕ
later_text steps open_line entry =
    if nat_lt steps entry.step then entry_text open_line entry.step entry.input else []

abbrev pub later_count : (steps : ℕ) → Option ℕ → Entry → ℕ
later_count steps open_line entry =
    if nat_lt steps entry.step then entry_count open_line entry.step entry.input else 0

abbrev pub later_open : (steps : ℕ) → Option ℕ → Entry → Option ℕ
later_open steps open_line entry =
    if nat_lt steps entry.step then open_behind entry.step entry.input else open_line

-- the same where there may be no entry
abbrev pub text_at : (steps : ℕ) → Option ℕ → Option Entry → List ℕ
text_at steps open_line (Some entry) = later_text steps open_line entry
text_at steps open_line None = []

abbrev pub count_at : (steps : ℕ) → Option ℕ → Option Entry → ℕ
count_at steps open_line (Some entry) = later_count steps open_line entry
count_at steps open_line None = 0

abbrev pub open_at : (steps : ℕ) → Option ℕ → Option Entry → Option ℕ
open_at steps open_line (Some entry) = later_open steps open_line entry
open_at steps open_line None = open_line

-- all that is still to be written
abbrev pub text_from : (steps : ℕ) → Option ℕ → Entries → List ℕ
text_from steps open_line [] = closing open_line
text_from steps open_line (entry ∷ entries) =
    later_text steps open_line entry ++ text_from steps (later_open steps open_line entry) entries

abbrev pub count_from : (steps : ℕ) → Option ℕ → Entries → ℕ
count_from steps open_line [] = 0
count_from steps open_line (entry ∷ entries) =
    later_count steps open_line entry + count_from steps (later_open steps open_line entry) entries
