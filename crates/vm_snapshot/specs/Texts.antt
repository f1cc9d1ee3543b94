-- The lines that are written for a guest.
use Rattle.std.specs.Prelude.{ℕ, nat_lt, List, [], ◌∷◌, ◌++◌, length, codes, decimal, Option, Some, None}
use Rattle.std.specs.List.{filter, flat_map}
use Rattle.mb_model.specs.declared.kept.Kept.{Kept}
use Rattle.mb_model.specs.Seen.{Seen}
use Rattle.mb_report.specs.Digits.{digits}
use Rattle.mb_report.specs.Kept.{kept_line}
use Rattle.mb_report.specs.Text.{count_line, outcome_text}
use Rattle.mb_script.specs.declared.entry.Entry.{Entry}
use Rattle.mb_script.specs.Script.{Entries}
use Rattle.vm_disk.specs.Disk.{DiskState}
use Rattle.vm_disk.specs.Text.{disk_text}
use Rattle.vm_snapshot.specs.Inputs.{InputLine, Due, Bytes, Abort}
use Rattle.vm_snapshot.specs.Runs.{lines_of}

-- what is still to come by a script: the entries of later steps
abbrev pub above : (steps : ℕ) → Entries → Entries
above steps script = filter (λ (entry : Entry). nat_lt steps entry.step) script

abbrev pub due_text : Due → List ℕ
due_text (Bytes bytes) = codes " hex " ++ digits bytes ++ 10 ∷ []
due_text Abort = codes " abort\n"

abbrev pub input_text : InputLine → List ℕ
input_text line = codes "at " ++ decimal line.step ++ due_text line.due

-- the lines before the outcome's
abbrev pub front_text : (kib : ℕ) → List Kept → List InputLine → List ℕ
front_text kib kept input =
    count_line (codes "ram") kib
    ++ count_line (codes "kept") (length kept) ++ flat_map kept_line kept
    ++ count_line (codes "input") (length input) ++ flat_map input_text input

abbrev pub disk_lines : (guest : ℕ) → Option DiskState → List ℕ
disk_lines guest (Some disk) = disk_text guest disk
disk_lines guest None = []

-- the outcome's lines, and those of the disk where there is one
abbrev pub machine_text : (guest : ℕ) → Seen → Option DiskState → List ℕ
machine_text guest seen disk = outcome_text guest seen ++ disk_lines guest disk

-- the lines of a guest with so many KiB of RAM
abbrev pub guest_text : (guest kib : ℕ) → List Kept → Entries → Seen → Option DiskState → List ℕ
guest_text guest kib kept script seen disk =
    front_text kib kept (lines_of (above seen.steps script)) ++ machine_text guest seen disk
