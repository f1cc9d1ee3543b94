-- What reading files in code gave.
use Rattle.std.specs.Prelude.{◌≡◌, ℕ, ◌<◌, ◌≤◌, length, Result, Ok, Err, String, string_bytes}
use Rattle.std.specs.declared.alloc.Global.{Global}
use Rattle.mb_outside.specs.Counts.{Rose}
use Rattle.mb_srec.specs.declared.fault.ImageFault.{ImageFault}
use Rattle.mb_srec.specs.declared.fault.ImageFault.TheVariants as image_fault
use Rattle.mb_script.specs.declared.fault.LineFault.{LineFault}
use Rattle.mb_script.specs.declared.fault.LineFault.TheVariants as line_fault
use Rattle.mb_asm.specs.declared.fault.AsmFault.{AsmFault}
use Rattle.mb_asm.specs.declared.fault.AsmFault.TheVariants as asm_fault
use Rattle.vm_snapshot.specs.declared.plan.SnapFault.{SnapFault}
use Rattle.vm_snapshot.specs.declared.plan.SnapFault.TheVariants as snap_fault
use Rattle.mb_words.specs.Words.{Text}
use Rattle.mb_files.specs.Reading.{Reading}
use Rattle.mb_files.specs.Comes.{Comes, MayHave, Names}
use Rattle.mb_files.specs.Shelves.{ShelfSeen, Fails, IsMissing, Stayed}
use Rattle.mb_files.specs.declared.fault.FileWhy.{FileWhy}
use Rattle.mb_files.specs.declared.fault.FileWhy.TheVariants.{TooLong, Line, Outside, NoEnd}
use Rattle.mb_files.specs.declared.fault.Reason.TheVariants.{Record, Words, Source, Snapshot}
use Rattle.mb_files.specs.declared.fault.FileFault.{FileFault}
use Rattle.mb_files.specs.declared.fault.FileFault.TheVariants.{Refused, Unread, Memory}
use Rattle.mb_files.specs.declared.files.Loaded.{Loaded}
use Rattle.mb_files.specs.declared.unheld.Unheld.{Unheld}
use Rattle.mb_files.specs.declared.unheld.Unheld.TheVariants as unheld

-- ---- readings

-- Why it was not read: it comes to a refusal, or a file of it cannot be read; or memory ran out.
abbrev pub IsUnread : {A : Type 0} → Reading A → ShelfSeen → ShelfSeen → FileFault → Type 0
IsUnread reading before after (Refused name why) =
    (after ≡ before) × Comes before.told reading (Err (string_bytes name, why))
IsUnread reading before after (Unread name) =
    Names before.told reading (string_bytes name) × IsMissing before (string_bytes name) × Fails before after
IsUnread reading before after Memory = after ≡ before

-- What was read, seen so, is what the reading comes to; or it was not read.
abbrev pub IsRead : {A X : Type 0} → Reading A → (X → A) → ShelfSeen → ShelfSeen → Result X FileFault → Type 0
IsRead reading view before after (Ok x) = (after ≡ before) × Comes before.told reading (Ok (view x))
IsRead reading view before after (Err fault) = IsUnread reading before after fault

-- ---- one whole file

-- the bytes are more than a file may have
abbrev pub IsTooLong : (most : ℕ) → FileWhy → Text → Type 0
IsTooLong most why bytes = (why ≡ TooLong) × (most < length bytes)

-- Why the file, of at most so many bytes, was not read: bytes that may be its own are too many, or it cannot be read;
-- or memory ran out.
abbrev pub IsUnloaded : (most : ℕ) → ShelfSeen → ShelfSeen → Text → FileFault → Type 0
IsUnloaded most before after name (Refused n why) = (string_bytes n ≡ name) × Stayed before after
    × ((bytes : Text) × MayHave before.told name bytes × IsTooLong most why bytes)
IsUnloaded most before after name (Unread n) =
    (string_bytes n ≡ name) × IsMissing before name × Rose before.faults after.faults
IsUnloaded most before after name Memory = Stayed before after

-- It was read to its end, or was not read.
abbrev pub LoadsFile : (most : ℕ) → ShelfSeen → ShelfSeen → Text → Result Loaded FileFault → Type 0
LoadsFile most before after name (Ok file) = (string_bytes file.name ≡ name) × Stayed before after
    × (length file.bytes.items ≤ most) × MayHave before.told name file.bytes.items
LoadsFile most before after name (Err fault) = IsUnloaded most before after name fault

-- ---- what bytes hold

-- what a fault of reading an image is
abbrev pub unheld_image : ImageFault → Unheld
unheld_image image_fault.Memory = unheld.Memory
unheld_image (image_fault.Line number why) = unheld.Why (Line number (Record why))
unheld_image (image_fault.Outside at) = unheld.Why (Outside at)
unheld_image image_fault.NoEnd = unheld.Why NoEnd

-- what a fault of reading a script or a session is
abbrev pub unheld_lines : LineFault → Unheld
unheld_lines line_fault.Memory = unheld.Memory
unheld_lines (line_fault.Line number why) = unheld.Why (Line number (Words why))

-- what a fault of assembling a source is
abbrev pub unheld_source : AsmFault → Unheld
unheld_source asm_fault.Memory = unheld.Memory
unheld_source (asm_fault.Line number kind) = unheld.Why (Line number (Source kind))

-- what a fault of reading a snapshot is
abbrev pub unheld_snapshot : SnapFault → Unheld
unheld_snapshot snap_fault.Memory = unheld.Memory
unheld_snapshot (snap_fault.Line number) = unheld.Why (Line number Snapshot)

-- why a file of this name is not read
abbrev pub fault_by : String Global → Unheld → FileFault
fault_by name unheld.Memory = Memory
fault_by name (unheld.Why why) = Refused name why
