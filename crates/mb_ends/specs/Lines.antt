-- What a run says on diag, and its status.
use Rattle.std.specs.Prelude.{◌++◌, ℕ, [], codes, decimal, string_bytes}
use Rattle.mb_srec.specs.declared.fault.RecordWhy.{RecordWhy}
use Rattle.mb_srec.specs.declared.fault.RecordWhy.TheVariants as why
use Rattle.mb_script.specs.declared.fault.LineWhy.{LineWhy}
use Rattle.mb_script.specs.declared.fault.LineWhy.TheVariants as line_why
use Rattle.mb_asm.specs.declared.fault.AsmKind.{AsmKind}
use Rattle.mb_asm.specs.declared.fault.AsmKind.TheVariants as kind
use Rattle.mb_report.specs.Digits.{hex8}
use Rattle.mb_words.specs.Words.{Text}
use Rattle.def_guests.specs.Turns.{Tally}
use Rattle.vm_slices.specs.Members.{tallies_of}
use Rattle.vm_slices.specs.Places.{HostState, members_in}
use Rattle.mb_ends.specs.Texts.{texts_from}
use Rattle.vm_slices.specs.declared.open_fault.OpenFault.{OpenFault}
use Rattle.vm_slices.specs.declared.open_fault.OpenFault.TheVariants as open_fault
use Rattle.mb_files.specs.declared.fault.FileFault.{FileFault}
use Rattle.mb_files.specs.declared.fault.FileFault.TheVariants as fault
use Rattle.mb_files.specs.declared.fault.FileWhy.{FileWhy}
use Rattle.mb_files.specs.declared.fault.FileWhy.TheVariants.{TooLong, Line, Outside, NoEnd, NoGuest}
use Rattle.mb_files.specs.declared.fault.Reason.{Reason}
use Rattle.mb_files.specs.declared.fault.Reason.TheVariants as reason
use Rattle.mb_ends.specs.declared.end.End.{End}
use Rattle.mb_ends.specs.declared.end.End.TheVariants.{Done, Counts, Differs, Words, Refused, Oversize}
use Rattle.mb_ends.specs.declared.end.End.TheVariants.{Unread, Output, Memory}

-- the beginning of a line that names a file
abbrev pub named_file : Text → Text
named_file name = codes "mbx: " ++ name

-- a line that names a file
abbrev pub named : Text → Text → Text
named name rest = named_file name ++ rest

abbrev pub record_reason : RecordWhy → Text
record_reason why.Kind = codes "kind"
record_reason why.Digits = codes "digits"
record_reason why.Length = codes "length"
record_reason why.Sum = codes "sum"
record_reason why.Count = codes "count"
record_reason why.After = codes "after"

abbrev pub line_reason : LineWhy → Text
line_reason line_why.Word = codes "word"
line_reason line_why.Number = codes "number"
line_reason line_why.Digits = codes "digits"
line_reason line_why.Order = codes "order"
line_reason line_why.Many = codes "many"

abbrev pub source_reason : AsmKind → Text
source_reason kind.Syntax = codes "syntax"
source_reason kind.Name = codes "name"
source_reason kind.Twice = codes "twice"
source_reason kind.Operand = codes "operand"
source_reason kind.Range = codes "range"
source_reason kind.Place = codes "place"

abbrev pub reason_of : Reason → Text
reason_of (reason.Record why) = record_reason why
reason_of (reason.Words why) = line_reason why
reason_of (reason.Source kind) = source_reason kind
reason_of reason.Snapshot = codes "snapshot"

-- why a file is refused, behind its name
abbrev pub why_text : FileWhy → Text
why_text TooLong = codes " too long\n"
why_text (Line number why) = codes " line " ++ decimal number ++ codes ": " ++ reason_of why ++ codes "\n"
why_text (Outside at) = codes " outside " ++ hex8 at ++ codes "\n"
why_text NoEnd = codes " no end\n"
why_text (NoGuest guest) = codes " no guest " ++ decimal guest ++ codes "\n"

-- the line of a session that does not fit on its board
abbrev pub oversize_line : (need have : ℕ) → Text
oversize_line need have =
    codes "mbx: oversize need " ++ decimal need ++ codes " have " ++ decimal have ++ codes "\n"

-- so many of a class, behind its name
abbrev pub class_count : Text → ℕ → Text
class_count name count = name ++ decimal count

-- the line of a guest
abbrev pub counts_line : ℕ → Tally → Text
counts_line i t = codes "guest " ++ decimal i
    ++ class_count (codes " retired ") t.retired
    ++ class_count (codes " privileged ") t.privileged
    ++ class_count (codes " trapped ") t.trapped
    ++ class_count (codes " denied ") t.denied
    ++ class_count (codes " traced ") t.traced
    ++ class_count (codes " entered ") t.entered
    ++ class_count (codes " idle ") t.idle
    ++ class_count (codes " refilled ") t.refilled
    ++ codes "\n"

-- the lines of a host: how many steps of each class each guest has taken
abbrev pub counts_lines : HostState → Text
counts_lines host = texts_from counts_line 1 (tallies_of (members_in host))

abbrev pub line_of : End → Text
line_of Done = []
line_of (Counts host) = counts_lines host
line_of Differs = []
line_of Words = codes "mbx: words refused\n"
line_of (Refused name why) = named (string_bytes name) (why_text why)
line_of (Oversize need have) = oversize_line need have
line_of (Unread name) = named (string_bytes name) (codes " cannot be read\n")
line_of Output = codes "mbx: output failed\n"
line_of Memory = codes "mbx: no memory\n"

abbrev pub status_of : End → ℕ
status_of Done = 0
status_of (Counts host) = 0
status_of Differs = 1
status_of Words = 2
status_of (Refused name why) = 3
status_of (Oversize need have) = 4
status_of (Unread name) = 5
status_of Output = 6
status_of Memory = 7

-- how a run ends where a file is not read
abbrev pub end_by : FileFault → End
end_by (fault.Refused name why) = Refused name why
end_by (fault.Unread name) = Unread name
end_by fault.Memory = Memory

-- how a run ends without a host
abbrev pub unopened : OpenFault → End
unopened (open_fault.Oversize need have) = Oversize need have
unopened open_fault.Memory = Memory
