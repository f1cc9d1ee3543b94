-- Why the first fault of a text refuses its file.
use Rattle.mb_srec.specs.Faults as image_fault
use Rattle.mb_script.specs.Faults as line_fault
use Rattle.mb_asm.specs.Texts as source_fault
use Rattle.mb_files.specs.declared.fault.FileWhy.{FileWhy}
use Rattle.mb_files.specs.declared.fault.FileWhy.TheVariants.{Line, Outside, NoEnd}
use Rattle.mb_files.specs.declared.fault.Reason.TheVariants.{Record, Words, Source}

-- of an image
abbrev pub image_why : image_fault.Fault → FileWhy
image_why (image_fault.Line number why) = Line number (Record why)
image_why (image_fault.Outside at) = Outside at
image_why image_fault.NoEnd = NoEnd

-- of a script, or of a session
abbrev pub line_why : line_fault.Fault → FileWhy
line_why fault = Line fault.number (Words fault.why)

-- of a source
abbrev pub source_why : source_fault.Fault → FileWhy
source_why fault = Line fault.number (Source fault.kind)
