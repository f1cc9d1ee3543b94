-- What the code's values stand for.
use Rattle.std.specs.Prelude.{List}
use Rattle.mb_srec.specs.Image.{contents_of}
use Rattle.mb_script.specs.Plan.{Disk}
use Rattle.mb_words.specs.Values.{file_said}
use Rattle.def_machine.specs.Machine.{Entries, Opening}
use Rattle.vm_guest.specs.Session.{SessionAtStart}
use Rattle.vm_debug.specs.declared.command.Command.{Command}
use Rattle.mb_program.specs.Files.{Ordered}
use Rattle.mb_program.specs.declared.named.NamedDisk.{NamedDisk}
use Rattle.mb_program.specs.declared.named.Parts.{Parts}
use Rattle.mb_program.specs.declared.debugged.DebuggedSession.{DebuggedSession}
use Rattle.mb_program.specs.declared.ordered.OrderedSession.{OrderedSession}

abbrev pub ordered_said : OrderedSession → Ordered
ordered_said ordered = record { session = ordered.session; order = ordered.order.items }

abbrev pub disk_named : NamedDisk → Disk
disk_named disk = record { blocks = disk.blocks; contents = file_said disk.contents }

abbrev pub opening_said : Parts → Opening
opening_said parts = record { image = contents_of parts.image; disk = parts.disk }

-- what is read of a machine's files
abbrev pub parts_said : Parts → Opening × Entries
parts_said parts = (opening_said parts, parts.script)

abbrev pub debugged_by : DebuggedSession → SessionAtStart × List Command
debugged_by d = (d.session, d.commands)
