-- The commands so far, with those of the lines that are left, are all commands.
use Rattle.std.proofs.Common.{◌≡◌, length}
use Rattle.mb_lines.specs.Lines.{left}
use Rattle.mb_script.specs.Lines.{statements}
use Rattle.vm_debug.specs.Commands.{commands_in, commands_of}
use Rattle.vm_debug.proofs.reading.read_commands.Given as goal
use Rattle.mb_script.proofs.Entries.{with_front}

abbrev pub invariant-loop-line : goal.invariant-loop-line
invariant-loop-line l = with_front l.commands.items (commands_in (statements (left l.lines))) ≡ commands_of l.text

abbrev pub decreases-loop-line : goal.decreases-loop-line
decreases-loop-line l = length (left l.lines)
