-- What is left of the lines goes on from what was read as all lines go on from the beginning.
use Rattle.std.proofs.Common.{◌≡◌, length}
use Rattle.mb_lines.specs.Lines.{left, numbered}
use Rattle.mb_srec.specs.Answers.{so_far}
use Rattle.mb_srec.specs.Records.{after_lines, beginning}
use Rattle.mb_srec.proofs.reading.read_lines.Given as goal

abbrev pub invariant-loop-line : goal.invariant-loop-line
invariant-loop-line l = after_lines l.ram (so_far l.reading) (left l.lines) ≡ after_lines l.ram beginning (numbered l.text)

abbrev pub decreases-loop-line : goal.decreases-loop-line
decreases-loop-line l = length (left l.lines)
