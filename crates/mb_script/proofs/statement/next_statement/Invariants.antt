-- What is left is what was left, but for comments.
use Rattle.std.proofs.Common.{◌≡◌, ◌≤◌, length}
use Rattle.mb_lines.specs.Lines.{left, past, room}
use Rattle.mb_script.specs.Lines.{statements}
use Rattle.mb_script.proofs.statement.next_statement.Given as goal

abbrev pub invariant-loop-line : goal.invariant-loop-line
invariant-loop-line l = record {
  left : statements (left l.lines) ≡ statements (left l.initial.lines);
  past : past l.lines ≡ past l.initial.lines;
  room : room l.lines ≤ room l.initial.lines;
}

abbrev pub decreases-loop-line : goal.decreases-loop-line
decreases-loop-line l = length (left l.lines)
