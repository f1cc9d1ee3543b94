-- What is left is what was left, and each line that was passed over is counted.
use Rattle.std.proofs.Common.{◌≡◌, ◌≤◌, length}
use Rattle.mb_lines.specs.Lines.{LinesLeft, left, past, room}
use Rattle.mb_lines.proofs.lines.Lines.next_line.Given as goal

abbrev pub invariant-loop-characters : goal.invariant-loop-characters
invariant-loop-characters l =
    let now : LinesLeft = record { count = l.self-inside.count; lines = l.self-inside.lines } in
    let before : LinesLeft = record { count = l.initial.self-inside.count; lines = l.initial.self-inside.lines } in
    record {
      left : left now ≡ left before;
      past : past now ≡ past before;
      room : room now ≤ room before;
    }

abbrev pub decreases-loop-characters : goal.decreases-loop-characters
decreases-loop-characters l = length l.self-inside.lines
