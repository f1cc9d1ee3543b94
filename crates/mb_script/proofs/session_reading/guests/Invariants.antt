-- The guests so far, with those of the lines that are left, are all guests.
use Rattle.std.proofs.Common.{◌≡◌, ◌≤◌, length, map}
use Rattle.mb_lines.specs.Lines.{left, past}
use Rattle.mb_script.specs.Answers.{guest_said}
use Rattle.mb_script.specs.Lines.{statements}
use Rattle.std.specs.Prelude.{All}
use Rattle.mb_script.specs.Plan.{AreRams, HasDisk}
use Rattle.mb_script.specs.Sessions.{guests_after, guests_of}
use Rattle.mb_script.proofs.Entries.{with_guests}
use Rattle.mb_script.proofs.session_reading.guests.Given as goal

abbrev pub invariant-loop-line : goal.invariant-loop-line
invariant-loop-line l = record {
  guests : with_guests (map guest_said l.guests.items) (guests_after l.version (length l.guests.items) (statements (left l.lines)))
      ≡ guests_of l.version (past l.fn.lines) (statements (left l.fn.lines));
  past : past l.lines ≡ past l.fn.lines;
  some : 1 ≤ length l.guests.items;
  few : length l.guests.items ≤ 16;
  rams : AreRams (map guest_said l.guests.items);
  disks : All HasDisk (map guest_said l.guests.items);
}

abbrev pub decreases-loop-line : goal.decreases-loop-line
decreases-loop-line l = length (statements (left l.lines))
