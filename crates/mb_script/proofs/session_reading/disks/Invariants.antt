-- What the disks of the lines that are left do to the guests is what all do to them as they were.
use Rattle.std.proofs.Common.{◌≡◌, length, map}
use Rattle.std.specs.Prelude.{All, option_map}
use Rattle.mb_lines.specs.Answers.{line_said}
use Rattle.mb_lines.specs.Lines.{left}
use Rattle.mb_script.specs.Answers.{guest_said}
use Rattle.mb_script.specs.Lines.{ahead, statements}
use Rattle.mb_script.specs.Plan.{AreRams, HasDisk}
use Rattle.mb_script.specs.Sessions.{disks_of}
use Rattle.mb_script.proofs.session_reading.disks.Given as goal

abbrev pub invariant-loop-next : goal.invariant-loop-next
invariant-loop-next l = record {
  disks : disks_of (map guest_said l.guests.items) (ahead (option_map line_said l.next) (statements (left l.lines)))
      ≡ disks_of (map guest_said l.fn.guests.items) (ahead (option_map line_said l.fn.first) (statements (left l.fn.lines)));
  count : length l.guests.items ≡ length l.fn.guests.items;
  rams : AreRams (map guest_said l.guests.items);
  have : All HasDisk (map guest_said l.guests.items);
}

abbrev pub decreases-loop-next : goal.decreases-loop-next
decreases-loop-next l = length (ahead (option_map line_said l.next) (statements (left l.lines)))
