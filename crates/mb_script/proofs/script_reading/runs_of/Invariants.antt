-- The entries so far, with those of the lines that are left, are those of all lines; and there are no
-- more of them than characters.
use Rattle.std.proofs.Common.{◌≡◌, ◌+◌, ◌≤◌, length}
use Rattle.mb_lines.specs.Lines.{left, room}
use Rattle.mb_script.specs.Lines.{statements}
use Rattle.mb_script.specs.Runs.{AreKept, kept}
use Rattle.mb_script.specs.Script.{IsInOrder}
use Rattle.mb_script.specs.Scripts.{entries_after, script_of}
use Rattle.mb_script.proofs.Entries.{with_front}
use Rattle.mb_script.proofs.script_reading.runs_of.Given as goal

abbrev pub invariant-loop-line : goal.invariant-loop-line
invariant-loop-line l = record {
  entries : with_front (kept l.runs) (entries_after l.last (statements (left l.lines))) ≡ script_of l.text;
  in_order : IsInOrder l.last (kept l.runs);
  few : length (kept l.runs) + room l.lines ≤ length l.text;
  kept : AreKept l.runs;
}

abbrev pub decreases-loop-line : goal.decreases-loop-line
decreases-loop-line l = length (statements (left l.lines))
