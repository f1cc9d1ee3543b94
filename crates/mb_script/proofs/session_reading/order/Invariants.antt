-- The turns so far, with those of the lines that are left, are all turns.
use Rattle.std.proofs.Common.{◌≡◌, length}
use Rattle.std.specs.Prelude.{All, option_map}
use Rattle.mb_lines.specs.Answers.{line_said}
use Rattle.mb_lines.specs.Lines.{left}
use Rattle.mb_script.specs.Lines.{ahead, statements}
use Rattle.mb_script.specs.Plan.{IsTurnOf}
use Rattle.mb_script.specs.Sessions.{turns_of}
use Rattle.mb_script.proofs.Entries.{with_front}
use Rattle.mb_script.proofs.session_reading.order.Given as goal

abbrev pub invariant-loop-next : goal.invariant-loop-next
invariant-loop-next l = record {
  order : with_front l.order.items (turns_of l.count (ahead (option_map line_said l.next) (statements (left l.lines))))
      ≡ turns_of l.count (ahead (option_map line_said l.fn.first) (statements (left l.fn.lines)));
  turns : All (IsTurnOf l.count) l.order.items;
}

abbrev pub decreases-loop-next : goal.decreases-loop-next
decreases-loop-next l = length (ahead (option_map line_said l.next) (statements (left l.lines)))
