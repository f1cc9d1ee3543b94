-- Each line is one less that is left.
use Rattle.std.proofs.Common.{length}
use Rattle.mb_lines.specs.Lines.{left}
use Rattle.try_runs.proofs.run_table.Given as goal

abbrev pub decreases-loop-line : goal.decreases-loop-line
decreases-loop-line g l = length (left l.lines)
