use Rattle.std.proofs.Common.{length}
use Rattle.mb_lines.specs.Lines.{left}
use Rattle.mb_script.specs.Lines.{statements}
use Rattle.mb_script.proofs.script_reading.room_for.Given as goal

abbrev pub decreases-loop-line : goal.decreases-loop-line
decreases-loop-line l = length (statements (left l.lines))
