-- Behind the lines so far, those that are left lead to where all lead.
use Rattle.std.proofs.Common.{◌≡◌, ◌≤◌, length}
use Rattle.mb_lines.specs.Lines.{left, numbered, room}
use Rattle.mb_asm.specs.Laying.{layout_said}
use Rattle.mb_asm.specs.Layouts.{after_lines, beginning}
use Rattle.mb_asm.proofs.assembling.laid_out.Given as goal

abbrev pub invariant-loop-line : goal.invariant-loop-line
invariant-loop-line l = record {
  reached : after_lines (layout_said l.layout) (left l.lines) ≡ after_lines beginning (numbered l.text);
  room : room l.lines ≤ length l.text;
}

abbrev pub decreases-loop-line : goal.decreases-loop-line
decreases-loop-line l = length (left l.lines)
