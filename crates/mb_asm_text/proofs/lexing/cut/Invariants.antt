-- The tokens so far cut the line up to the place.
use Rattle.std.proofs.Common.{◌≤◌, ◌-◌, length}
use Rattle.mb_asm_text.specs.Cut.{Cuts}
use Rattle.mb_asm_text.proofs.lexing.cut.Given as goal

abbrev pub invariant-loop-place : goal.invariant-loop-place
invariant-loop-place l = record {
  cut : Cuts l.line 0 l.tokens.items l.place;
  inside : l.place ≤ length l.line;
}

abbrev pub decreases-loop-place : goal.decreases-loop-place
decreases-loop-place l = length l.line - l.place
