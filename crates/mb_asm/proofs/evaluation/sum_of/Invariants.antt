-- The sum so far, with the terms that are left, is the sum of all; and it is no larger than so many terms allow.
use Rattle.std.proofs.Common.{◌≡◌, ◌*◌, drop, pos, neg_ℤ, ◌≤ℤ◌}
use Rattle.mb_asm.specs.Scopes.{scope_said}
use Rattle.mb_asm.specs.Values.{sum_behind}
use Rattle.mb_asm.proofs.evaluation.sum_of.Given as goal

abbrev pub invariant-loop-term : goal.invariant-loop-term
invariant-loop-term l = record {
  value : sum_behind (scope_said l.scope) l.sum (drop l.term-index l.terms) ≡ sum_behind (scope_said l.scope) (pos 0) l.terms;
  least : neg_ℤ (pos (4294967297 * l.term-index)) ≤ℤ l.sum;
  greatest : l.sum ≤ℤ pos (4294967297 * l.term-index);
}
