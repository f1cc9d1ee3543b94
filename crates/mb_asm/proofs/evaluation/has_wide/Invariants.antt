-- What is found in the rest is what is found in all.
use Rattle.std.proofs.Common.{◌≡◌, drop}
use Rattle.std.specs.List.{list_any}
use Rattle.mb_asm.specs.Values.{is_wide}
use Rattle.mb_asm.proofs.evaluation.has_wide.Given as goal

abbrev pub invariant-loop-term : goal.invariant-loop-term
invariant-loop-term l = list_any is_wide (drop l.term-index l.terms) ≡ list_any is_wide l.terms
