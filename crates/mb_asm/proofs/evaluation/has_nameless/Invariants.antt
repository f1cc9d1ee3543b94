-- What is found in the rest is what is found in all.
use Rattle.std.proofs.Common.{◌≡◌, drop}
use Rattle.std.specs.List.{list_any}
use Rattle.mb_asm.specs.Scopes.{scope_said}
use Rattle.mb_asm.specs.Values.{is_nameless}
use Rattle.mb_asm.proofs.evaluation.has_nameless.Given as goal

abbrev pub invariant-loop-term : goal.invariant-loop-term
invariant-loop-term l = list_any (is_nameless (scope_said l.scope)) (drop l.term-index l.terms) ≡ list_any (is_nameless (scope_said l.scope)) l.terms
