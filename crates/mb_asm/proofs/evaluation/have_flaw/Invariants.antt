-- What is found in the rest is what is found in all.
use Rattle.std.proofs.Common.{◌≡◌, drop}
use Rattle.mb_asm.specs.Scopes.{scope_said}
use Rattle.mb_asm.specs.Values.{have_flaw}
use Rattle.mb_asm.proofs.evaluation.have_flaw.Given as goal

abbrev pub invariant-loop-operand : goal.invariant-loop-operand
invariant-loop-operand l = have_flaw l.flaw (scope_said l.scope) (drop l.operand-index l.operands) ≡ have_flaw l.flaw (scope_said l.scope) l.operands
