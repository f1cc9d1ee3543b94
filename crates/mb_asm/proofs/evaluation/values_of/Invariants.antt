-- The values so far, with those of the operands that are left, are all.
use Rattle.std.proofs.Common.{◌≡◌, ◌++◌, drop}
use Rattle.mb_asm.specs.Scopes.{scope_said}
use Rattle.mb_asm.specs.Values.{values_of}
use Rattle.mb_asm.proofs.evaluation.values_of.Given as goal

abbrev pub invariant-loop-operand : goal.invariant-loop-operand
invariant-loop-operand l =
    l.values.items ++ values_of (scope_said l.scope) (drop l.operand-index l.operands) ≡ values_of (scope_said l.scope) l.operands
