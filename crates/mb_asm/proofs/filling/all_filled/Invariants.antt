-- The operands so far, with those that are left, are all.
use Rattle.std.proofs.Common.{◌≡◌, ◌++◌, drop, map}
use Rattle.mb_asm.specs.Scopes.{scope_said}
use Rattle.mb_asm.specs.Values.{with_all_known}
use Rattle.mb_asm.proofs.filling.all_filled.Given as goal

abbrev pub invariant-loop-operand : goal.invariant-loop-operand
invariant-loop-operand l =
    l.values.items ++ map (with_all_known (scope_said l.scope)) (drop l.operand-index l.operands) ≡ map (with_all_known (scope_said l.scope)) l.operands
