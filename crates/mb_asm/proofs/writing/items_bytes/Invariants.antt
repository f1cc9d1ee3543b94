-- The bytes so far, with those of the items that are left, are those of all.
use Rattle.std.proofs.Common.{◌≡◌, drop}
use Rattle.mb_asm.specs.Scopes.{scope_said}
use Rattle.mb_asm.specs.Bytes.{items_bytes}
use Rattle.mb_asm.specs.Code.{with_front}
use Rattle.mb_asm.proofs.writing.items_bytes.Given as goal

abbrev pub invariant-loop-item : goal.invariant-loop-item
invariant-loop-item l =
    with_front l.bytes.items (items_bytes l.unit (scope_said l.scope) (drop l.item-index l.items)) ≡ items_bytes l.unit (scope_said l.scope) l.items
