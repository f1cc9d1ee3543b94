-- The address so far, with the items that are left, is the address behind all.
use Rattle.std.proofs.Common.{◌≡◌, ◌≤◌, drop, IfSome}
use Rattle.mb_asm.specs.Extents.{behind_items}
use Rattle.mb_asm.proofs.extent.behind_items.Given as goal

abbrev pub invariant-loop-item : goal.invariant-loop-item
invariant-loop-item l = record {
  value : behind_items l.unit l.next (drop l.item-index l.items) ≡ behind_items l.unit l.fn.at l.items;
  most : IfSome l.next (λ known. known ≤ 4294967297);
}
