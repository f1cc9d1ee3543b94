use Rattle.std.proofs.Common.{◌∙◌, sym, subst, rules}
use Rattle.vm_port.specs.Own.{IsPlaced}
use Rattle.vm_port.proofs.Owns.{placed_nothing}
use Rattle.try_board.proofs.guest_port.Guest.new.Goals as goal

pub invariant_of-result : goal.invariant_of-result
invariant_of-result c = record {
  area = c.clear.ensures.area ∙ search rules;
  maps = c.clear.ensures.tables;
  placed = subst (IsPlaced 65536) (sym c.clear.ensures.shadow) (placed_nothing 65536);
}
