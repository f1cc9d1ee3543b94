-- The turns so far, with those that are left, are all turns.
use Rattle.std.proofs.Common.{◌≡◌, drop, length}
use Rattle.vm_slices.specs.Places.{members_in}
use Rattle.vm_slices.proofs.Orders.{SoFar}
use Rattle.vm_slices.proofs.host.Host.run_order.Given as goal

abbrev pub invariant-loop-turn : goal.invariant-loop-turn
invariant-loop-turn l = record {
  far : SoFar l.turns (drop l.turn-index l.turns) (members_in l.initial.self) (members_in l.self) l.initial.native l.native;
  slice : l.self.slice ≡ l.initial.self.slice;
  count : length (members_in l.self) ≡ length (members_in l.initial.self);
}
