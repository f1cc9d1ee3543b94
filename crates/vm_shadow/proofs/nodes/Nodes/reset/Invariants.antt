use Rattle.std.proofs.Common.{◌≡◌, ℕ, ◌+◌, ◌<◌}
use Rattle.vm_shadow.specs.Links.{node, Sized}
use Rattle.vm_shadow.proofs.nodes.Nodes.reset.Given as goal

abbrev pub invariant-loop-at : goal.invariant-loop-at
invariant-loop-at l = record {
  sized : Sized l.self;
  newer : (k : ℕ) → k < l.at → (node l.self k).newer ≡ k + 1;
  count : (k : ℕ) → k < l.at → (node l.self k).count ≡ 0;
}
