use Rattle.std.proofs.Common.{◌≡◌, ◌-◌, ◌+◌, ◌≤◌, length}
use Rattle.std.specs.Prelude.{IfSome}
use Rattle.mb_outside.proofs.LoadLemmas.{IsFront}
use Rattle.mb_outside.proofs.loads.load_by.Given as goal

abbrev pub invariant-loop-count : goal.invariant-loop-count
invariant-loop-count g l = record {
  told : g.S.Shelf.told l.shelf ≡ g.S.Shelf.told l.initial.shelf;
  same : g.S.Shelf.whole l.shelf ≡ g.S.Shelf.whole l.initial.shelf;
  faults : g.S.Shelf.faults l.shelf ≡ g.S.Shelf.faults l.initial.shelf;
  short : length l.bytes.items ≤ l.most;
  front : IfSome (g.S.Shelf.told l.initial.shelf l.name) (λ bytes. IsFront l.bytes.items bytes);
}

abbrev pub decreases-loop-count : goal.decreases-loop-count
decreases-loop-count g l = (l.most + 1) - length l.bytes.items
