use Rattle.std.proofs.Common.{◌≡◌, ℕ, ◌<◌}
use Rattle.vm_shadow.specs.Area.{longs, OnlyArea}
use Rattle.vm_shadow.proofs.area.wipe.Given as goal

abbrev pub invariant-loop-index : goal.invariant-loop-index
invariant-loop-index g l = let bytes = g.R.Ram.bytes in record {
  longs : (at : ℕ) → at < l.index → longs (bytes l.ram) l.area at ≡ 0;
  outside : OnlyArea l.area (bytes l.fn.ram) (bytes l.ram);
  rest : g.R.Ram.rest l.ram ≡ g.R.Ram.rest l.fn.ram;
}
