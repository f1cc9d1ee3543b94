use Rattle.std.proofs.Common.{drop}
use Rattle.mb_model.specs.Keeping.{Apart}
use Rattle.mb_saved.proofs.lawful.are_apart.Given as goal

abbrev pub invariant-loop-place : goal.invariant-loop-place
invariant-loop-place l = record {
  here : Apart l.kept → Apart (drop l.place l.kept);
  back : Apart (drop l.place l.kept) → Apart l.kept;
}
