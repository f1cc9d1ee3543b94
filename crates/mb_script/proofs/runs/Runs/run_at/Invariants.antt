-- The run is not before the one at which the look is.
use Rattle.std.proofs.Common.{◌≡◌, ◌<◌, ◌-◌, drop, length}
use Rattle.mb_script.specs.Runs.{run_at}
use Rattle.mb_script.proofs.runs.Runs.run_at.Given as goal

abbrev pub invariant-loop-at : goal.invariant-loop-at
invariant-loop-at l = record {
  same : run_at l.place (drop l.at l.self.runs.items) ≡ run_at l.place l.self.runs.items;
  inside : l.at < length l.self.runs.items;
}

abbrev pub decreases-loop-at : goal.decreases-loop-at
decreases-loop-at l = length l.self.runs.items - l.at
