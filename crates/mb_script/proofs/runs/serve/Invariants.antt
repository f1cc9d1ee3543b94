use Rattle.std.proofs.Common.{◌*◌, ◌≤◌, ◌-◌, All, length}
use Rattle.mb_script.specs.Runs.{AreStarts}
use Rattle.mb_script.proofs.runs.serve.Given as goal

abbrev pub invariant-loop-starts : goal.invariant-loop-starts
invariant-loop-starts l = record {
  started : AreStarts l.runs l.starts.items;
  ended : All (λ run. run.end ≤ 16 * length l.starts.items) l.runs;
}

abbrev pub decreases-loop-starts : goal.decreases-loop-starts
decreases-loop-starts l = l.count - length l.starts.items
