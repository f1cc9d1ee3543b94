-- Those that pass so far, and those that pass of the rest, are all that pass.
use Rattle.std.proofs.Common.{ℕ, ◌+◌, ◌≤◌, drop}
use Rattle.try_runs.specs.Passed.{Passed}
use Rattle.try_runs.proofs.cases.run_cases.Given as goal

abbrev pub invariant-loop-case : goal.invariant-loop-case
invariant-loop-case g l = record {
  passed : (more : ℕ) → Passed (drop l.case-index l.cases) more → Passed l.cases (l.passed + more);
  among : l.passed ≤ l.case-index;
}
