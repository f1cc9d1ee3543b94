-- The registers before this one are as the case says.
use Rattle.std.proofs.Common.{◌≡◌, ℕ, ◌<◌}
use Rattle.std.specs.Prelude.{slice_index}
use Rattle.try_runs.specs.Cases.{settled}
use Rattle.try_runs.proofs.cases.difference.first_register.Given as goal

abbrev pub invariant-loop-place : goal.invariant-loop-place
invariant-loop-place l =
    (i : ℕ) → i < l.place
    → slice_index l.got i ≡ settled (slice_index l.case.unsaid i) (slice_index l.case.after i) (slice_index l.got i)
