use Rattle.law_tidy.proofs.Told.{tidy_runs-are_told, tidy-is_told}
use Rattle.law_tidy.proofs.tidy_is_told.Goals as goal

pub returns-clause-runs : goal.returns-clause-runs
returns-clause-runs c = tidy_runs-are_told

pub returns-clause-images : goal.returns-clause-images
returns-clause-images c = tidy-is_told
