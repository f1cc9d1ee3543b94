use Rattle.law_tidy.proofs.Off.{off-runs_are_tidy, off-is_tidy}
use Rattle.law_tidy.proofs.off_is_tidy.Goals as goal

pub returns-clause-runs : goal.returns-clause-runs
returns-clause-runs c = off-runs_are_tidy

pub returns-clause-images : goal.returns-clause-images
returns-clause-images c = off-is_tidy
