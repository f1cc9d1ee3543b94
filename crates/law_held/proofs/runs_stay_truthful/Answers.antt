use Rattle.law_routines.specs.Tree.{routine_of}
use Rattle.law_held.proofs.Truths.{runs_keep_truth}
use Rattle.law_held.proofs.runs_stay_truthful.Goals as goal

pub returns : goal.returns
returns g c = λ size m h fine. runs_keep_truth size (routine_of m) h fine
