use Rattle.law_mirror.proofs.Calls.{mirrors_calls}
use Rattle.law_mirror.proofs.Guard.{is_alike}
use Rattle.law_mirror.proofs.Inside.{stays_inside}
use Rattle.law_mirror.proofs.board_mirrors_calls.Goals as goal

pub returns-clause-calls : goal.returns-clause-calls
returns-clause-calls c = mirrors_calls

pub returns-clause-alike : goal.returns-clause-alike
returns-clause-alike c = is_alike

pub returns-clause-inside : goal.returns-clause-inside
returns-clause-inside c = stays_inside
