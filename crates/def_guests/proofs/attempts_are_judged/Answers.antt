use Rattle.def_guests.proofs.Judged.{allowed_accesses_are_still, attempts_are_judged}
use Rattle.def_guests.proofs.attempts_are_judged.Goals as goal

pub returns-clause-still : goal.returns-clause-still
returns-clause-still c = allowed_accesses_are_still

pub returns-clause-judged : goal.returns-clause-judged
returns-clause-judged c = attempts_are_judged
