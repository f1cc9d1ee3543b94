use Rattle.law_mirror.proofs.Attempts.{attempts_stay, fetches_stay, rows_stay}
use Rattle.law_mirror.proofs.board_mirrors_attempts.Goals as goal

pub returns-clause-attempts : goal.returns-clause-attempts
returns-clause-attempts c = attempts_stay

pub returns-clause-fetches : goal.returns-clause-fetches
returns-clause-fetches c = fetches_stay

pub returns-clause-rows : goal.returns-clause-rows
returns-clause-rows c = rows_stay
