use Rattle.law_held.proofs.Rows.{fetches_go_on, rows_go_on}
use Rattle.law_held.proofs.Attempts.{attempts_go_on}
use Rattle.law_held.proofs.held_guest_goes_on.Goals as goal

pub returns-clause-fetched : goal.returns-clause-fetched
returns-clause-fetched c = fetches_go_on

pub returns-clause-carried : goal.returns-clause-carried
returns-clause-carried c = rows_go_on

pub returns-clause-attempted : goal.returns-clause-attempted
returns-clause-attempted c = attempts_go_on
