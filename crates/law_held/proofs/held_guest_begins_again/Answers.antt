use Rattle.law_held.proofs.Refills.{attempts_begin_again}
use Rattle.law_held.proofs.held_guest_begins_again.Goals as goal

pub returns : goal.returns
returns c = attempts_begin_again
