use Rattle.law_held.proofs.Puts.{accesses_keep_truth}
use Rattle.law_held.proofs.Truths.{calls_keep_truth}
use Rattle.law_held.proofs.shadow_stays_truthful.Goals as goal

pub returns-clause-accesses : goal.returns-clause-accesses
returns-clause-accesses c = accesses_keep_truth

pub returns-clause-calls : goal.returns-clause-calls
returns-clause-calls c = calls_keep_truth
