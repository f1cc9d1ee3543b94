use Rattle.def_guests.proofs.ByRule.{steps_by_rule, turns_by_rule, guests_run_alone}
use Rattle.def_guests.proofs.guests_run_alone.Goals as goal

pub returns-clause-steps : goal.returns-clause-steps
returns-clause-steps c = steps_by_rule

pub returns-clause-turns : goal.returns-clause-turns
returns-clause-turns c = turns_by_rule

pub returns-clause-alone : goal.returns-clause-alone
returns-clause-alone c = guests_run_alone
