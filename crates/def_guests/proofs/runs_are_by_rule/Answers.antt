use Rattle.def_guests.proofs.ByRule.{trees_by_rule}
use Rattle.def_guests.proofs.runs_are_by_rule.Goals as goal

pub returns : goal.returns
returns g c = λ m h. trees_by_rule m h
