use Rattle.def_guests.proofs.Rounds.{rounds_end_all}
use Rattle.def_guests.proofs.rounds_end.Goals as goal

pub returns : goal.returns
returns c = rounds_end_all
