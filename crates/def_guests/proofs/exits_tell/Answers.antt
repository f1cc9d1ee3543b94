use Rattle.def_guests.proofs.Exits.{exits_tell}
use Rattle.def_guests.proofs.exits_tell.Goals as goal

pub returns : goal.returns
returns g c = λ bus level cpu s h. exits_tell bus level cpu s h
