use Rattle.def_guests.proofs.Rests.{traps_are_finished, denied_writes_go_on, denied_lines_go_on, denied_transfers_go_on}
use Rattle.def_guests.proofs.rests_are_finished.Goals as goal

pub returns-clause-traps : goal.returns-clause-traps
returns-clause-traps g c = λ i vector before cpu h bus s. traps_are_finished i vector before cpu h bus s

pub returns-clause-writes : goal.returns-clause-writes
returns-clause-writes g c =
    λ bus level cpu s t i first pieces done b e. denied_writes_go_on bus level cpu s t i first pieces done b e

pub returns-clause-lines : goal.returns-clause-lines
returns-clause-lines g c = λ bus level cpu s t i at line done b e. denied_lines_go_on bus level cpu s t i at line done b e

pub returns-clause-transfers : goal.returns-clause-transfers
returns-clause-transfers g c =
    λ bus level cpu now s t i ea done next b on e. denied_transfers_go_on bus level cpu now s t i ea done next b on e
