use Rattle.mb_walk.proofs.Inside as proved
use Rattle.mb_walk.proofs.MetPlaces as places
use Rattle.mb_walk.proofs.laws.searches_stay_inside.Goals as goal

pub returns-clause-met : goal.returns-clause-met
returns-clause-met c = places.searches_change_what_they_meet

pub returns-clause-inside : goal.returns-clause-inside
returns-clause-inside c = proved.searches_stay_inside
