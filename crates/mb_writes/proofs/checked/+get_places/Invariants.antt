use Rattle.std.proofs.Common.{length}
use Rattle.mb_writes.proofs.checked.+get_places.Given as goal

abbrev pub decreases-get_places : goal.decreases-get_places
decreases-get_places g l = length l.places.now
