use Rattle.std.proofs.Common.{length}
use Rattle.mb_entry.proofs.places.+put_bytes.Given as goal

abbrev pub decreases-put_bytes : goal.decreases-put_bytes
decreases-put_bytes g l = length l.places.now
