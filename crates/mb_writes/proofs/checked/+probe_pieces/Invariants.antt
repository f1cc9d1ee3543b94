use Rattle.std.proofs.Common.{length}
use Rattle.mb_writes.proofs.checked.+probe_pieces.Given as goal

abbrev pub decreases-probe_pieces : goal.decreases-probe_pieces
decreases-probe_pieces g l = length l.pieces.now
