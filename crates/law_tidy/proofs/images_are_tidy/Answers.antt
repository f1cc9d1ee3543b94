use Rattle.law_tidy.proofs.Images.{sending-is_tidy, flushing-is_tidy, stale-is_untidy, stale-differs}
use Rattle.law_tidy.proofs.images_are_tidy.Goals as goal

pub returns-clause-sending : goal.returns-clause-sending
returns-clause-sending c = sending-is_tidy

pub returns-clause-flushing : goal.returns-clause-flushing
returns-clause-flushing c = flushing-is_tidy

pub returns-clause-stale : goal.returns-clause-stale
returns-clause-stale c = stale-is_untidy

pub returns-clause-differs : goal.returns-clause-differs
returns-clause-differs c = stale-differs
