use Rattle.law_refills.proofs.Ends.{refills_end, bound_is_not_met}
use Rattle.law_refills.proofs.refills_end.Goals as goal

pub returns-clause-last : goal.returns-clause-last
returns-clause-last c = λ size cpu g longs counter fine. refills_end size cpu g longs counter fine

pub returns-clause-bound : goal.returns-clause-bound
returns-clause-bound c = λ size bound cpu g longs counter fine le. bound_is_not_met size bound cpu g longs counter fine le
