use Rattle.law_turns.proofs.Taking as taking_laws
use Rattle.law_turns.proofs.runs_take_turns.Goals as goal

pub returns-clause-batches : goal.returns-clause-batches
returns-clause-batches c = taking_laws.batches_take

pub returns-clause-exits : goal.returns-clause-exits
returns-clause-exits c = taking_laws.exits_take
