use Rattle.law_turns.proofs.Again as again_laws
use Rattle.law_turns.proofs.refills_take_turns.Goals as goal

pub returns-clause-again : goal.returns-clause-again
returns-clause-again c = again_laws.midway_again

pub returns-clause-ahead : goal.returns-clause-ahead
returns-clause-ahead c = again_laws.midway_ahead

pub returns-clause-ends : goal.returns-clause-ends
returns-clause-ends c = again_laws.midway_ends

pub returns-clause-begins : goal.returns-clause-begins
returns-clause-begins c = again_laws.midway_begins

pub returns-clause-takes : goal.returns-clause-takes
returns-clause-takes c = again_laws.midway_takes

pub returns-clause-within : goal.returns-clause-within
returns-clause-within c = again_laws.midway_within
