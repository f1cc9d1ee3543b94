use Rattle.law_turns.proofs.Turn as turn_laws
use Rattle.law_turns.proofs.turns_have_parts.Goals as goal

pub returns-clause-flushed : goal.returns-clause-flushed
returns-clause-flushed c = turn_laws.flushed_is_set

pub returns-clause-more : goal.returns-clause-more
returns-clause-more c = turn_laws.more_stays_set

pub returns-clause-ready : goal.returns-clause-ready
returns-clause-ready c = turn_laws.boards_are_ready

pub returns-clause-advance : goal.returns-clause-advance
returns-clause-advance c = turn_laws.exits_advance
