use Rattle.law_turns.proofs.Refill as refill_laws
use Rattle.law_turns.proofs.guest_steps_begin_again.Goals as goal

pub returns-clause-first : goal.returns-clause-first
returns-clause-first c = refill_laws.first_is_last

pub returns-clause-none : goal.returns-clause-none
returns-clause-none c = refill_laws.none_is_refilled

pub returns-clause-again : goal.returns-clause-again
returns-clause-again c = refill_laws.steps_begin_again

pub returns-clause-last : goal.returns-clause-last
returns-clause-last c = refill_laws.last_is_judged

pub returns-clause-same : goal.returns-clause-same
returns-clause-same c = refill_laws.again_comes_to_the_same

pub returns-clause-advances : goal.returns-clause-advances
returns-clause-advances c = refill_laws.again_advances
