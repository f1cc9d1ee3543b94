use Rattle.law_attempts.proofs.Attempts as attempts
use Rattle.law_attempts.proofs.attempts_perform.Goals as goal

pub returns-clause-found : goal.returns-clause-found
returns-clause-found g c = λ bus space p s t i n h. attempts.attempts_perform bus space p s t i n h

pub returns-clause-none : goal.returns-clause-none
returns-clause-none g c = λ bus space p s t unfound h. attempts.attempts_find_none bus space p s t unfound h
