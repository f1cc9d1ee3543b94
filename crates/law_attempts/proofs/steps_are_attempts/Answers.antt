use Rattle.law_attempts.proofs.Attempts as attempts
use Rattle.law_attempts.proofs.steps_are_attempts.Goals as goal

pub returns-clause-finish : goal.returns-clause-finish
returns-clause-finish g c = λ bus level cpu s i masked going other k. attempts.attempt_then_finish bus level cpu s i masked going other k

pub returns-clause-untraced : goal.returns-clause-untraced
returns-clause-untraced g c = λ bus level cpu s t done masked untraced h. attempts.untraced_steps_go bus level cpu s t done masked untraced h
