use Rattle.law_tells.specs.Laws.{guarded_of}
use Rattle.law_tells.proofs.Step.{perform_tells, attempt_tells}
use Rattle.law_tells.proofs.rows_tell.Goals as goal

pub returns-clause-rows : goal.returns-clause-rows
returns-clause-rows g c = λ x space guards i at p is longs. perform_tells (guarded_of x) space guards i at p is longs

pub returns-clause-attempts : goal.returns-clause-attempts
returns-clause-attempts g c = λ x space guards p s longs lt. attempt_tells (guarded_of x) space guards p s longs lt
