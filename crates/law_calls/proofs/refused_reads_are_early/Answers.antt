use Rattle.law_calls.proofs.Rows.{perform_early, attempt_early}
use Rattle.law_calls.proofs.refused_reads_are_early.Goals as goal

pub returns-clause-rows : goal.returns-clause-rows
returns-clause-rows g c = λ bus space i at p s. perform_early bus space i at p s

pub returns-clause-attempts : goal.returns-clause-attempts
returns-clause-attempts g c = λ bus space p s. attempt_early bus space p s
