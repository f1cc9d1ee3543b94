use Rattle.law_settings.proofs.Status as laws
use Rattle.law_settings.proofs.status_is_kept.Goals as goal

pub returns-clause-status : goal.returns-clause-status
returns-clause-status g c = λ bus n cpu s. laws.status_is_kept bus n cpu s

pub returns-clause-read_back : goal.returns-clause-read_back
returns-clause-read_back g c = λ bus n m cpu s has small. laws.status_is_read_back bus n m cpu s has small

pub returns-clause-usp : goal.returns-clause-usp
returns-clause-usp g c = laws.usp_is_read_back

pub returns-clause-control : goal.returns-clause-control
returns-clause-control g c = λ bus n cpu s. laws.usp_is_control bus n cpu s
