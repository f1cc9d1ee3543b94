use Rattle.law_settings.proofs.Control as laws
use Rattle.law_settings.proofs.control_registers_are_kept.Goals as goal

pub returns-clause-set : goal.returns-clause-set
returns-clause-set g c = λ bus register value cpu s keeps fits. laws.set_is_held bus register value cpu s keeps fits

pub returns-clause-others : goal.returns-clause-others
returns-clause-others g c = λ bus register other value cpu s keeps apart. laws.others_stay bus register other value cpu s keeps apart

pub returns-clause-rest : goal.returns-clause-rest
returns-clause-rest g c = λ bus register value cpu s. laws.rest_stays bus register value cpu s

pub returns-clause-read_back : goal.returns-clause-read_back
returns-clause-read_back g c = λ bus register n m cpu s keeps has small. laws.moved_is_read_back bus register n m cpu s keeps has small
