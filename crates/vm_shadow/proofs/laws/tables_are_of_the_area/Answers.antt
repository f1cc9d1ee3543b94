use Rattle.vm_shadow.proofs.Alone as proved
use Rattle.vm_shadow.proofs.laws.tables_are_of_the_area.Goals as goal

pub returns-clause-alone : goal.returns-clause-alone
returns-clause-alone c = proved.tables_are_of_the_area

pub returns-clause-stand : goal.returns-clause-stand
returns-clause-stand c = proved.tables_stand
