use Rattle.vm_shadow.proofs.Needed as proved
use Rattle.vm_shadow.proofs.laws.tables_are_needed.Goals as goal

pub returns : goal.returns
returns c = proved.tables_are_needed
