use Rattle.vm_shadow.proofs.Searches as proved
use Rattle.vm_shadow.proofs.laws.searches_find_entries.Goals as goal

pub returns : goal.returns
returns c = proved.searches_find_entries
