use Rattle.vm_shadow.proofs.Lists as proved
use Rattle.vm_shadow.proofs.laws.entries_are_listed.Goals as goal

pub returns-clause-all : goal.returns-clause-all
returns-clause-all c = proved.entries_are_listed

pub returns-clause-cleared : goal.returns-clause-cleared
returns-clause-cleared c = proved.nothing_is_listed

pub returns-clause-filled : goal.returns-clause-filled
returns-clause-filled c = proved.fills_are_listed

pub returns-clause-dropped : goal.returns-clause-dropped
returns-clause-dropped c = proved.drops_are_listed
