use Rattle.law_held.proofs.Names as proved
use Rattle.law_held.proofs.words_name.Goals as goal

pub returns : goal.returns
returns c = proved.words_name
