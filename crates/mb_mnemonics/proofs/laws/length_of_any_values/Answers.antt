use Rattle.mb_mnemonics.proofs.SameForm.{length_by_same}
use Rattle.mb_mnemonics.proofs.laws.length_of_any_values.Goals as goal

pub returns : goal.returns
returns c f g name letter os = length_by_same f g name letter os
