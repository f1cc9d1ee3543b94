use Rattle.mb_walk.proofs.Parts as parts
use Rattle.mb_walk.proofs.laws.parts_of_memory.Goals as goal

pub returns-clause-numbers : goal.returns-clause-numbers
returns-clause-numbers c = parts.number-part

pub returns-clause-bytes : goal.returns-clause-bytes
returns-clause-bytes c = parts.part-over
