use Rattle.mb_fields.proofs.Parts.{first_is}
use Rattle.mb_fields.proofs.fields.field_first.Goals as goal

pub overflow_sub-result-2 : goal.overflow_sub-result-2
overflow_sub-result-2 c = (first_is c.args.value c.args.width c.requires.width c.requires.value).0

pub returns-clause-means : goal.returns-clause-means
returns-clause-means c = (first_is c.args.value c.args.width c.requires.width c.requires.value).1
