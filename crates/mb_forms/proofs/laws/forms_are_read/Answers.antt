use Rattle.mb_forms.proofs.Whole.{agrees}
use Rattle.mb_forms.proofs.laws.forms_are_read.Goals as goal

pub returns : goal.returns
returns c = agrees
