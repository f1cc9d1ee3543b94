use Rattle.mb_gen.proofs.Reading.{programs_read}
use Rattle.mb_gen.proofs.laws.programs_are_read.Goals as goal

pub returns : goal.returns
returns c = programs_read
