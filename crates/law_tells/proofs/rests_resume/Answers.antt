use Rattle.law_tells.proofs.Over.{resumed_over}
use Rattle.law_tells.proofs.rests_resume.Goals as goal

pub returns : goal.returns
returns g c = λ bus s whole rest h. resumed_over bus s h
