use Rattle.law_calls.proofs.Rows.{perform_codes}
use Rattle.law_calls.proofs.codes_stay.Goals as goal

pub returns : goal.returns
returns g c = λ bus space i at p s h. perform_codes bus space i at p s h
