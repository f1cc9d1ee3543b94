use Rattle.mb_program.proofs.TwoRunLemmas.{saved_sessions_go_on}
use Rattle.mb_program.proofs.saved_sessions_go_on.Goals as goal

pub returns : goal.returns
returns c = saved_sessions_go_on
