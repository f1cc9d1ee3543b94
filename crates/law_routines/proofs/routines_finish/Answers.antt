use Rattle.mb_port.specs.Routine.{Then}
use Rattle.law_routines.specs.Tree.{routine_of}
use Rattle.law_routines.proofs.Finished.{finish_until, stops_at_refused}
use Rattle.law_routines.proofs.Trees.{run_tree}
use Rattle.law_routines.proofs.routines_finish.Goals as goal

pub returns-clause-whole : goal.returns-clause-whole
returns-clause-whole g c = λ allowed bus m s. finish_until allowed bus (routine_of m) s

pub returns-clause-refused : goal.returns-clause-refused
returns-clause-refused g c = λ allowed bus m s. stops_at_refused allowed bus (routine_of m) s

pub returns-clause-trees : goal.returns-clause-trees
returns-clause-trees g c = λ bus m f s. run_tree bus (Then (routine_of m) (λ a. routine_of (f a))) s
