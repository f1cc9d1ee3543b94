use Rattle.law_routines.specs.Tree.{routine_of}
use Rattle.law_routines.proofs.Related.{runs_of_run, runs_may_follow, runs_agree, run_agrees}
use Rattle.law_routines.proofs.runs_relate.Goals as goal

pub returns-clause-admitted : goal.returns-clause-admitted
returns-clause-admitted g c = λ step bus h m s. runs_of_run h (routine_of m) s

pub returns-clause-followed : goal.returns-clause-followed
returns-clause-followed g c = λ r lawful bus step h m s t q l. runs_may_follow h (routine_of m) s t q l

pub returns-clause-no_choice : goal.returns-clause-no_choice
returns-clause-no_choice g c = λ r p bus step h m s t a u q l runs. runs_agree h (routine_of m) s t a u q l runs

pub returns-clause-agree : goal.returns-clause-agree
returns-clause-agree g c = λ bus peer m s l. run_agrees bus peer (routine_of m) s l
