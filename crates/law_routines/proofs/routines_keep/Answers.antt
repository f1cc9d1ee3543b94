use Rattle.law_routines.specs.Tree.{routine_of}
use Rattle.law_routines.proofs.Kept.{run_keeps, until_keeps, run_leaves, run_lifted}
use Rattle.law_routines.proofs.routines_keep.Goals as goal

pub returns-clause-kept : goal.returns-clause-kept
returns-clause-kept g c = λ p bus h m s q. run_keeps h (routine_of m) s q

pub returns-clause-until : goal.returns-clause-until
returns-clause-until g c = λ p lawful allowed bus h m s q l. until_keeps h (routine_of m) s q l

pub returns-clause-alone : goal.returns-clause-alone
returns-clause-alone g c = λ part bus h m s. run_leaves h (routine_of m) s

pub returns-clause-beside : goal.returns-clause-beside
returns-clause-beside g c = λ bus m s n. run_lifted bus (routine_of m) s n
