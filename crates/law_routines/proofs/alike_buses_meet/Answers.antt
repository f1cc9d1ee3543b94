use Rattle.law_routines.specs.Until.{run_until}
use Rattle.law_routines.specs.Tree.{routine_of}
use Rattle.law_routines.proofs.Simulated.{simulates, at_each, run_mirrors, met_meets}
use Rattle.law_routines.proofs.alike_buses_meet.Goals as goal

pub returns-clause-until : goal.returns-clause-until
returns-clause-until g c = λ r lawful allowed permitted bus peer h m s t q l.
    met_meets (run_until allowed bus (routine_of m) s) (run_until permitted peer (routine_of m) t) (simulates h (routine_of m) s t q l)

pub returns-clause-everywhere : goal.returns-clause-everywhere
returns-clause-everywhere g c = λ r allowed permitted bus peer h m s t q.
    met_meets (run_until allowed bus (routine_of m) s) (run_until permitted peer (routine_of m) t)
    (simulates h (routine_of m) s t q (at_each allowed bus (λ call u. tt) (routine_of m) s))

pub returns-clause-mirrored : goal.returns-clause-mirrored
returns-clause-mirrored g c = λ r lawful bus peer h m s t q l. run_mirrors h (routine_of m) s t q l
