use Rattle.law_routines.specs.Between.{between}
use Rattle.law_routines.proofs.TwinTrees.{tree_twins}
use Rattle.def_instructions.specs.Ends.{Performed}
use Rattle.def_instructions.specs.Rows.{perform_of}
use Rattle.def_instructions.specs.Attempt.{attempt_of}
use Rattle.law_twins.specs.Twins.{SamePerformed}
use Rattle.law_twins.proofs.Step.{perform_twins, attempt_twins}
use Rattle.law_twins.proofs.rows_are_twins.Goals as goal

pub returns-clause-rows : goal.returns-clause-rows
returns-clause-rows c = λ x i at p is may.
    tree_twins (between x) Performed Performed (SamePerformed x) (perform_of i at x.here p) (perform_of i at x.there p) (perform_twins x i at p is may)

pub returns-clause-attempts : goal.returns-clause-attempts
returns-clause-attempts c = λ x p h.
    tree_twins (between x) Performed Performed (SamePerformed x) (attempt_of x.here p) (attempt_of x.there p) (attempt_twins x p h)
