-- Trees of calls: what is put together of parts that make the same calls, or that resume others.
use Rattle.std.specs.Prelude.{◌≡◌, refl, Result, Ok, Err}
use Rattle.std.proofs.Common.{ap, ◌∙◌}
use Rattle.std.proofs.Math.Path.{fun_ext}
use Rattle.mb_port.specs.Routine.{Call, Answer, Return, tried, other_fault}
use Rattle.law_routines.specs.Tree.{Tree, Done, Do, graft, tree_of}
use Rattle.law_tells.specs.Left.{Resumes, here, later}

pub resumes_then : {A B : Type 0} {P : (c : Call) → Answer c → Type 0} (f : A → Tree B) {whole rest : Tree A}
    → Resumes P whole rest → Resumes P (graft whole f) (graft rest f)
resumes_then f here = here
resumes_then f (later c answer p more) = later c answer p (resumes_then f more)

-- what returns the answer it gets, is no more than the first part
pub then_nothing : {A E : Type 0} (t : Tree (Result A E)) → t ≡ graft t (λ r. tree_of (tried r (λ a. Return (Ok a))))
then_nothing (Done (Ok a)) = refl
then_nothing (Done (Err e)) = refl
then_nothing (Do c next) = ap (Do c) (fun_ext (λ answer. then_nothing (next answer)))

-- a part whose fault is told in other words, twice
pub closed_end : {U B E F G : Type 0} (how : E → F) (close : F → G) (done : U → B) (t : Tree (Result U E))
    → graft (graft (graft t (λ r. Done (other_fault how r))) (λ r. tree_of (tried r (λ u. Return (Ok (done u)))))) (λ r. Done (other_fault close r))
    ≡ graft (graft t (λ r. Done (other_fault (λ e. close (how e)) r))) (λ r. tree_of (tried r (λ u. Return (Ok (done u)))))
closed_end how close done (Done (Ok u)) = refl
closed_end how close done (Done (Err e)) = refl
closed_end how close done (Do c next) = ap (Do c) (fun_ext (λ answer. closed_end how close done (next answer)))

-- a part that answers `a`, and then goes on to the end by that answer, with its fault told in other words
then_end : {U A B E F : Type 0} (how : E → F) (a : A) (done : A → B) (t : Tree (Result U E))
    → graft (graft (graft t (λ r. tree_of (tried r (λ u. Return (Ok a))))) (λ r. Done (other_fault how r)))
    (λ r. tree_of (tried r (λ b. Return (Ok (done b)))))
    ≡ graft (graft t (λ r. Done (other_fault how r))) (λ r. tree_of (tried r (λ u. Return (Ok (done a)))))
then_end how a done (Done (Ok u)) = refl
then_end how a done (Done (Err e)) = refl
then_end how a done (Do c next) = ap (Do c) (fun_ext (λ answer. then_end how a done (next answer)))

-- the same of what makes the calls of such a part, with the fault told in other words once more
pub goes_to_end : {U A B E F G : Type 0} (how : E → F) (close : F → G) (a : A) (done : A → B) (t : Tree (Result U E)) (u : Tree (Result A E))
    → u ≡ graft t (λ r. tree_of (tried r (λ u. Return (Ok a))))
    → graft (graft (graft u (λ r. Done (other_fault how r))) (λ r. tree_of (tried r (λ b. Return (Ok (done b)))))) (λ r. Done (other_fault close r))
    ≡ graft (graft t (λ r. Done (other_fault (λ e. close (how e)) r))) (λ r. tree_of (tried r (λ u. Return (Ok (done a)))))
goes_to_end how close a done t u e =
    ap (λ v. graft (graft (graft v (λ r. Done (other_fault how r))) (λ r. tree_of (tried r (λ b. Return (Ok (done b)))))) (λ r. Done (other_fault close r))) e
    ∙ ap (λ v. graft v (λ r. Done (other_fault close r))) (then_end how a done t)
    ∙ closed_end how close (λ u. done a) t
