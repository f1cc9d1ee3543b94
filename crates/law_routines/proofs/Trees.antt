-- A routine is its tree of calls, to every bus.
use Rattle.std.specs.Prelude.{◌≡◌, refl}
use Rattle.std.proofs.Common.{ap, ◌∙◌}
use Rattle.mb_port.specs.Routine.{Routine, Return, Ask, Then, Bus, run}
use Rattle.law_routines.specs.Tree.{Tree, Done, Do, graft, tree_of, routine_of}

run_graft : {S A B : Type 0} (bus : Bus S) (t : Tree A) (f : A → Tree B) (s : S)
    → run bus (routine_of (graft t f)) s ≡ run bus (routine_of (f ((run bus (routine_of t) s).0))) ((run bus (routine_of t) s).1)
run_graft bus (Done a) f s = refl
run_graft bus (Do c next) f s = run_graft bus (next ((bus c s).0)) f ((bus c s).1)

pub run_tree : {S A : Type 0} (bus : Bus S) (m : Routine A) (s : S) → run bus (routine_of (tree_of m)) s ≡ run bus m s
run_tree bus (Return a) s = refl
run_tree bus (Ask c) s = refl
run_tree {S = S} bus (Then {A = A} m f) s =
    run_graft bus (tree_of m) (λ a. tree_of (f a)) s
    ∙ run_tree bus (f ((run bus (routine_of (tree_of m)) s).0)) ((run bus (routine_of (tree_of m)) s).1)
    ∙ ap (λ (r : A × S). run bus (f (r.0)) (r.1)) (run_tree bus m s)
