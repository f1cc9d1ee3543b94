-- Twins are twins by their trees of calls, and twin trees are twins as routines.
use Rattle.mb_port.specs.Routine.{Routine}
use Rattle.law_routines.specs.Tree.{Tree, graft, tree_of, routine_of}
use Rattle.law_routines.specs.Until.{Until}
use Rattle.law_routines.specs.Twin.{Kin, Twin, returned, asked, followed, TwinTrees, done, call, MetOn, ended_on, stopped_on, MeetsOn}

grafted : {A B C D : Type 0} (k : Kin) (Rel : A → B → Type 0) (Next : C → D → Type 0) (m : Tree A) (n : Tree B) (f : A → Tree C) (g : B → Tree D)
    → TwinTrees k Rel m n → ((a : A) (b : B) → Rel a b → TwinTrees k Next (f a) (g b)) → TwinTrees k Next (graft m f) (graft n g)
grafted k Rel Next m n f g (done {a} {b} e) more = more a b e
grafted k Rel Next m n f g (call d {f = p} {g = q} may next) more = call d may (λ a b l. grafted k Rel Next (p a) (q b) f g (next a b l) more)

pub tree_twins : (k : Kin) (A B : Type 0) (Rel : A → B → Type 0) (m : Routine A) (n : Routine B) → Twin k A B Rel m n
    → TwinTrees k Rel (tree_of m) (tree_of n)
tree_twins k A B Rel m n (returned e) = done e
tree_twins k A B Rel m n (asked d may) = call d may (λ a b l. done l)
tree_twins k A B Rel m n (followed {A = X} {B = Y} {Rel = Mid} {Next} {m = m1} {n = n1} {f} {g} w more) =
    grafted k Mid Next (tree_of m1) (tree_of n1) (λ a. tree_of (f a)) (λ b. tree_of (g b)) (tree_twins k X Y Mid m1 n1 w)
    (λ a b e. tree_twins k _ _ Next (f a) (g b) (more a b e))

pub routine_twins : {A B : Type 0} (k : Kin) (Rel : A → B → Type 0) (m : Tree A) (n : Tree B) → TwinTrees k Rel m n
    → Twin k A B Rel (routine_of m) (routine_of n)
routine_twins k Rel m n (done e) = returned e
routine_twins k Rel m n (call d {f} {g} may next) = followed (asked d may) (λ a b l. routine_twins k Rel (f a) (g b) (next a b l))

pub met_meets_on : {S T A B : Type 0} (k : Kin) (R : S → T → Type 0) (Rel : A → B → Type 0) (u : Until S A) (v : Until T B) → MetOn k R Rel u v
    → MeetsOn k R Rel u v
met_meets_on k R Rel u v (ended_on e r) = (e, r)
met_meets_on {A = A} {B = B} k R Rel u v (stopped_on {m} {n} w r) = (tree_twins k A B Rel m n w, r)
