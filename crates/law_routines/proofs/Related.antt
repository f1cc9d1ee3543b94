-- A run by a bus, and the runs of a bus that may choose.
use Rattle.std.specs.Prelude.{◌≡◌, refl}
use Rattle.std.proofs.Common.{ap, ◌∙◌, sym, subst}
use Rattle.mb_port.specs.Routine.{Call, Routine, Return, Ask, Then, Bus, run}
use Rattle.law_routines.specs.Relations.{Steps, Runs, Along, Admits, MayFollow, NoChoice, Agree}

-- the run is one that the relation has
pub runs_of_run : {S A : Type 0} {step : Steps S} {bus : Bus S} → Admits step bus → (m : Routine A) (s : S)
    → Runs step m s ((run bus m s).0) ((run bus m s).1)
runs_of_run h (Return a) s = (refl, refl)
runs_of_run h (Ask c) s = h.call c s
runs_of_run {bus = bus} h (Then m f) s = ((run bus m s).0, (run bus m s).1, runs_of_run h m s, runs_of_run h (f ((run bus m s).0)) ((run bus m s).1))

-- what holds of every call holds along every run
pub along : {S A : Type 0} {P : Call → S → Type 0} (bus : Bus S) → ((c : Call) (s : S) → P c s) → (m : Routine A) (s : S)
    → Along P bus m s
along bus h (Return a) s = tt
along bus h (Ask c) s = h c s
along bus h (Then m f) s = (along bus h m s, along bus h (f ((run bus m s).0)) ((run bus m s).1))

pub runs_may_follow : {S T A : Type 0} {R : S → T → Type 0} {lawful : Call → S → Type 0} {bus : Bus S} {step : Steps T}
    → MayFollow R lawful bus step → (m : Routine A) (s : S) (t : T)
    → R s t → Along lawful bus m s → (u : T) × Runs step m t ((run bus m s).0) u × R ((run bus m s).1) u
runs_may_follow h (Return a) s t r l = (t, (refl, refl), r)
runs_may_follow h (Ask c) s t r l = h.call c s t r l
runs_may_follow {bus = bus} h (Then m f) s t r l =
    let (u, run_m, rel) = runs_may_follow h m s t r l.0 in
    let (w, run_f, rel') = runs_may_follow h (f ((run bus m s).0)) ((run bus m s).1) u rel l.1 in
    (w, ((run bus m s).0, u, run_m, run_f), rel')

-- where the choosing bus has no choice along the run, each of its runs is that run
pub runs_agree : {S T A : Type 0} {R : S → T → Type 0} {P : Call → S → Type 0} {bus : Bus S} {step : Steps T}
    → NoChoice R P bus step → (m : Routine A) (s : S) (t : T) (a : A) (u : T)
    → R s t → Along P bus m s → Runs step m t a u → ((run bus m s).0 ≡ a) × R ((run bus m s).1) u
runs_agree {R = R} h (Return a) s t b u r l (e, k) = (e, subst (λ v. R s v) k r)
runs_agree h (Ask c) s t a u r l q = h.call c s t a u r l q
runs_agree {R = R} {P = P} {bus = bus} {step = step} h (Then m f) s t b u r l (a, v, first, second) =
    let (e, rel) = runs_agree h m s t a v r l.0 first in
    runs_agree h (f ((run bus m s).0)) ((run bus m s).1) v b u rel l.1 (subst (λ x. Runs step (f x) v b u) (sym e) second)

-- two buses that agree along a run give one result
pub run_agrees : {S A : Type 0} (bus peer : Bus S) (m : Routine A) (s : S) → Along (Agree bus peer) bus m s
    → run bus m s ≡ run peer m s
run_agrees bus peer (Return a) s l = refl
run_agrees bus peer (Ask c) s l = l
run_agrees {S = S} bus peer (Then {A = A} m f) s l =
    run_agrees bus peer (f ((run bus m s).0)) ((run bus m s).1) l.1 ∙ ap (λ (r : A × S). run peer (f (r.0)) (r.1)) (run_agrees bus peer m s l.0)
