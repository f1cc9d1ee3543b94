-- The simulation: what is alike for single calls is alike for routines.
use Rattle.std.specs.Prelude.{◌≡◌, refl, Bool, true, false}
use Rattle.std.proofs.Common.{ap, ◌∙◌, subst}
use Rattle.mb_port.specs.Routine.{Call, Answer, Routine, Return, Ask, Then, Bus, run}
use Rattle.law_routines.specs.Until.{Until, Ended, Stopped, then_until, ask_until, run_until, GoesOn, AlongUntil}
use Rattle.law_routines.specs.Relations.{Along}
use Rattle.law_routines.specs.Alike.{Alike, Mirrors, Met, ended, stopped, Meets}

met_then : {S T A B : Type 0} {R : S → T → Type 0} (go : A → S → Until S B) (went : A → T → Until T B) (f : A → Routine B) (P : A → S → Type 0) (u : Until S A)
    (v : Until T A)
    → Met R u v → GoesOn u P → ((a : A) (s : S) (t : T) → R s t → P a s → Met R (go a s) (went a t))
    → Met R (then_until u go f) (then_until v went f)
met_then go went f P u v (ended {a} {s} {t} r) p more = more a s t r p
met_then go went f P u v (stopped r) p more = stopped r

met_ask : {S T : Type 0} {R : S → T → Type 0} (bus : Bus S) (peer : Bus T) (c : Call) (s : S) (t : T) (b : Bool)
    → R s t → (b ≡ true → ((bus c s).0 ≡ (peer c t).0) × R ((bus c s).1) ((peer c t).1))
    → Met R (ask_until b (bus c s) (Ask c) s) (ask_until b (peer c t) (Ask c) t)
met_ask {R = R} bus peer c s t true r alike = subst (λ (a : Answer c). Met R (Ended ((bus c s).0) ((bus c s).1)) (Ended a ((peer c t).1))) (alike refl).0
    (ended (alike refl).1)
met_ask bus peer c s t false r alike = stopped r

pub simulates : {S T A : Type 0} {R : S → T → Type 0} {lawful : Call → S → Type 0} {allowed : Call → S → Bool} {permitted : Call → T → Bool} {bus : Bus S}
    {peer : Bus T}
    → Alike R lawful allowed permitted bus peer → (m : Routine A) (s : S) (t : T) → R s t → AlongUntil lawful allowed bus m s
    → Met R (run_until allowed bus m s) (run_until permitted peer m t)
simulates h (Return a) s t r l = ended r
simulates {T = T} {R = R} {allowed = allowed} {bus = bus} {peer = peer} h (Ask c) s t r l =
    subst (λ (b : Bool). Met R (ask_until (allowed c s) (bus c s) (Ask c) s) (ask_until b (peer c t) (Ask c) t)) (h.leave c s t r l)
    (met_ask bus peer c s t (allowed c s) r (λ e. (h.answer c s t r l e, h.kept c s t r l e)))
simulates {lawful = lawful} {allowed = allowed} {permitted = permitted} {bus = bus} {peer = peer} h (Then m f) s t r l =
    met_then _ _ f (λ a u. AlongUntil lawful allowed bus (f a) u) (run_until allowed bus m s) (run_until permitted peer m t) (simulates h m s t r l.0) l.1
    (λ a u v r' l'. simulates h (f a) u v r' l')

goes_on : {S A : Type 0} (P : A → S → Type 0) (u : Until S A) → ((a : A) (t : S) → P a t) → GoesOn u P
goes_on P (Ended a t) h = h a t
goes_on P (Stopped rest t) h = tt

-- what holds of every call holds at each that is made
pub at_each : {S A : Type 0} {P : Call → S → Type 0} (allowed : Call → S → Bool) (bus : Bus S) → ((c : Call) (s : S) → P c s)
    → (m : Routine A) (s : S) → AlongUntil P allowed bus m s
at_each allowed bus h (Return a) s = tt
at_each allowed bus h (Ask c) s = h c s
at_each {P = P} allowed bus h (Then m f) s = (
  at_each allowed bus h m s,
  goes_on (λ a t. AlongUntil P allowed bus (f a) t) (run_until allowed bus m s)
      (λ a t. at_each allowed bus h (f a) t),
)

-- buses that answer alike at every call run a routine alike
pub run_mirrors : {S T A : Type 0} {R : S → T → Type 0} {lawful : Call → S → Type 0} {bus : Bus S} {peer : Bus T}
    → Mirrors R lawful bus peer → (m : Routine A) (s : S) (t : T) → R s t → Along lawful bus m s
    → ((run bus m s).0 ≡ (run peer m t).0) × R ((run bus m s).1) ((run peer m t).1)
run_mirrors h (Return a) s t r l = (refl, r)
run_mirrors h (Ask c) s t r l = (h.answer c s t r l, h.kept c s t r l)
run_mirrors {T = T} {R = R} {bus = bus} {peer = peer} h (Then {A = A} m f) s t r l =
    let (e, rel) = run_mirrors h m s t r l.0 in
    let (e', rel') = run_mirrors h (f ((run bus m s).0)) ((run bus m s).1) ((run peer m t).1) rel l.1 in (
      e' ∙ ap (λ (a : A). (run peer (f a) ((run peer m t).1)).0) e,
      subst
          (λ (a : A). R ((run bus (f ((run bus m s).0)) ((run bus m s).1)).1) ((run peer (f a) ((run peer m t).1)).1)) e rel',
    )

pub met_meets : {S T A : Type 0} {R : S → T → Type 0} (u : Until S A) (v : Until T A) → Met R u v → Meets R u v
met_meets u v (ended r) = (refl, r)
met_meets u v (stopped r) = (refl, r)
