-- Twins over buses that are alike come equally far.
use Rattle.std.specs.Prelude.{◌≡◌, refl, Bool, true, false, Result, Ok, Err}
use Rattle.std.proofs.Common.{◌∙◌, sym, subst}
use Rattle.mb_port.specs.Routine.{Call, Routine, Ask, Bus, run, tried, ◌>>=◌, either, caught, failing, other_fault, choose}
use Rattle.law_routines.specs.Until.{Until, then_until, ask_until, run_until, GoesOn, AlongUntil, finish, AtRefused}
use Rattle.law_routines.specs.Refusal.{Fact, Told, Tells}
use Rattle.law_routines.specs.Twin.{Kin, Twin, returned, asked, followed, AlikeOn, MetOn, ended_on, stopped_on, FollowsOn, together_on, refused_on, Results}
use Rattle.law_routines.proofs.Finished.{finish_until, stops_at_refused}

met_ask_on : {S T : Type 0} (k : Kin) (R : S → T → Type 0) (bus : Bus S) (peer : Bus T) (d : Call) (s : S) (t : T) (b : Bool) → k.may_be d
    → R s t → (b ≡ true → k.like d ((bus (k.on d) s).0) ((peer d t).0) × R ((bus (k.on d) s).1) ((peer d t).1))
    → MetOn k R (k.like d) (ask_until b (bus (k.on d) s) (Ask (k.on d)) s) (ask_until b (peer d t) (Ask d) t)
met_ask_on k R bus peer d s t true may r alike = ended_on (alike refl).0 (alike refl).1
met_ask_on k R bus peer d s t false may r alike = stopped_on (asked d may) r

met_then_on : {S T : Type 0} (k : Kin) (R : S → T → Type 0) {A B : Type 0} (Rel : A → B → Type 0) {C D : Type 0} (Next : C → D → Type 0)
    (go : A → S → Until S C) (went : B → T → Until T D) (f : A → Routine C) (g : B → Routine D) (P : A → S → Type 0) (u : Until S A) (v : Until T B)
    → MetOn k R Rel u v → GoesOn u P → ((a : A) (b : B) → Rel a b → Twin k C D Next (f a) (g b))
    → ((a : A) (b : B) (s : S) (t : T) → Rel a b → R s t → P a s → MetOn k R Next (go a s) (went b t))
    → MetOn k R Next (then_until u go f) (then_until v went g)
met_then_on k R Rel Next go went f g P u v (ended_on {a} {b} {s} {t} e r) p twins more = more a b s t e r p
met_then_on k R Rel Next go went f g P u v (stopped_on w r) p twins more = stopped_on (followed w twins) r

pub twins_meet : {S T : Type 0} (k : Kin) (R : S → T → Type 0) (lawful : Call → S → Type 0) (allowed : Call → S → Bool) (permitted : Call → T → Bool)
    (bus : Bus S) (peer : Bus T)
    → AlikeOn k R lawful allowed permitted bus peer → (A B : Type 0) (Rel : A → B → Type 0) (m : Routine A) (n : Routine B) → Twin k A B Rel m n
    → (s : S) (t : T) → R s t → AlongUntil lawful allowed bus m s → MetOn k R Rel (run_until allowed bus m s) (run_until permitted peer n t)
twins_meet k R lawful allowed permitted bus peer h A B Rel m n (returned e) s t r l = ended_on e r
twins_meet k R lawful allowed permitted bus peer h A B Rel m n (asked d may) s t r l =
    subst (λ (b : Bool). MetOn k R (k.like d) (ask_until (allowed (k.on d) s) (bus (k.on d) s) (Ask (k.on d)) s) (ask_until b (peer d t) (Ask d) t))
    (h.leave d s t r may l)
    (met_ask_on k R bus peer d s t (allowed (k.on d) s) may r (λ e. (h.answer d s t r may l e, h.kept d s t r may l e)))
twins_meet k R lawful allowed permitted bus peer h A B Rel m n (followed {A = X} {B = Y} {Rel = Mid} {Next} {m = m1} {n = n1} {f} {g} w more) s t r l =
    met_then_on k R Mid Next (λ a u. run_until allowed bus (f a) u) (λ b v. run_until permitted peer (g b) v) f g (λ a u. AlongUntil lawful allowed bus (f a) u)
    (run_until allowed bus m1 s) (run_until permitted peer n1 t) (twins_meet k R lawful allowed permitted bus peer h X Y Mid m1 n1 w s t r l.0) l.1 more
    (λ a b u v e r' l'. twins_meet k R lawful allowed permitted bus peer h _ _ Next (f a) (g b) (more a b e) u v r' l')

follows_met_on : {S T A B E : Type 0} (k : Kin) (R : S → T → Type 0) (Same : S → S → Type 0) (allowed : Call → S → Bool) (bus : Bus S) (peer : Bus T)
    (fact : Fact S A E) (after : A → S → Type 0)
    (Rel : Result A E → B → Type 0) (m : Routine (Result A E)) (n : Routine B) (s : S) (t : T) (u : Until S (Result A E)) (v : Until T B)
    → MetOn k R Rel u v → Told Same bus fact after u → AtRefused allowed u → finish bus u ≡ run bus m s → finish peer v ≡ run peer n t
    → FollowsOn k Same R allowed bus peer fact Rel m n s t
follows_met_on {S} {T} {A} {B} {E} k R Same allowed bus peer fact after Rel m n s t u v (ended_on {a} {b} {s = now} {t = there} e r) d at f g =
    together_on (subst (λ (x : Result A E × S). Rel x.0 ((run peer n t).0)) f (subst (λ (y : B × T). Rel a y.0) g e))
    (subst (λ (x : Result A E × S). R x.1 ((run peer n t).1)) f (subst (λ (y : B × T). R now y.1) g r))
follows_met_on k R Same allowed bus peer fact after Rel m n s t u v (stopped_on {m = rest} {n = twin} {s = now} {t = there} w r) (e, later, p, q, same)
    (c, first, denied) f g =
    refused_on rest twin now later there c e w r first denied p (sym f ∙ q) same (sym g)

-- A routine that tells, over a bus that refuses calls, and its twin over one that does not.
pub twins_follow : {S T : Type 0} (k : Kin) (R : S → T → Type 0) (Same : S → S → Type 0) (lawful : Call → S → Type 0) (allowed : Call → S → Bool)
    (permitted : Call → T → Bool) (bus : Bus S) (peer : Bus T)
    → AlikeOn k R lawful allowed permitted bus peer → (A B E : Type 0) (before : S → Type 0) (fact : Fact S A E) (after : A → S → Type 0)
    (Rel : Result A E → B → Type 0) (m : Routine (Result A E)) (n : Routine B)
    → Twin k (Result A E) B Rel m n → Tells Same lawful allowed bus before m fact after → (s : S) (t : T) → R s t → before s
    → FollowsOn k Same R allowed bus peer fact Rel m n s t
twins_follow k R Same lawful allowed permitted bus peer h A B E before fact after Rel m n w tells s t r p =
    follows_met_on k R Same allowed bus peer fact after Rel m n s t (run_until allowed bus m s) (run_until permitted peer n t)
    (twins_meet k R lawful allowed permitted bus peer h (Result A E) B Rel m n w s t r (tells.lawfully s p)) (tells.told s p) (stops_at_refused allowed bus m s)
    (finish_until allowed bus m s) (finish_until permitted peer n t)

-- twins of what is put together
tried_twins : {A B C D E F : Type 0} (k : Kin) (Well : A → B → Type 0) (Ill : E → F → Type 0) (Next : C → D → Type 0) (r : Result A E) (q : Result B F)
    (f : A → Routine (Result C E)) (g : B → Routine (Result D F))
    → Results Well Ill r q → ((a : A) (b : B) → Well a b → Twin k (Result C E) (Result D F) (Results Next Ill) (f a) (g b))
    → Twin k (Result C E) (Result D F) (Results Next Ill) (tried r f) (tried q g)
tried_twins k Well Ill Next (Ok a) (Ok b) f g e more = more a b e
tried_twins k Well Ill Next (Ok a) (Err y) f g e more = absurd e
tried_twins k Well Ill Next (Err x) (Ok b) f g e more = absurd e
tried_twins k Well Ill Next (Err x) (Err y) f g e more = returned e

pub twins_bind : {A B C D E F : Type 0} (k : Kin) (Well : A → B → Type 0) (Ill : E → F → Type 0) (Next : C → D → Type 0) (m : Routine (Result A E))
    (n : Routine (Result B F)) (f : A → Routine (Result C E)) (g : B → Routine (Result D F))
    → Twin k (Result A E) (Result B F) (Results Well Ill) m n → ((a : A) (b : B) → Well a b → Twin k (Result C E) (Result D F) (Results Next Ill) (f a) (g b))
    → Twin k (Result C E) (Result D F) (Results Next Ill) (m >>= f) (n >>= g)
twins_bind k Well Ill Next m n f g w more = followed w (λ r q e. tried_twins k Well Ill Next r q f g e more)

either_twins : {A B C D E F : Type 0} (k : Kin) (Well : A → B → Type 0) (Ill : E → F → Type 0) (Next : C → D → Type 0) (r : Result A E) (q : Result B F)
    (ill : E → Routine C) (bad : F → Routine D) (f : A → Routine C) (g : B → Routine D) → Results Well Ill r q
    → ((e : E) (h : F) → Ill e h → Twin k C D Next (ill e) (bad h)) → ((a : A) (b : B) → Well a b → Twin k C D Next (f a) (g b))
    → Twin k C D Next (either r ill f) (either q bad g)
either_twins k Well Ill Next (Ok a) (Ok b) ill bad f g e worse more = more a b e
either_twins k Well Ill Next (Ok a) (Err y) ill bad f g e worse more = absurd e
either_twins k Well Ill Next (Err x) (Ok b) ill bad f g e worse more = absurd e
either_twins k Well Ill Next (Err x) (Err y) ill bad f g e worse more = worse x y e

-- both go on in either case
pub twins_caught : {A B C D E F : Type 0} (k : Kin) (Well : A → B → Type 0) (Ill : E → F → Type 0) (Next : C → D → Type 0) (m : Routine (Result A E))
    (n : Routine (Result B F)) (ill : E → Routine C) (bad : F → Routine D) (f : A → Routine C) (g : B → Routine D)
    → Twin k (Result A E) (Result B F) (Results Well Ill) m n
    → ((e : E) (h : F) → Ill e h → Twin k C D Next (ill e) (bad h)) → ((a : A) (b : B) → Well a b → Twin k C D Next (f a) (g b))
    → Twin k C D Next (caught m ill f) (caught n bad g)
twins_caught k Well Ill Next m n ill bad f g w worse more = followed w (λ r q e. either_twins k Well Ill Next r q ill bad f g e worse more)

other_twins : {A B E F X Y : Type 0} (Well : A → B → Type 0) (Ill : E → F → Type 0) (Worse : X → Y → Type 0) (value : E → X) (other : F → Y)
    → ((e : E) (f : F) → Ill e f → Worse (value e) (other f))
    → (r : Result A E) (q : Result B F) → Results Well Ill r q → Results Well Worse (other_fault value r) (other_fault other q)
other_twins Well Ill Worse value other h (Ok a) (Ok b) e = e
other_twins Well Ill Worse value other h (Ok a) (Err y) e = absurd e
other_twins Well Ill Worse value other h (Err x) (Ok b) e = absurd e
other_twins Well Ill Worse value other h (Err x) (Err y) e = h x y e

pub twins_failing : {A B E F X Y : Type 0} (k : Kin) (Well : A → B → Type 0) (Ill : E → F → Type 0) (Worse : X → Y → Type 0) (value : E → X) (other : F → Y)
    (m : Routine (Result A E)) (n : Routine (Result B F))
    → ((e : E) (f : F) → Ill e f → Worse (value e) (other f)) → Twin k (Result A E) (Result B F) (Results Well Ill) m n
    → Twin k (Result A X) (Result B Y) (Results Well Worse) (failing value m) (failing other n)
twins_failing k Well Ill Worse value other m n h w = followed w (λ r q e. returned (other_twins Well Ill Worse value other h r q e))

pub twins_choose : {A B : Type 0} (k : Kin) (Rel : A → B → Type 0) (b : Bool) (m m' : Routine A) (n n' : Routine B) → Twin k A B Rel m n → Twin k A B Rel m' n'
    → Twin k A B Rel (choose b m m') (choose b n n')
twins_choose k Rel true m m' n n' w z = w
twins_choose k Rel false m m' n n' w z = z
