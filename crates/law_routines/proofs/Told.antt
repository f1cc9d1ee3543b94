-- How routines that tell of a refused call are put together.
use Rattle.std.specs.Prelude.{◌≡◌, refl, Bool, true, false, Result, Ok, Err, List}
use Rattle.std.proofs.Common.{ap, ◌∙◌, sym, subst, ℕ}
use Rattle.mb_port.specs.Routine.{Call, Fetch, Read, Write, ReadLine, WriteLine, Probe, Answer, Routine, Return, Ask, Then, Bus, run, choose, tried, ◌>>=◌}
use Rattle.mb_port.specs.Routine.{either, caught, other_fault, failing, sure, fetch, read, write, read_line, write_line, probe}
use Rattle.mb_port.specs.declared.types.Space.{Space}
use Rattle.mb_port.specs.declared.types.Piece.{Piece}
use Rattle.mb_port.specs.declared.types.Place.{Place}
use Rattle.mb_port.specs.declared.types.Fault.{Fault}
use Rattle.law_routines.specs.Until.{Until, Ended, Stopped, then_until, ask_until, run_until, finish, AtRefused, GoesOn, AlongUntil}
use Rattle.law_routines.specs.Alike.{Alike, Met, ended, stopped}
use Rattle.law_routines.specs.Refusal.{Refuses, Fact, through, Told, Tells, Sure, Ends, Faulting, HasNoFault, Faultless, Follows, together, refused}
use Rattle.law_routines.proofs.Finished.{finish_until, stops_at_refused}
use Rattle.law_routines.proofs.Simulated.{simulates}

paired : {X Y : Type 0} {u : X × Y} {x : X} {y : Y} → u.0 ≡ x → u.1 ≡ y → u ≡ (x, y)
paired {u = u} {x} {y} p q = ap (λ a. (a, u.1)) p ∙ ap (λ b. (x, b)) q

-- an end, and a single call
told_answer : {S A : Type 0} (Same : S → S → Type 0) (bus : Bus S) (fact : Fact S A Fault) (after : A → S → Type 0) (r : Result A Fault) (t : S)
    → ((a : A) → r ≡ Ok a → after a t) → Told Same bus fact after (Ended r t)
told_answer Same bus fact after (Ok a) t h = h a refl
told_answer Same bus fact after (Err e) t h = tt

told_ask : {S A : Type 0} (Same : S → S → Type 0) (bus : Bus S) (fact : Fact S A Fault) (after : A → S → Type 0) (b : Bool) (answer : Result A Fault × S)
    (m : Routine (Result A Fault)) (s : S)
    → (b ≡ true → (a : A) → answer.0 ≡ Ok a → after a (answer.1))
    → (b ≡ false → (f : Fault) × (u : S) × fact m s f × (run bus m s ≡ (Err f, u)) × Same s u) → Told Same bus fact after (ask_until b answer m s)
told_ask Same bus fact after true answer m s well wrong = told_answer Same bus fact after (answer.0) (answer.1) (well refl)
told_ask Same bus fact after false answer m s well wrong = wrong refl

sure_ask : {S A : Type 0} (after : A → S → Type 0) (b : Bool) (answer : A × S) (m : Routine A) (s : S) → (b ≡ false → ⊥)
    → after (answer.0) (answer.1) → Sure after (ask_until b answer m s)
sure_ask after true answer m s never p = p
sure_ask after false answer m s never p = never refl

-- What goes on at an answer, and returns a fault at once. P is what is shown of the whole.
told_then : {S A B E F : Type 0} (Same : S → S → Type 0) (allowed : Call → S → Bool) (bus : Bus S) (mid : A → S → Type 0) (fact : Fact S B F)
    (after : B → S → Type 0) (g : Result A E → Routine (Result B F)) (value : E → F)
    → ((e : E) → g (Err e) ≡ Return (Err (value e))) → (u : Until S (Result A E))
    → Told Same bus (through (λ rest. Then rest g) value fact) mid u
    → ((a : A) (t : S) → mid a t → Told Same bus fact after (run_until allowed bus (g (Ok a)) t))
    → Told Same bus fact after (then_until u (λ r t. run_until allowed bus (g r) t) g)
told_then Same allowed bus mid fact after g value at_once (Ended (Ok a) t) d more = more a t d
told_then Same allowed bus mid fact after g value at_once (Ended (Err e) t) d more = subst (λ n. Told Same bus fact after (run_until allowed bus n t))
    (sym (at_once e)) tt
told_then {S = S} {A = A} {E = E} Same allowed bus mid fact after g value at_once (Stopped rest t) (e, u, p, q, k) more =
    (value e, u, p, ap (λ (r : Result A E × S). run bus (g (r.0)) (r.1)) q ∙ ap (λ n. run bus n u) (at_once e), k)

along_then : {S A B E F : Type 0} (Same : S → S → Type 0) (lawful : Call → S → Type 0) (allowed : Call → S → Bool) (bus : Bus S) (fact : Fact S A E)
    (mid : A → S → Type 0) (g : Result A E → Routine (Result B F)) (value : E → F)
    → ((e : E) → g (Err e) ≡ Return (Err (value e))) → (u : Until S (Result A E)) → Told Same bus fact mid u
    → ((a : A) (t : S) → mid a t → AlongUntil lawful allowed bus (g (Ok a)) t)
    → GoesOn u (λ r t. AlongUntil lawful allowed bus (g r) t)
along_then Same lawful allowed bus fact mid g value at_once (Ended (Ok a) t) d more = more a t d
along_then Same lawful allowed bus fact mid g value at_once (Ended (Err e) t) d more = subst (λ n. AlongUntil lawful allowed bus n t) (sym (at_once e)) tt
along_then Same lawful allowed bus fact mid g value at_once (Stopped rest t) d more = tt

told_weaker : {S A E : Type 0} (Same : S → S → Type 0) (bus : Bus S) (fact other : Fact S A E) (after later : A → S → Type 0) (u : Until S (Result A E))
    → Told Same bus fact after u
    → ((rest : Routine (Result A E)) (t : S) (e : E) → fact rest t e → other rest t e) → ((a : A) (t : S) → after a t → later a t)
    → Told Same bus other later u
told_weaker Same bus fact other after later (Ended (Ok a) t) d f g = g a t d
told_weaker Same bus fact other after later (Ended (Err e) t) d f g = tt
told_weaker Same bus fact other after later (Stopped rest t) (e, u, p, q, k) f g = (e, u, f rest t e p, q, k)

-- an answer is the one that the run from its first state has
told_from : {S A E : Type 0} (Same : S → S → Type 0) (bus : Bus S) (fact : Fact S A E) (after : A → S → Type 0) (m : Routine (Result A E)) (s : S)
    (u : Until S (Result A E)) → (finish bus u).0 ≡ (run bus m s).0 → Told Same bus fact after u
    → Told Same bus fact (λ a t. after a t × ((run bus m s).0 ≡ Ok a)) u
told_from Same bus fact after m s (Ended (Ok a) t) e d = (d, sym e)
told_from Same bus fact after m s (Ended (Err f) t) e d = tt
told_from Same bus fact after m s (Stopped rest t) e d = d

-- what goes on after a part that is never refused
sure_then : {S A B : Type 0} (allowed : Call → S → Bool) (bus : Bus S) (mid : A → S → Type 0) (after : B → S → Type 0) (f : A → Routine B) (u : Until S A)
    → Sure mid u
    → ((a : A) (t : S) → mid a t → Sure after (run_until allowed bus (f a) t))
    → Sure after (then_until u (λ a t. run_until allowed bus (f a) t) f)
sure_then allowed bus mid after f (Ended a t) d more = more a t d
sure_then allowed bus mid after f (Stopped rest t) d more = absurd d

goes_on : {S A : Type 0} (mid : A → S → Type 0) (P : A → S → Type 0) (u : Until S A) → Sure mid u
    → ((a : A) (t : S) → mid a t → P a t) → GoesOn u P
goes_on mid P (Ended a t) d more = more a t d
goes_on mid P (Stopped rest t) d more = tt

told_sure : {S A B E : Type 0} (Same : S → S → Type 0) (allowed : Call → S → Bool) (bus : Bus S) (mid : A → S → Type 0) (fact : Fact S B E)
    (after : B → S → Type 0) (f : A → Routine (Result B E)) (u : Until S A)
    → Sure mid u
    → ((a : A) (t : S) → mid a t → Told Same bus fact after (run_until allowed bus (f a) t))
    → Told Same bus fact after (then_until u (λ a t. run_until allowed bus (f a) t) f)
told_sure Same allowed bus mid fact after f (Ended a t) d more = more a t d
told_sure Same allowed bus mid fact after f (Stopped rest t) d more = absurd d

follows_met : {S T A E : Type 0} {R : S → T → Type 0} (Same : S → S → Type 0) (allowed : Call → S → Bool) (bus : Bus S) (peer : Bus T) (fact : Fact S A E)
    (after : A → S → Type 0) (m : Routine (Result A E)) (s : S) (t : T) (u : Until S (Result A E)) (v : Until T (Result A E))
    → Met R u v → Told Same bus fact after u → AtRefused allowed u → finish bus u ≡ run bus m s → finish peer v ≡ run peer m t
    → Follows Same R allowed bus peer fact m s t
follows_met {S = S} {T = T} {A = A} {E = E} {R = R} Same allowed bus peer fact after m s t u v (ended {a} {s = now} {t = there} r) d at e k =
    together (ap (λ (x : Result A E × S). x.0) (sym e) ∙ ap (λ (x : Result A E × T). x.0) k)
    (subst (λ w. R ((run bus m s).1) w) (ap (λ (x : Result A E × T). x.1) k) (subst (λ w. R w there) (ap (λ (x : Result A E × S). x.1) e) r))
follows_met Same allowed bus peer fact after m s t u v (stopped {rest} {s = now} {t = there} r) (e, later, p, q, same) (c, first, denied) f k =
    refused rest now later there c e r first denied p (sym f ∙ q) same (sym k)

module _ {S : Type 0} {lawful : Call → S → Type 0} {allowed : Call → S → Bool} {bus : Bus S} where
  -- routines that are never refused a call
  pub ends_return : {A : Type 0} {before : S → Type 0} {after : A → S → Type 0} (a : A) → ((s : S) → before s → after a s)
      → Ends lawful allowed bus before (Return a) after
  ends_return a h = record { sure = h; lawfully = λ s p. tt }

  -- a call that has no fault
  pub ends_ask : {Same : S → S → Type 0} {before : S → Type 0} (c : Call) {after : Answer c → S → Type 0} → Refuses Same lawful allowed bus → HasNoFault c
      → Faultless lawful bus c before after → Ends lawful allowed bus before (Ask c) after
  ends_ask c {after = after} h none k = record {
    sure = λ s p. sure_ask after (allowed c s) (bus c s) (Ask c) s (λ never. let (f, is, stays) = h.fault c s (k.lawfully s p) never in none _ f is)
        (k.well s p);
    lawfully = λ s p. k.lawfully s p;
  }

  pub ends_then : {A B : Type 0} {before : S → Type 0} {mid : A → S → Type 0} {after : B → S → Type 0} (m : Routine A) (f : A → Routine B)
      → Ends lawful allowed bus before m mid → ((a : A) → Ends lawful allowed bus (mid a) (f a) after)
      → Ends lawful allowed bus before (Then m f) after
  ends_then {mid = mid} {after = after} m f h more = record {
    sure = λ s p. sure_then allowed bus mid after f (run_until allowed bus m s) (h.sure s p) (λ a t q. (more a).sure t q);
    lawfully = λ s p. (
      h.lawfully s p,
      goes_on mid (λ a t. AlongUntil lawful allowed bus (f a) t) (run_until allowed bus m s) (h.sure s p)
          (λ a t q. (more a).lawfully t q),
    );
  }

  pub ends_choose : {A : Type 0} {before : S → Type 0} {after : A → S → Type 0} (b : Bool) (m n : Routine A)
      → (b ≡ true → Ends lawful allowed bus before m after) → (b ≡ false → Ends lawful allowed bus before n after)
      → Ends lawful allowed bus before (choose b m n) after
  ends_choose true m n h k = h refl
  ends_choose false m n h k = k refl

module _ {S : Type 0} {Same : S → S → Type 0} {lawful : Call → S → Type 0} {allowed : Call → S → Bool} {bus : Bus S} where
  -- what returns at once tells
  pub tells_ok : {A E : Type 0} {before : S → Type 0} {fact : Fact S A E} {after : A → S → Type 0} (a : A)
      → ((s : S) → before s → after a s) → Tells Same lawful allowed bus before (Return (Ok a)) fact after
  tells_ok a h = record { told = h; lawfully = λ s p. tt }

  pub tells_err : {A E : Type 0} {before : S → Type 0} {fact : Fact S A E} {after : A → S → Type 0} (e : E)
      → Tells Same lawful allowed bus before (Return (Err e)) fact after
  tells_err e = record { told = λ s p. tt; lawfully = λ s p. tt }

  -- a call that can fault tells
  pub tells_call : {A : Type 0} {before : S → Type 0} {fact : Fact S A Fault} {after : A → S → Type 0} (m : Routine (Result A Fault)) (here : S → Type 0)
      (leave : S → Bool) (answer : S → Result A Fault × S)
      → ((s : S) → run_until allowed bus m s ≡ ask_until (leave s) (answer s) m s) → ((s : S) → run bus m s ≡ answer s)
      → ((s : S) → here s → AlongUntil lawful allowed bus m s)
      → ((s : S) → here s → leave s ≡ false → (f : Fault) × ((answer s).0 ≡ Err f) × Same s ((answer s).1))
      → Faulting Same here leave answer before m fact after → Tells Same lawful allowed bus before m fact after
  tells_call {fact = fact} {after = after} m here leave answer until whole along faults h = record {
    told = λ s p. subst (λ u. Told Same bus fact after u) (sym (until s)) (told_ask Same bus fact after (leave s) (answer s) m s
        (λ yes a e. h.well s a p yes e)
        (λ never. let (f, is, same) = faults s (h.lawfully s p) never in let e = paired is refl
        in (f, (answer s).1, h.refused s ((answer s).1) f p never e same, whole s ∙ e, same)));
    lawfully = λ s p. along s (h.lawfully s p);
  }

  pub tells_fetch : {before : S → Type 0} {fact : Fact S ℕ Fault} {after : ℕ → S → Type 0} → Refuses Same lawful allowed bus
      → (space : Space) (at : ℕ)
      → Faulting Same (lawful (Fetch space at)) (allowed (Fetch space at)) (bus (Fetch space at)) before (fetch space at) fact after
      → Tells Same lawful allowed bus before (fetch space at) fact after
  tells_fetch h space at k = tells_call (fetch space at) _ _ _ (λ s. refl) (λ s. refl) (λ s l. l) (λ s l never. h.fault (Fetch space at) s l never) k

  pub tells_read : {before : S → Type 0} {fact : Fact S ℕ Fault} {after : ℕ → S → Type 0} → Refuses Same lawful allowed bus
      → (space : Space) (p : Piece)
      → Faulting Same (lawful (Read space p)) (allowed (Read space p)) (bus (Read space p)) before (read space p) fact after
      → Tells Same lawful allowed bus before (read space p) fact after
  tells_read h space p k = tells_call (read space p) _ _ _ (λ s. refl) (λ s. refl) (λ s l. l) (λ s l never. h.fault (Read space p) s l never) k

  pub tells_write : {before : S → Type 0} {fact : Fact S (Unit {0}) Fault} {after : Unit {0} → S → Type 0} → Refuses Same lawful allowed bus
      → (space : Space) (p : Piece) (value : ℕ)
      → Faulting Same (lawful (Write space p value)) (allowed (Write space p value)) (bus (Write space p value)) before (write space p value) fact after
      → Tells Same lawful allowed bus before (write space p value) fact after
  tells_write h space p value k = tells_call (write space p value) _ _ _ (λ s. refl) (λ s. refl) (λ s l. l)
      (λ s l never. h.fault (Write space p value) s l never) k

  pub tells_read_line : {before : S → Type 0} {fact : Fact S (List ℕ) Fault} {after : List ℕ → S → Type 0} → Refuses Same lawful allowed bus
      → (space : Space) (at : ℕ)
      → Faulting Same (lawful (ReadLine space at)) (allowed (ReadLine space at)) (bus (ReadLine space at)) before (read_line space at) fact after
      → Tells Same lawful allowed bus before (read_line space at) fact after
  tells_read_line h space at k = tells_call (read_line space at) _ _ _ (λ s. refl) (λ s. refl) (λ s l. l) (λ s l never. h.fault (ReadLine space at) s l never) k

  pub tells_write_line : {before : S → Type 0} {fact : Fact S (Unit {0}) Fault} {after : Unit {0} → S → Type 0}
      → Refuses Same lawful allowed bus → (space : Space) (at : ℕ) (line : List ℕ)
      → Faulting Same (lawful (WriteLine space at line)) (allowed (WriteLine space at line)) (bus (WriteLine space at line)) before (write_line space at line)
      fact after
      → Tells Same lawful allowed bus before (write_line space at line) fact after
  tells_write_line h space at line k = tells_call (write_line space at line) _ _ _ (λ s. refl) (λ s. refl) (λ s l. l)
      (λ s l never. h.fault (WriteLine space at line) s l never) k

  pub tells_probe : {before : S → Type 0} {fact : Fact S Place Fault} {after : Place → S → Type 0} → Refuses Same lawful allowed bus
      → (space : Space) (p : Piece)
      → Faulting Same (lawful (Probe space p)) (allowed (Probe space p)) (bus (Probe space p)) before (probe space p) fact after
      → Tells Same lawful allowed bus before (probe space p) fact after
  tells_probe h space p k = tells_call (probe space p) _ _ _ (λ s. refl) (λ s. refl) (λ s l. l) (λ s l never. h.fault (Probe space p) s l never) k

  -- what goes on at an answer, and returns a fault at once
  pub tells_then : {A B E F : Type 0} {before : S → Type 0} {mid : A → S → Type 0} {fact : Fact S B F} {after : B → S → Type 0} (m : Routine (Result A E))
      (g : Result A E → Routine (Result B F)) (value : E → F)
      → ((e : E) → g (Err e) ≡ Return (Err (value e)))
      → Tells Same lawful allowed bus before m (through (λ rest. Then rest g) value fact) mid
      → ((a : A) → Tells Same lawful allowed bus (mid a) (g (Ok a)) fact after)
      → Tells Same lawful allowed bus before (Then m g) fact after
  tells_then {mid = mid} {fact = fact} {after = after} m g value at_once h more = record {
    told = λ s p. told_then Same allowed bus mid fact after g value at_once (run_until allowed bus m s) (h.told s p) (λ a t q. (more a).told t q);
    lawfully = λ s p. (
      h.lawfully s p,
      along_then Same lawful allowed bus (through (λ rest. Then rest g) value fact) mid g value at_once
          (run_until allowed bus m s) (h.told s p) (λ a t q. (more a).lawfully t q),
    );
  }

  pub tells_bind : {A B E : Type 0} {before : S → Type 0} {mid : A → S → Type 0} {fact : Fact S B E} {after : B → S → Type 0} (m : Routine (Result A E))
      (f : A → Routine (Result B E))
      → Tells Same lawful allowed bus before m (through (λ rest. rest >>= f) (λ e. e) fact) mid
      → ((a : A) → Tells Same lawful allowed bus (mid a) (f a) fact after) → Tells Same lawful allowed bus before (m >>= f) fact after
  tells_bind m f h more = tells_then m (λ r. tried r f) (λ e. e) (λ e. refl) h more

  pub tells_failing : {A E F : Type 0} {before : S → Type 0} {fact : Fact S A F} {after : A → S → Type 0} (value : E → F) (m : Routine (Result A E))
      → Tells Same lawful allowed bus before m (through (failing value) value fact) after
      → Tells Same lawful allowed bus before (failing value m) fact after
  tells_failing value m h = tells_then m (λ r. Return (other_fault value r)) value (λ e. refl) h (λ a. tells_ok a (λ s p. p))

  -- a fault that is caught, and returned at once as another
  pub tells_caught : {A B E F : Type 0} {before : S → Type 0} {mid : A → S → Type 0} {fact : Fact S B F} {after : B → S → Type 0} (m : Routine (Result A E))
      (value : E → F) (f : A → Routine (Result B F))
      → Tells Same lawful allowed bus before m (through (λ rest. caught rest (λ e. Return (Err (value e))) f) value fact) mid
      → ((a : A) → Tells Same lawful allowed bus (mid a) (f a) fact after)
      → Tells Same lawful allowed bus before (caught m (λ e. Return (Err (value e))) f) fact after
  tells_caught m value f h more = tells_then m (λ r. either r (λ e. Return (Err (value e))) f) value (λ e. refl) h more

  pub tells_choose : {A E : Type 0} {before : S → Type 0} {fact : Fact S A E} {after : A → S → Type 0} (b : Bool) (m n : Routine (Result A E))
      → (b ≡ true → Tells Same lawful allowed bus before m fact after) → (b ≡ false → Tells Same lawful allowed bus before n fact after)
      → Tells Same lawful allowed bus before (choose b m n) fact after
  tells_choose true m n h k = h refl
  tells_choose false m n h k = k refl

  pub tells_tried : {A B E : Type 0} {before : S → Type 0} {fact : Fact S B E} {after : B → S → Type 0} (r : Result A E) (f : A → Routine (Result B E))
      → ((a : A) → r ≡ Ok a → Tells Same lawful allowed bus before (f a) fact after)
      → Tells Same lawful allowed bus before (tried r f) fact after
  tells_tried (Ok a) f h = h a refl
  tells_tried (Err e) f h = tells_err e

  pub tells_either : {A B E F : Type 0} {before : S → Type 0} {fact : Fact S B F} {after : B → S → Type 0} (r : Result A E) (g : E → Routine (Result B F))
      (f : A → Routine (Result B F))
      → ((e : E) → r ≡ Err e → Tells Same lawful allowed bus before (g e) fact after)
      → ((a : A) → r ≡ Ok a → Tells Same lawful allowed bus before (f a) fact after)
      → Tells Same lawful allowed bus before (either r g f) fact after
  tells_either (Ok a) g f h k = k a refl
  tells_either (Err e) g f h k = h e refl

  pub tells_weaker : {A E : Type 0} {before earlier : S → Type 0} {fact other : Fact S A E} {after later : A → S → Type 0} (m : Routine (Result A E))
      → Tells Same lawful allowed bus before m fact after
      → ((s : S) → earlier s → before s) → ((rest : Routine (Result A E)) (t : S) (e : E) → fact rest t e → other rest t e)
      → ((a : A) (t : S) → after a t → later a t)
      → Tells Same lawful allowed bus earlier m other later
  tells_weaker {fact = fact} {other = other} {after = after} {later = later} m h b f a = record
      { told = λ s p. told_weaker Same bus fact other after later (run_until allowed bus m s) (h.told s (b s p)) f a; lawfully = λ s p. h.lawfully s (b s p) }

  -- begun in one state, it tells of its answer that it is the one from that state on
  pub tells_from : {A E : Type 0} {before : S → Type 0} {fact : Fact S A E} {after : A → S → Type 0} (m : Routine (Result A E)) (s : S)
      → Tells Same lawful allowed bus before m fact after
      → Tells Same lawful allowed bus (λ t. before t × (t ≡ s)) m fact (λ a t. after a t × ((run bus m s).0 ≡ Ok a))
  tells_from {A = A} {E = E} {fact = fact} {after = after} m s h = record {
    told = λ t q.
        told_from Same bus fact after m s (run_until allowed bus m t)
        (ap (λ (r : Result A E × S). r.0) (finish_until allowed bus m t) ∙ ap (λ (u : S). (run bus m u).0) q.1) (h.told t q.0);
    lawfully = λ t q. h.lawfully t q.0;
  }

  -- what is never refused, and then a routine that tells
  pub tells_after : {A B E : Type 0} {before : S → Type 0} {mid : A → S → Type 0} {fact : Fact S B E} {after : B → S → Type 0} (m : Routine A)
      (f : A → Routine (Result B E))
      → Ends lawful allowed bus before m mid → ((a : A) → Tells Same lawful allowed bus (mid a) (f a) fact after)
      → Tells Same lawful allowed bus before (Then m f) fact after
  tells_after {mid = mid} {fact = fact} {after = after} m f h more = record {
    told = λ s p. told_sure Same allowed bus mid fact after f (run_until allowed bus m s) (h.sure s p) (λ a t q. (more a).told t q);
    lawfully = λ s p. (
      h.lawfully s p,
      goes_on mid (λ a t. AlongUntil lawful allowed bus (f a) t) (run_until allowed bus m s) (h.sure s p)
          (λ a t q. (more a).lawfully t q),
    );
  }

  pub tells_sure : {A E : Type 0} {before : S → Type 0} {fact : Fact S A E} {after : A → S → Type 0} (m : Routine A)
      → Ends lawful allowed bus before m after → Tells Same lawful allowed bus before (sure m) fact after
  tells_sure m h = tells_after m (λ a. Return (Ok a)) h (λ a. tells_ok a (λ s p. p))

  -- the run by one bus and by another, where the first refuses some calls
  pub follows : {T A E : Type 0} {R : S → T → Type 0} {permitted : Call → T → Bool} {peer : Bus T} {before : S → Type 0} {fact : Fact S A E}
      {after : A → S → Type 0}
      → Alike R lawful allowed permitted bus peer → (m : Routine (Result A E))
      → Tells Same lawful allowed bus before m fact after → (s : S) (t : T) → R s t → before s → Follows Same R allowed bus peer fact m s t
  follows {permitted = permitted} {peer = peer} {fact = fact} {after = after} h m tells s t r p =
      follows_met Same allowed bus peer fact after m s t (run_until allowed bus m s) (run_until permitted peer m t) (simulates h m s t r (tells.lawfully s p))
      (tells.told s p) (stops_at_refused allowed bus m s)
      (finish_until allowed bus m s) (finish_until permitted peer m t)
