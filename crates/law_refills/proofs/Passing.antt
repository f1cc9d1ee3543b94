-- How many calls a routine makes before the first that is not allowed.
use Rattle.std.specs.Prelude.{◌≡◌, refl, ℕ, ◌+◌, ◌≤◌, Bool, true, false, cond, Some, None}
use Rattle.std.proofs.Common.{ap, sym, subst, ◌∙◌, arith}
use Rattle.std.proofs.lemmas.Option.{same_Some}
use Rattle.mb_port.specs.Routine.{Call, Answer, Routine, Return, Ask, Then, Bus, run}
use Rattle.law_routines.specs.Alike.{Alike}
use Rattle.law_routines.specs.Until.{Until, Ended, Stopped, then_until, ask_until, run_until, finish, first_call, GoesOn, AlongUntil}
use Rattle.law_routines.proofs.Finished.{finish_until}
use Rattle.law_calls.specs.Calls.{calls}

abbrev pub passed_then : {S A : Type 0} → Until S A → (A → S → ℕ) → ℕ
passed_then (Ended a s) go = go a s
passed_then (Stopped rest s) go = 0

abbrev pub passed : {S A : Type 0} → (Call → S → Bool) → Bus S → Routine A → S → ℕ
passed allowed bus (Return a) s = 0
passed allowed bus (Ask c) s = cond (allowed c s) 1 0
passed allowed bus (Then m f) s =
    passed allowed bus m s + passed_then (run_until allowed bus m s) (λ a t. passed allowed bus (f a) t)

-- ---- no more than it makes

at_most_one : (b : Bool) → cond b 1 0 ≤ 1
at_most_one true = omega arith
at_most_one false = omega arith

then_few : {S A B : Type 0} (allowed : Call → S → Bool) (bus : Bus S) (f : A → Routine B) (u : Until S A) (end : A × S) → finish bus u ≡ end
    → ((a : A) (t : S) → passed allowed bus (f a) t ≤ calls bus (f a) t)
    → passed_then u (λ a t. passed allowed bus (f a) t) ≤ calls bus (f end.0) end.1
then_few {S} {A} allowed bus f (Ended a t) end e more = subst (λ (q : A × S). passed allowed bus (f a) t ≤ calls bus (f q.0) q.1) e (more a t)
then_few allowed bus f (Stopped rest t) end e more = omega arith

pub passed_few : {S A : Type 0} (allowed : Call → S → Bool) (bus : Bus S) (m : Routine A) (s : S) → passed allowed bus m s ≤ calls bus m s
passed_few allowed bus (Return a) s = omega arith
passed_few allowed bus (Ask c) s = at_most_one (allowed c s)
passed_few allowed bus (Then m f) s =
    let first = passed_few allowed bus m s in
    let last = then_few allowed bus f (run_until allowed bus m s) (run bus m s) (finish_until allowed bus m s) (λ a t. passed_few allowed bus (f a) t) in
    omega arith

-- one that is allowed is passed
pub first_passes : {S A : Type 0} (allowed : Call → S → Bool) (bus : Bus S) (m : Routine A) (c : Call) (s : S) → first_call m ≡ Some c → allowed c s ≡ true
    → 1 ≤ passed allowed bus m s
first_passes allowed bus (Return a) c s first h = absurd (let z : None ≡ Some c = first in let y : ⊥ = cc in y)
first_passes allowed bus (Ask d) c s first h =
    let e : cond (allowed d s) 1 0 ≡ 1 = ap (λ (x : Call). cond (allowed x s) 1 0) (same_Some d c first) ∙ ap (λ (b : Bool). cond b 1 0) h in
    subst (λ (n : ℕ). 1 ≤ n) (sym e) (omega arith)
first_passes allowed bus (Then m f) c s first h = let one = first_passes allowed bus m c s first h in omega arith

-- ---- beside another bus, which may allow more

module _ {S T : Type 0} {R : S → T → Type 0} {lawful : Call → S → Type 0} {allowed : Call → S → Bool} {permitted : Call → T → Bool} {bus : Bus S} {peer : Bus T}
    (alike : Alike R lawful allowed permitted bus peer) (wide : Call → T → Bool)
    (wider : (c : Call) (s : S) (t : T) → R s t → allowed c s ≡ true → wide c t ≡ true) where
  -- Where the first came so far by so many calls, the second has come as far by as many, and goes on from there.
  abbrev pub Leads : {A : Type 0} → Routine A → T → ℕ → Until S A → Type 1
  Leads m t n (Ended a s) = (v : T) × R s v × (run_until wide peer m t ≡ Ended a v) × (passed wide peer m t ≡ n)
  Leads m t n (Stopped rest s) =
      (v : T) × R s v × (run_until wide peer m t ≡ run_until wide peer rest v) × (passed wide peer m t ≡ n + passed wide peer rest v)

  ask_leads : (c : Call) (s : S) (t : T) → R s t → lawful c s → (b : Bool) → allowed c s ≡ b
      → Leads (Ask c) t (cond b 1 0) (ask_until b (bus c s) (Ask c) s)
  ask_leads c s t r l true e =
      let may = wider c s t r e in (
        (peer c t).1,
        alike.kept c s t r l e,
        ap (λ (b : Bool). ask_until b (peer c t) (Ask c) t) may
            ∙ ap (λ (a : Answer c). (let u : Until T (Answer c) = Ended a (peer c t).1 in u)) (sym (alike.answer c s t r l e)),
        ap (λ (b : Bool). cond b 1 0) may,
      )
  ask_leads c s t r l false e = (t, r, refl, omega arith)

  onto : {A B : Type 0} (m : Routine A) (f : A → Routine B) (t v : T) (n : ℕ) (a : A) → run_until wide peer m t ≡ Ended a v → passed wide peer m t ≡ n
      → (k : ℕ) (u : Until S B) → Leads (f a) v k u → Leads (Then m f) t (n + k) u
  onto {A} {B} m f t v n a runs count k (Ended b s) (w, r, more, last) =
      let same = ap (λ (u : Until T A). passed_then u (λ a t. passed wide peer (f a) t)) runs in
      (w, r, ap (λ (u : Until T A). then_until u (λ a t. run_until wide peer (f a) t) f) runs ∙ more, omega arith)
  onto {A} {B} m f t v n a runs count k (Stopped rest s) (w, r, more, last) =
      let same = ap (λ (u : Until T A). passed_then u (λ a t. passed wide peer (f a) t)) runs in
      (w, r, ap (λ (u : Until T A). then_until u (λ a t. run_until wide peer (f a) t) f) runs ∙ more, omega arith)

  then_leads : {A B : Type 0} (m : Routine A) (f : A → Routine B) (t : T) (n : ℕ) (u : Until S A) → Leads m t n u
      → GoesOn u (λ a s. AlongUntil lawful allowed bus (f a) s)
      → ((a : A) (s : S) (v : T) → R s v → AlongUntil lawful allowed bus (f a) s → Leads (f a) v (passed allowed bus (f a) s) (run_until allowed bus (f a) s))
      → Leads (Then m f) t (n + passed_then u (λ a s. passed allowed bus (f a) s)) (then_until u (λ a s. run_until allowed bus (f a) s) f)
  then_leads m f t n (Ended a s) (v, r, runs, count) along more =
      onto m f t v n a runs count (passed allowed bus (f a) s) (run_until allowed bus (f a) s) (more a s v r along)
  then_leads {A} m f t n (Stopped rest s) (v, r, runs, count) along more =
      let same = ap (λ (u : Until T A). passed_then u (λ a t. passed wide peer (f a) t)) runs in
      (v, r, ap (λ (u : Until T A). then_until u (λ a t. run_until wide peer (f a) t) f) runs, omega arith)

  pub leads : {A : Type 0} (m : Routine A) (s : S) (t : T) → R s t → AlongUntil lawful allowed bus m s
      → Leads m t (passed allowed bus m s) (run_until allowed bus m s)
  leads (Return a) s t r l = (t, r, refl, refl)
  leads (Ask c) s t r l = ask_leads c s t r l (allowed c s) refl
  leads (Then m f) s t r l =
      then_leads m f t (passed allowed bus m s) (run_until allowed bus m s) (leads m s t r l.0) l.1 (λ a u v q k. leads (f a) u v q k)
