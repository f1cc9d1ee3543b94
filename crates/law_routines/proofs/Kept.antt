-- What each call of a bus keeps, every routine keeps.
use Rattle.std.specs.Prelude.{◌≡◌, refl, Bool, true, false}
use Rattle.std.proofs.Common.{ap, ◌∙◌}
use Rattle.mb_port.specs.Routine.{Call, Routine, Return, Ask, Then, Bus, run}
use Rattle.law_routines.specs.Until.{Until, Ended, Stopped, then_until, ask_until, run_until, state_of, GoesOn, AlongUntil}
use Rattle.law_routines.specs.Keeps.{Keeps, KeepsAllowed, LeavesAlone, lifted}

pub run_keeps : {S A : Type 0} {P : S → Type 0} {bus : Bus S} → Keeps P bus → (m : Routine A) (s : S) → P s → P ((run bus m s).1)
run_keeps h (Return a) s p = p
run_keeps h (Ask c) s p = h.call c s p
run_keeps {bus = bus} h (Then m f) s p = run_keeps h (f ((run bus m s).0)) ((run bus m s).1) (run_keeps h m s p)

ask_keeps : {S : Type 0} (P : S → Type 0) (bus : Bus S) (c : Call) (s : S) (b : Bool) → P s → (b ≡ true → P ((bus c s).1))
    → P (state_of (ask_until b (bus c s) (Ask c) s))
ask_keeps P bus c s true p h = h refl
ask_keeps P bus c s false p h = p

then_keeps : {S A B : Type 0} (P : S → Type 0) (f : A → Routine B) (go : A → S → Until S B) (Lawful : A → S → Type 0) (u : Until S A)
    → P (state_of u) → GoesOn u Lawful → ((a : A) (t : S) → P t → Lawful a t → P (state_of (go a t)))
    → P (state_of (then_until u go f))
then_keeps P f go Lawful (Ended a t) p l more = more a t p l
then_keeps P f go Lawful (Stopped rest t) p l more = p

-- What each lawful call that is allowed keeps, holds where a routine of lawful calls ended or stopped.
pub until_keeps : {S A : Type 0} {P : S → Type 0} {lawful : Call → S → Type 0} {allowed : Call → S → Bool} {bus : Bus S}
    → KeepsAllowed P lawful allowed bus → (m : Routine A) (s : S) → P s → AlongUntil lawful allowed bus m s
    → P (state_of (run_until allowed bus m s))
until_keeps h (Return a) s p l = p
until_keeps {P = P} {allowed = allowed} {bus = bus} h (Ask c) s p l = ask_keeps P bus c s (allowed c s) p (λ e. h.call c s l e p)
until_keeps {P = P} {lawful = lawful} {allowed = allowed} {bus = bus} h (Then m f) s p l =
    then_keeps P f _ (λ a t. AlongUntil lawful allowed bus (f a) t) (run_until allowed bus m s) (until_keeps h m s p l.0) l.1
    (λ a t q k. until_keeps h (f a) t q k)

pub run_leaves : {S N A : Type 0} {part : S → N} {bus : Bus S} → LeavesAlone part bus → (m : Routine A) (s : S)
    → part ((run bus m s).1) ≡ part s
run_leaves h (Return a) s = refl
run_leaves h (Ask c) s = h.call c s
run_leaves {bus = bus} h (Then m f) s = run_leaves h (f ((run bus m s).0)) ((run bus m s).1) ∙ run_leaves h m s

-- a routine over a bus beside something else is the routine over the bus
pub run_lifted : {S N A : Type 0} (bus : Bus S) (m : Routine A) (s : S) (n : N)
    → run (lifted bus) m (s, n) ≡ ((run bus m s).0, ((run bus m s).1, n))
run_lifted bus (Return a) s n = refl
run_lifted bus (Ask c) s n = refl
run_lifted {S = S} {N = N} bus (Then {A = A} m f) s n =
    ap (λ (r : A × (S × N)). run (lifted bus) (f (r.0)) (r.1)) (run_lifted bus m s n) ∙ run_lifted bus (f ((run bus m s).0)) ((run bus m s).1) n
