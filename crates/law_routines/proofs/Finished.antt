-- A routine that is run until its first call that is not allowed, and then finished, is run whole.
use Rattle.std.specs.Prelude.{◌≡◌, refl, Bool, true, false}
use Rattle.std.proofs.Common.{ap, ◌∙◌}
use Rattle.mb_port.specs.Routine.{Call, Routine, Return, Ask, Then, Bus, run}
use Rattle.law_routines.specs.Until.{Until, Ended, Stopped, then_until, ask_until, run_until, finish, AtRefused}

finish_ask : {S : Type 0} (b : Bool) (bus : Bus S) (c : Call) (s : S) → finish bus (ask_until b (bus c s) (Ask c) s) ≡ bus c s
finish_ask true bus c s = refl
finish_ask false bus c s = refl

finish_then : {S A B : Type 0} (allowed : Call → S → Bool) (bus : Bus S) (f : A → Routine B) (u : Until S A) (end : A × S)
    → finish bus u ≡ end → ((a : A) (t : S) → finish bus (run_until allowed bus (f a) t) ≡ run bus (f a) t)
    → finish bus (then_until u (λ a t. run_until allowed bus (f a) t) f) ≡ run bus (f (end.0)) (end.1)
finish_then {S = S} {A = A} allowed bus f (Ended a t) end e more = more a t ∙ ap (λ (r : A × S). run bus (f (r.0)) (r.1)) e
finish_then {S = S} {A = A} allowed bus f (Stopped rest t) end e more = ap (λ (r : A × S). run bus (f (r.0)) (r.1)) e

pub finish_until : {S A : Type 0} (allowed : Call → S → Bool) (bus : Bus S) (m : Routine A) (s : S)
    → finish bus (run_until allowed bus m s) ≡ run bus m s
finish_until allowed bus (Return a) s = refl
finish_until allowed bus (Ask c) s = finish_ask (allowed c s) bus c s
finish_until allowed bus (Then m f) s = finish_then allowed bus f (run_until allowed bus m s) (run bus m s) (finish_until allowed bus m s)
    (λ a t. finish_until allowed bus (f a) t)

at_ask : {S : Type 0} (allowed : Call → S → Bool) (bus : Bus S) (c : Call) (s : S) (b : Bool) → allowed c s ≡ b
    → AtRefused allowed (ask_until b (bus c s) (Ask c) s)
at_ask allowed bus c s true e = tt
at_ask allowed bus c s false e = (c, refl, e)

at_then : {S A B : Type 0} (allowed : Call → S → Bool) (f : A → Routine B) (go : A → S → Until S B) (u : Until S A)
    → AtRefused allowed u → ((a : A) (t : S) → AtRefused allowed (go a t))
    → AtRefused allowed (then_until u go f)
at_then allowed f go (Ended a t) h more = more a t
at_then allowed f go (Stopped rest t) h more = h

pub stops_at_refused : {S A : Type 0} (allowed : Call → S → Bool) (bus : Bus S) (m : Routine A) (s : S)
    → AtRefused allowed (run_until allowed bus m s)
stops_at_refused allowed bus (Return a) s = tt
stops_at_refused allowed bus (Ask c) s = at_ask allowed bus c s (allowed c s) refl
stops_at_refused allowed bus (Then m f) s = at_then allowed f _ (run_until allowed bus m s) (stops_at_refused allowed bus m s)
    (λ a t. stops_at_refused allowed bus (f a) t)
