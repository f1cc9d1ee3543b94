-- Running a routine up to the first call that is not allowed.
use Rattle.std.specs.Prelude.{◌≡◌, Bool, true, false, Option, Some, None}
use Rattle.mb_port.specs.Routine.{Call, Routine, Return, Ask, Then, Bus, run}

-- how far a routine came: to its end, or to a call that is not allowed, with the rest, which begins with that call
pub data Until (S A : Type 0) : Type 1 where
  Ended : A → S → Until S A
  Stopped : Routine A → S → Until S A

-- goes on where the first part came to its end
abbrev pub then_until : {S A B : Type 0} → Until S A → (A → S → Until S B) → (A → Routine B) → Until S B
then_until (Ended a s) go f = go a s
then_until (Stopped rest s) go f = Stopped (Then rest f) s

-- a single call, where it is allowed
abbrev pub ask_until : {S A : Type 0} → Bool → A × S → Routine A → S → Until S A
ask_until true (answer, after) m s = Ended answer after
ask_until false answer m s = Stopped m s

abbrev pub run_until : {S A : Type 0} → (Call → S → Bool) → Bus S → Routine A → S → Until S A
run_until allowed bus (Return a) s = Ended a s
run_until allowed bus (Ask c) s = ask_until (allowed c s) (bus c s) (Ask c) s
run_until allowed bus (Then m f) s = then_until (run_until allowed bus m s) (λ a t. run_until allowed bus (f a) t) f

-- the rest without asking leave
abbrev pub finish : {S A : Type 0} → Bus S → Until S A → A × S
finish bus (Ended a s) = (a, s)
finish bus (Stopped rest s) = run bus rest s

-- the state where it ended or stopped
abbrev pub state_of : {S A : Type 0} → Until S A → S
state_of (Ended a s) = s
state_of (Stopped rest s) = s

-- the call that a routine begins with, where it begins with one
abbrev pub first_call : {A : Type 0} → Routine A → Option Call
first_call (Return a) = None
first_call (Ask c) = Some c
first_call (Then m f) = first_call m

-- Where the routine stopped, its rest begins with a call that is not allowed there.
abbrev pub AtRefused : {S A : Type 0} → (Call → S → Bool) → Until S A → Type 0
AtRefused allowed (Ended a s) = Unit {0}
AtRefused allowed (Stopped rest s) = (c : Call) × (first_call rest ≡ Some c) × (allowed c s ≡ false)

-- What follows, where the first part came to its end.
abbrev pub GoesOn : {S A : Type 0} → Until S A → (A → S → Type 0) → Type 0
GoesOn (Ended a s) P = P a s
GoesOn (Stopped rest s) P = Unit {0}

-- A fact holds at each call that is made, the refused one too.
abbrev pub AlongUntil : {S A : Type 0} → (Call → S → Type 0) → (Call → S → Bool) → Bus S → Routine A → S → Type 0
AlongUntil P allowed bus (Return a) s = Unit {0}
AlongUntil P allowed bus (Ask c) s = P c s
AlongUntil P allowed bus (Then m f) s = AlongUntil P allowed bus m s
    × GoesOn (run_until allowed bus m s) (λ a t. AlongUntil P allowed bus (f a) t)
