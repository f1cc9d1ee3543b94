-- A bus that refuses the calls that are not allowed, and what a refused call leaves.
use Rattle.std.specs.Prelude.{◌≡◌, Bool, true, false, Some, Result, Ok, Err}
use Rattle.mb_port.specs.Routine.{Call, Fetch, Read, Write, ReadLine, WriteLine, Probe, Get, Put, ReadMmu, SetMmu}
use Rattle.mb_port.specs.Routine.{answer_in, state_in}
use Rattle.mb_port.specs.Routine.{FlushKept, Test, ResetDevices, Answer, Routine, Bus, run}
use Rattle.mb_port.specs.declared.types.Fault.{Fault}
use Rattle.law_routines.specs.Until.{Until, Ended, Stopped, run_until, first_call, AlongUntil}

-- The answer is this fault; seven calls have none.
abbrev pub IsFault : (c : Call) → Answer c → Fault → Type 0
IsFault (Fetch space at) answer fault = answer ≡ Err fault
IsFault (Read space piece) answer fault = answer ≡ Err fault
IsFault (Write space piece value) answer fault = answer ≡ Err fault
IsFault (ReadLine space at) answer fault = answer ≡ Err fault
IsFault (WriteLine space at line) answer fault = answer ≡ Err fault
IsFault (Probe space piece) answer fault = answer ≡ Err fault
IsFault (Get place) answer fault = ⊥
IsFault (Put place value) answer fault = ⊥
IsFault ReadMmu answer fault = ⊥
IsFault (SetMmu which value) answer fault = ⊥
IsFault (FlushKept what) answer fault = ⊥
IsFault (Test space at write) answer fault = ⊥
IsFault ResetDevices answer fault = ⊥

-- A lawful call that is not allowed answers a fault, and leaves the same state in what matters. So a call that has no
-- fault is always allowed.
pub record Refuses {S : Type 0} (Same : S → S → Type 0) (lawful : Call → S → Type 0) (allowed : Call → S → Bool)
    (bus : Bus S) : Type 0 where
  pub fault : (c : Call) (s : S) → lawful c s → allowed c s ≡ false → (f : Fault) × IsFault c (answer_in (bus c s)) f
      × Same s (state_in (bus c s))

-- What is said of a routine that was refused a call: of its rest, which begins with that call, of the state there, and
-- of the fault value that it ends with.
abbrev pub Fact : Type 0 → Type 0 → Type 0 → Type 1
Fact S A E = Routine (Result A E) → S → E → Type 0

-- a fact of the state and the fault value alone
abbrev pub of_fault : {S A E : Type 0} → (S → E → Type 0) → Fact S A E
of_fault P rest t e = P t e

-- what is to be said of the rest of a first part, so that the fact holds of the rest of the whole: that is onto of the
-- first part's rest, with value of its fault value
abbrev pub through : {S A B E F : Type 0} → (Routine (Result A E) → Routine (Result B F)) → (E → F) → Fact S B F
    → Fact S A E
through onto value fact rest t e = fact (onto rest) t (value e)

-- says nothing
abbrev pub any_call : {S : Type 0} → Call → S → Type 0
any_call c s = Unit {0}

-- Where the routine came to an end that is no fault, its answer and state are as stated. Where it was refused a call,
-- that call ends it at once: its rest, run over the same bus, ends with a fault value, of which the fact holds, in a
-- state that is the same in what matters.
abbrev pub Told : {S A E : Type 0} → (S → S → Type 0) → Bus S → Fact S A E → (A → S → Type 0) → Until S (Result A E)
    → Type 0
Told Same bus fact after (Ended (Ok a) t) = after a t
Told Same bus fact after (Ended (Err e) t) = Unit {0}
Told {S = S} {E = E} Same bus fact after (Stopped rest t) = (e : E) × (u : S) × fact rest t e
    × (run bus rest t ≡ (Err e, u)) × Same t u

-- What a routine tells of a refused call.
--
-- Begun in a state of before, it makes lawful calls alone, up to its end or to the first call that is not allowed.
-- Where it ends with an answer, the answer and the state are of after. Where a call is refused, the routine ends there:
-- no further call is made, and it answers a fault value of which the fact holds. So whoever finds that value knows what
-- was left to do.
--
-- For the writing of a list of pieces the fact may be that the rest, over any other bus, is the writing of the pieces
-- that the fault value names. For the reads before it: that the state is still the first, with before and after saying
-- so too.
--
-- The laws put it together from the parts of a routine: of a first part it is wanted with the fact of the whole,
-- through what follows that part.
pub record Tells {S A E : Type 0} (Same : S → S → Type 0) (lawful : Call → S → Type 0) (allowed : Call → S → Bool)
    (bus : Bus S) (before : S → Type 0) (m : Routine (Result A E)) (fact : Fact S A E)
    (after : A → S → Type 0) : Type 0 where
  pub told : (s : S) → before s → Told Same bus fact after (run_until allowed bus m s)
  pub lawfully : (s : S) → before s → AlongUntil lawful allowed bus m s

-- The routine came to its end, with this answer and state.
abbrev pub Sure : {S A : Type 0} → (A → S → Type 0) → Until S A → Type 0
Sure after (Ended a t) = after a t
Sure after (Stopped rest t) = ⊥

-- A routine that is never refused a call: begun in a state of before it makes lawful calls alone, and ends with an
-- answer and a state of after.
pub record Ends {S A : Type 0} (lawful : Call → S → Type 0) (allowed : Call → S → Bool) (bus : Bus S)
    (before : S → Type 0) (m : Routine A) (after : A → S → Type 0) : Type 0 where
  pub sure : (s : S) → before s → Sure after (run_until allowed bus m s)
  pub lawfully : (s : S) → before s → AlongUntil lawful allowed bus m s

-- what is known of a single call that can fault: it is lawful; where it is allowed and answers, answer and state are of
-- after; where it is refused, the fact holds of its fault
pub record Faulting {S A : Type 0} (Same : S → S → Type 0) (lawful : S → Type 0) (leave : S → Bool)
    (answer : S → Result A Fault × S)
    (before : S → Type 0) (m : Routine (Result A Fault)) (fact : Fact S A Fault) (after : A → S → Type 0) : Type 0 where
  pub lawfully : (s : S) → before s → lawful s
  pub well : (s : S) (a : A) → before s → leave s ≡ true → answer_in (answer s) ≡ Ok a → after a (state_in (answer s))
  pub refused : (s u : S) (fault : Fault) → before s → leave s ≡ false → answer s ≡ (Err fault, u) → Same s u
      → fact m s fault

-- a call that has no fault
abbrev pub HasNoFault : Call → Type 0
HasNoFault c = (answer : Answer c) (fault : Fault) → IsFault c answer fault → ⊥

-- what is known of a single call that has none
pub record Faultless {S : Type 0} (lawful : Call → S → Type 0) (bus : Bus S) (c : Call)
    (before : S → Type 0) (after : Answer c → S → Type 0) : Type 0 where
  pub lawfully : (s : S) → before s → lawful c s
  pub well : (s : S) → before s → after (answer_in (bus c s)) (state_in (bus c s))

-- How the run of a routine by one bus stands to its run by another, where the first refuses some calls.
--
-- Either both give the same answer, in related states. Or the first was refused a call, in a state that is related to
-- the other's there: it ended at once with a fault value of which the fact holds, in a state that is the same in what
-- matters, and the other's run goes on with the rest.
pub data Follows {S T A E : Type 0} (Same : S → S → Type 0) (R : S → T → Type 0) (allowed : Call → S → Bool)
    (bus : Bus S) (peer : Bus T)
    (fact : Fact S A E) (m : Routine (Result A E)) (s : S) (t : T) : Type 1 where
  together : answer_in (run bus m s) ≡ answer_in (run peer m t) → R (state_in (run bus m s)) (state_in (run peer m t))
      → Follows Same R allowed bus peer fact m s t
  refused : (rest : Routine (Result A E)) (now later : S) (there : T) (c : Call) (e : E) → R now there
      → first_call rest ≡ Some c → allowed c now ≡ false → fact rest now e
      → run bus m s ≡ (Err e, later) → Same now later → run peer m t ≡ run peer rest there
      → Follows Same R allowed bus peer fact m s t
