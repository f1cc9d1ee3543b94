-- The laws as clauses say them: at every state type and every answer, with tests for facts and relations, and trees of
-- calls for routines.
use Rattle.std.specs.Prelude.{◌≡◌, ℕ, Bool, true, false, IsTrue, List, Result, Ok, Err, ◌⊎◌}
use Rattle.mb_port.specs.Routine.{Call, Fetch, Read, Write, ReadLine, WriteLine, Probe, Answer, answer_in, state_in}
use Rattle.mb_port.specs.Routine.{Routine, Return, Ask, Then, Bus, run, choose, tried, either, ◌>>=◌, failing, caught}
use Rattle.mb_port.specs.Routine.{sure}
use Rattle.mb_port.specs.Routine.{fetch, read, write, read_line, write_line, probe, get, put}
use Rattle.mb_port.specs.declared.types.Space.{Space}
use Rattle.mb_port.specs.declared.types.Piece.{Piece}
use Rattle.mb_port.specs.declared.types.Place.{Place}
use Rattle.mb_port.specs.declared.types.Fault.{Fault}
use Rattle.law_routines.specs.Until.{run_until, finish, state_of, AtRefused, AlongUntil}
use Rattle.law_routines.specs.Keeps.{Keeps, KeepsAllowed, LeavesAlone, lifted}
use Rattle.law_routines.specs.Alike.{Alike, Mirrors, Meets}
use Rattle.law_routines.specs.Relations.{Steps, Runs, Along, Admits, MayFollow, NoChoice, Agree}
use Rattle.law_routines.specs.Refusal.{Refuses, Fact, of_fault, any_call, Tells, Ends, Faulting, HasNoFault, Faultless}
use Rattle.law_routines.specs.Tree.{Tree, tree_of, routine_of}
use Rattle.law_routines.specs.Probing.{IsOpen, OpensProbed}
use Rattle.law_routines.specs.Twin.{Kin, TwinTrees, AlikeOn, MeetsOn}

-- Tests, as the facts and relations that the laws speak of.
abbrev pub Passes : {S : Type 0} → (S → Bool) → S → Type 0
Passes p s = IsTrue (p s)

abbrev pub Related : {S T : Type 0} → (S → T → Bool) → S → T → Type 0
Related r s t = IsTrue (r s t)

abbrev pub PassesCall : {S : Type 0} → (Call → S → Bool) → Call → S → Type 0
PassesCall p c s = IsTrue (p c s)

abbrev pub May : {S : Type 0} → ((c : Call) → S → Answer c → S → Bool) → Steps S
May step c s a t = IsTrue (step c s a t)

abbrev pub After : {S A : Type 0} → (A → S → Bool) → A → S → Type 0
After p a s = IsTrue (p a s)

abbrev pub Says : {S A E : Type 0} → (S → E → Bool) → Fact S A E
Says p = of_fault (λ t e. IsTrue (p t e))

-- A routine and what follows it is the tree of its calls.
abbrev pub RoutinesAreTrees : Type 0 → Type 0 → Type 0 → Type 0
RoutinesAreTrees S A B = (bus : Bus S) (m : Tree A) (f : A → Tree B) (s : S)
    → let whole = Then (routine_of m) (λ a. routine_of (f a)) in run bus (routine_of (tree_of whole)) s ≡ run bus whole
    s

-- What each call keeps, a routine keeps.
abbrev pub RoutinesKeep : Type 0 → Type 0 → Type 0
RoutinesKeep S A = (p : S → Bool) (bus : Bus S) → Keeps (Passes p) bus
    → (m : Tree A) (s : S) → Passes p s → Passes p (state_in (run bus (routine_of m) s))

-- What each lawful call that is allowed keeps, a routine of lawful calls keeps up to its first call that is not
-- allowed.
abbrev pub RoutinesKeepUntil : Type 0 → Type 0 → Type 0
RoutinesKeepUntil S A = (p : S → Bool) (lawful allowed : Call → S → Bool) (bus : Bus S)
    → KeepsAllowed (Passes p) (PassesCall lawful) allowed bus → (m : Tree A) (s : S) → Passes p s
    → AlongUntil (PassesCall lawful) allowed bus (routine_of m) s
    → Passes p (state_of (run_until allowed bus (routine_of m) s))

-- What each call leaves alone, a routine leaves alone.
abbrev pub RoutinesLeaveAlone : Type 0 → Type 0 → Type 0 → Type 0
RoutinesLeaveAlone S N A = (part : S → N) (bus : Bus S) → LeavesAlone part bus
    → (m : Tree A) (s : S) → part (state_in (run bus (routine_of m) s)) ≡ part s

-- A routine over a bus beside something else is the routine over the bus.
abbrev pub RoutinesBeside : Type 0 → Type 0 → Type 0 → Type 0
RoutinesBeside S N A = (bus : Bus S) (m : Tree A) (s : S) (n : N)
    → run (lifted bus) (routine_of m) (s, n)
    ≡ (answer_in (run bus (routine_of m) s), (state_in (run bus (routine_of m) s), n))

-- A routine that is run until its first call that is not allowed, and then finished, is run whole.
abbrev pub FinishedIsWhole : Type 0 → Type 0 → Type 0
FinishedIsWhole S A = (allowed : Call → S → Bool) (bus : Bus S) (m : Tree A) (s : S)
    → finish bus (run_until allowed bus (routine_of m) s) ≡ run bus (routine_of m) s

-- It stops at a call that is not allowed.
abbrev pub StopsAtRefused : Type 0 → Type 0 → Type 0
StopsAtRefused S A = (allowed : Call → S → Bool) (bus : Bus S) (m : Tree A) (s : S)
    → AtRefused allowed (run_until allowed bus (routine_of m) s)

-- Two buses that are alike run a routine alike, until the same refused call.
abbrev pub AlikeRunsMeet : Type 0 → Type 0 → Type 0 → Type 0
AlikeRunsMeet S T A = (r : S → T → Bool) (lawful allowed : Call → S → Bool) (permitted : Call → T → Bool)
    (bus : Bus S) (peer : Bus T) → Alike (Related r) (PassesCall lawful) allowed permitted bus peer
    → (m : Tree A) (s : S) (t : T) → Related r s t → AlongUntil (PassesCall lawful) allowed bus (routine_of m) s
    → Meets (Related r) (run_until allowed bus (routine_of m) s) (run_until permitted peer (routine_of m) t)

-- The same where every call is lawful.
abbrev pub AlikeRunsMeetEverywhere : Type 0 → Type 0 → Type 0 → Type 0
AlikeRunsMeetEverywhere S T A = (r : S → T → Bool) (allowed : Call → S → Bool) (permitted : Call → T → Bool)
    (bus : Bus S) (peer : Bus T) → Alike (Related r) any_call allowed permitted bus peer
    → (m : Tree A) (s : S) (t : T) → Related r s t
    → Meets (Related r) (run_until allowed bus (routine_of m) s) (run_until permitted peer (routine_of m) t)

-- Two buses that answer alike at every lawful call run a routine alike to its end.
abbrev pub MirroredRunsMeet : Type 0 → Type 0 → Type 0 → Type 0
MirroredRunsMeet S T A = (r : S → T → Bool) (lawful : Call → S → Bool) (bus : Bus S) (peer : Bus T)
    → Mirrors (Related r) (PassesCall lawful) bus peer
    → (m : Tree A) (s : S) (t : T) → Related r s t → Along (PassesCall lawful) bus (routine_of m) s
    → (answer_in (run bus (routine_of m) s) ≡ answer_in (run peer (routine_of m) t))
    × Related r (state_in (run bus (routine_of m) s)) (state_in (run peer (routine_of m) t))

-- A run by a bus is a run by every relation that admits the bus's answers.
abbrev pub RunsAreAdmitted : Type 0 → Type 0 → Type 0
RunsAreAdmitted S A = (step : (c : Call) → S → Answer c → S → Bool) (bus : Bus S) → Admits (May step) bus
    → (m : Tree A) (s : S) → Runs (May step) (routine_of m) s (answer_in (run bus (routine_of m) s))
    (state_in (run bus (routine_of m) s))

-- A choosing bus that may follow each call may follow a routine.
abbrev pub RunsMayFollow : Type 0 → Type 0 → Type 0 → Type 0
RunsMayFollow S T A = (r : S → T → Bool) (lawful : Call → S → Bool) (bus : Bus S)
    (step : (c : Call) → T → Answer c → T → Bool) → MayFollow (Related r) (PassesCall lawful) bus (May step)
    → (m : Tree A) (s : S) (t : T) → Related r s t → Along (PassesCall lawful) bus (routine_of m) s
    → (u : T) × Runs (May step) (routine_of m) t (answer_in (run bus (routine_of m) s)) u
    × Related r (state_in (run bus (routine_of m) s)) u

-- Where a choosing bus has no choice along a run, each of its runs is that run.
abbrev pub RunsHaveNoChoice : Type 0 → Type 0 → Type 0 → Type 0
RunsHaveNoChoice S T A = (r : S → T → Bool) (p : Call → S → Bool) (bus : Bus S)
    (step : (c : Call) → T → Answer c → T → Bool) → NoChoice (Related r) (PassesCall p) bus (May step)
    → (m : Tree A) (s : S) (t : T) (a : A) (u : T) → Related r s t → Along (PassesCall p) bus (routine_of m) s
    → Runs (May step) (routine_of m) t a u
    → (answer_in (run bus (routine_of m) s) ≡ a) × Related r (state_in (run bus (routine_of m) s)) u

-- Two buses that agree along a run give one result.
abbrev pub RunsAgree : Type 0 → Type 0 → Type 0
RunsAgree S A = (bus peer : Bus S) (m : Tree A) (s : S) → Along (Agree bus peer) bus (routine_of m) s
    → run bus (routine_of m) s ≡ run peer (routine_of m) s

-- a bus that refuses calls: which calls are lawful, which are allowed, and which states are the same in what matters
pub record RefusingBus (S : Type 0) : Type 0 where
  pub same : S → S → Bool
  pub lawful : Call → S → Bool
  pub allowed : Call → S → Bool
  pub bus : Bus S

abbrev pub IsRefusing : {S : Type 0} → RefusingBus S → Type 0
IsRefusing x = Refuses (Related x.same) (PassesCall x.lawful) x.allowed x.bus

abbrev pub Telling : {S A E : Type 0}
    → RefusingBus S → (S → Bool) → Routine (Result A E) → (S → E → Bool) → (A → S → Bool) → Type 0
Telling x before m p after =
    Tells (Related x.same) (PassesCall x.lawful) x.allowed x.bus (Passes before) m (Says p) (After after)

abbrev pub Ending : {S A : Type 0} → RefusingBus S → (S → Bool) → Routine A → (A → S → Bool) → Type 0
Ending x before m after = Ends (PassesCall x.lawful) x.allowed x.bus (Passes before) m (After after)

-- what is known of a single call that can fault: it is this routine, and the bus gives it this answer
abbrev pub Calling : {S A : Type 0} → RefusingBus S → (S → Bool) → Call → (S → Result A Fault × S)
    → Routine (Result A Fault) → (S → Fault → Bool) → (A → S → Bool) → Type 0
Calling x before c answer m p after =
    Faulting (Related x.same) (PassesCall x.lawful c) (x.allowed c) answer (Passes before) m (Says p) (After after)

-- Over a bus that refuses what is not allowed, a single call tells, and one that has no fault ends.
pub record CallsTell {S : Type 0} (x : RefusingBus S) (before : S → Bool) (p : S → Fault → Bool) : Type 0 where
  pub a_fetch_tells : (space : Space) (at : ℕ) (after : ℕ → S → Bool) →
      let c = Fetch space at in let m = fetch space at in
      Calling x before c (x.bus c) m p after → Telling x before m p after
  pub a_read_tells : (space : Space) (piece : Piece) (after : ℕ → S → Bool) →
      let c = Read space piece in let m = read space piece in
      Calling x before c (x.bus c) m p after → Telling x before m p after
  pub a_write_tells : (space : Space) (piece : Piece) (value : ℕ) (after : Unit {0} → S → Bool) →
      let c = Write space piece value in let m = write space piece value in
      Calling x before c (x.bus c) m p after → Telling x before m p after
  pub a_line_read_tells : (space : Space) (at : ℕ) (after : List ℕ → S → Bool) →
      let c = ReadLine space at in let m = read_line space at in
      Calling x before c (x.bus c) m p after → Telling x before m p after
  pub a_line_write_tells : (space : Space) (at : ℕ) (line : List ℕ) (after : Unit {0} → S → Bool) →
      let c = WriteLine space at line in let m = write_line space at line in
      Calling x before c (x.bus c) m p after → Telling x before m p after
  pub a_probe_tells : (space : Space) (piece : Piece) (after : Place → S → Bool) →
      let c = Probe space piece in let m = probe space piece in
      Calling x before c (x.bus c) m p after → Telling x before m p after
  pub a_faultless_call_ends : (c : Call) (after : Answer c → S → Bool) → HasNoFault c
      → Faultless (PassesCall x.lawful) x.bus c (Passes before) (After after) → Ending x before (Ask c) after

abbrev pub RefusedCallsTell : Type 0 → Type 0
RefusedCallsTell S = (x : RefusingBus S) (before : S → Bool) (p : S → Fault → Bool) → IsRefusing x
    → CallsTell x before p

-- In states of an invariant that opens what is probed, an answered probe names an open place, and what is open is got
-- and put with no refusal.
pub record OpenedCallsEnd {S : Type 0} (x : RefusingBus S) (inside : S → Bool) (p : S → Fault → Bool) : Type 0 where
  pub a_probe_opens : (space : Space) (piece : Piece) → let c = Probe space piece in
      ((s : S) → Passes inside s → PassesCall x.lawful c s)
      → ((s u : S) (fault : Fault) → Passes inside s → x.allowed c s ≡ false → x.bus c s ≡ (Err fault, u)
      → Related x.same s u → IsTrue (p s fault))
      → Tells (Related x.same) (PassesCall x.lawful) x.allowed x.bus (Passes inside) (probe space piece) (Says p)
      (λ place s. Passes inside s × IsOpen (Passes inside) (PassesCall x.lawful) place × (place.len ≡ piece.len))
  pub an_open_get_ends : (place : Place) → IsOpen (Passes inside) (PassesCall x.lawful) place
      → Ending x inside (get place) (λ value s. inside s)
  pub an_open_put_ends : (place : Place) (value : ℕ) → IsOpen (Passes inside) (PassesCall x.lawful) place
      → Ending x inside (put place value) (λ done s. inside s)

abbrev pub ProbedPlacesAreOpen : Type 0 → Type 0
ProbedPlacesAreOpen S = (x : RefusingBus S) (inside : S → Bool) (p : S → Fault → Bool) → IsRefusing x
    → OpensProbed (Passes inside) (PassesCall x.lawful) x.bus → OpenedCallsEnd x inside p

-- What is put together of routines that tell, tells; and of routines that are never refused a call, is never refused
-- one.
pub record TellsTogether {S A B F : Type 0} (E : Type 0) (x : RefusingBus S) (before : S → Bool)
    (p : S → F → Bool) (mid : A → S → Bool) (after : B → S → Bool) : Type 0 where
  pub an_answer_tells : (b : B) → ((s : S) → Passes before s → After after b s)
      → Telling x before (Return (Ok b)) p after
  pub a_fault_tells : (f : F) → Telling x before (Return (Err f)) p after
  pub a_bind_tells : (m : Tree (Result A F)) (f : A → Tree (Result B F)) → Telling x before (routine_of m) p mid
      → ((a : A) → Telling x (mid a) (routine_of (f a)) p after)
      → Telling x before (routine_of m >>= λ a. routine_of (f a)) p after
  pub another_fault_tells : (value : E → F) (m : Tree (Result B E))
      → Telling x before (routine_of m) (λ s e. p s (value e)) after
      → Telling x before (failing value (routine_of m)) p after
  pub a_caught_fault_tells : (value : E → F) (m : Tree (Result A E)) (f : A → Tree (Result B F))
      → Telling x before (routine_of m) (λ s e. p s (value e)) mid
      → ((a : A) → Telling x (mid a) (routine_of (f a)) p after)
      → Telling x before (caught (routine_of m) (λ e. Return (Err (value e))) (λ a. routine_of (f a))) p after
  pub a_choice_tells : (b : Bool) (m n : Tree (Result B F)) → (b ≡ true → Telling x before (routine_of m) p after)
      → (b ≡ false → Telling x before (routine_of n) p after)
      → Telling x before (choose b (routine_of m) (routine_of n)) p after
  pub a_result_tells : (r : Result A F) (f : A → Tree (Result B F))
      → ((a : A) → r ≡ Ok a → Telling x before (routine_of (f a)) p after)
      → Telling x before (tried r (λ a. routine_of (f a))) p after
  pub either_result_tells : (r : Result A E) (g : E → Tree (Result B F)) (f : A → Tree (Result B F))
      → ((e : E) → r ≡ Err e → Telling x before (routine_of (g e)) p after)
      → ((a : A) → r ≡ Ok a → Telling x before (routine_of (f a)) p after)
      → Telling x before (either r (λ e. routine_of (g e)) (λ a. routine_of (f a))) p after
  pub what_follows_tells : (m : Tree A) (f : A → Tree (Result B F)) → Ending x before (routine_of m) mid
      → ((a : A) → Telling x (mid a) (routine_of (f a)) p after)
      → Telling x before (Then (routine_of m) (λ a. routine_of (f a))) p after
  pub a_sure_answer_tells : (m : Tree B) → Ending x before (routine_of m) after
      → Telling x before (sure (routine_of m)) p after
  pub less_is_told : (earlier : S → Bool) (q : S → F → Bool) (later : B → S → Bool) (m : Tree (Result B F))
      → Telling x before (routine_of m) p after
      → ((s : S) → Passes earlier s → Passes before s) → ((s : S) (f : F) → IsTrue (p s f) → IsTrue (q s f))
      → ((b : B) (s : S) → After after b s → After later b s) → Telling x earlier (routine_of m) q later
  pub an_answer_ends : (b : B) → ((s : S) → Passes before s → After after b s) → Ending x before (Return b) after
  pub a_choice_ends : (b : Bool) (m n : Tree B) → (b ≡ true → Ending x before (routine_of m) after)
      → (b ≡ false → Ending x before (routine_of n) after)
      → Ending x before (choose b (routine_of m) (routine_of n)) after
  pub what_follows_ends : (m : Tree A) (f : A → Tree B) → Ending x before (routine_of m) mid
      → ((a : A) → Ending x (mid a) (routine_of (f a)) after)
      → Ending x before (Then (routine_of m) (λ a. routine_of (f a))) after

abbrev pub RefusalsCompose : Type 0 → Type 0 → Type 0 → Type 0 → Type 0 → Type 0
RefusalsCompose S A B E F = (x : RefusingBus S) (before : S → Bool) (p : S → F → Bool) (mid : A → S → Bool)
    (after : B → S → Bool) → TellsTogether E x before p mid after

-- Of a bus that refuses calls, and one that is alike where calls are allowed, the runs of a routine that tells give one
-- answer, in related states. Or the first ends at once with its fault value, at a refused call, in a state that is the
-- same in what matters, and the second goes on with the rest.
abbrev pub RefusalsAreFollowed : Type 0 → Type 0 → Type 0 → Type 0 → Type 0
RefusalsAreFollowed S T A E = (r : S → T → Bool) (x : RefusingBus S) (permitted : Call → T → Bool) (peer : Bus T)
    (before : S → Bool) (p : S → E → Bool) (after : A → S → Bool)
    → Alike (Related r) (PassesCall x.lawful) x.allowed permitted x.bus peer
    → (m : Tree (Result A E)) → Telling x before (routine_of m) p after
    → (s : S) (t : T) → Related r s t → Passes before s
    → ((answer_in (run x.bus (routine_of m) s) ≡ answer_in (run peer (routine_of m) t))
    × Related r (state_in (run x.bus (routine_of m) s)) (state_in (run peer (routine_of m) t)))
    ⊎ ((rest : Tree (Result A E)) × (now : S) × (later : S) × (there : T) × (e : E)
    × Related r now there × Related x.same now later × IsTrue (p now e)
    × (run x.bus (routine_of m) s ≡ (Err e, later)) × (run peer (routine_of m) t ≡ run peer (routine_of rest) there))

-- which call stands for which, which there may be, and when answers say the same, by tests
pub record KinTests : Type 0 where
  pub on : Call → Call
  pub may_be : Call → Bool
  pub like : (d : Call) → Answer (on d) → Answer d → Bool

abbrev pub kin_of : KinTests → Kin
kin_of k = record { on = k.on; may_be = λ d. IsTrue (k.may_be d); like = λ d a b. IsTrue (k.like d a b) }

-- Over buses that are alike call by call, twins come equally far: to related ends, or to twin rests at the same refused
-- call, in related states.
abbrev pub TwinRunsMeet : Type 0 → Type 0 → Type 0 → Type 0 → Type 0
TwinRunsMeet S T A B = (k : KinTests) (r : S → T → Bool) (lawful allowed : Call → S → Bool)
    (permitted : Call → T → Bool) (bus : Bus S) (peer : Bus T)
    → AlikeOn (kin_of k) (Related r) (PassesCall lawful) allowed permitted bus peer
    → (same : A → B → Bool) (m : Tree A) (n : Tree B) → TwinTrees (kin_of k) (Related same) m n
    → (s : S) (t : T) → Related r s t → AlongUntil (PassesCall lawful) allowed bus (routine_of m) s
    → MeetsOn (kin_of k) (Related r) (Related same) (run_until allowed bus (routine_of m) s)
    (run_until permitted peer (routine_of n) t)

-- Where the first of two twins tells, both come to related ends, in related states. Or the first ends at once with its
-- fault value, at a refused call, in a state that is the same in what matters, and the second goes on with the twin of
-- the rest.
abbrev pub RefusedTwinsAreFollowed : Type 0 → Type 0 → Type 0 → Type 0 → Type 0 → Type 0
RefusedTwinsAreFollowed S T A B E = (k : KinTests) (r : S → T → Bool) (x : RefusingBus S) (permitted : Call → T → Bool)
    (peer : Bus T) (before : S → Bool) (p : S → E → Bool) (after : A → S → Bool)
    → AlikeOn (kin_of k) (Related r) (PassesCall x.lawful) x.allowed permitted x.bus peer
    → (same : Result A E → B → Bool) (m : Tree (Result A E)) (n : Tree B)
    → TwinTrees (kin_of k) (Related same) m n → Telling x before (routine_of m) p after
    → (s : S) (t : T) → Related r s t → Passes before s
    → (Related same (answer_in (run x.bus (routine_of m) s)) (answer_in (run peer (routine_of n) t))
    × Related r (state_in (run x.bus (routine_of m) s)) (state_in (run peer (routine_of n) t)))
    ⊎ ((rest : Tree (Result A E)) × (twin : Tree B) × (now : S) × (later : S) × (there : T) × (e : E)
    × TwinTrees (kin_of k) (Related same) rest twin
    × Related r now there × Related x.same now later × IsTrue (p now e)
    × (run x.bus (routine_of m) s ≡ (Err e, later)) × (run peer (routine_of n) t ≡ run peer (routine_of twin) there))
