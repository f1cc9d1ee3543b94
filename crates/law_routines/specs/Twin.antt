-- Twins: two routines that make calls of one kind, as the same routine in two spaces, or with places that are moved.
use Rattle.std.specs.Prelude.{◌≡◌, Bool, true, false, Some, Result, Ok, Err}
use Rattle.mb_port.specs.Routine.{Call, Answer, Routine, Return, Ask, Then, Bus, run, answer_in, state_in}
use Rattle.law_routines.specs.Until.{Until, Ended, Stopped, first_call}
use Rattle.law_routines.specs.Refusal.{Fact}
use Rattle.law_routines.specs.Tree.{Tree, Done, Do, tree_of}

-- How the calls of two buses correspond: which call of the first stands for a call of the second, which calls of the
-- second there may be, and when two answers say the same.
pub record Kin : Type 1 where
  pub on : Call → Call
  pub may_be : Call → Type 0
  pub like : (d : Call) → Answer (on d) → Answer d → Type 0

-- The first routine makes the calls that stand for the calls of the second, and their ends are related. Whatever like
-- answers they get, they stay twins.
pub data Twin (k : Kin) : (A B : Type 0) → (A → B → Type 0) → Routine A → Routine B → Type 1 where
  returned : {A B : Type 0} {Rel : A → B → Type 0} {a : A} {b : B} → Rel a b → Twin k A B Rel (Return a) (Return b)
  asked : (d : Call) → k.may_be d → Twin k (Answer (k.on d)) (Answer d) (k.like d) (Ask (k.on d)) (Ask d)
  followed : {A B C D : Type 0} {Rel : A → B → Type 0} {Next : C → D → Type 0}
      {m : Routine A} {n : Routine B} {f : A → Routine C} {g : B → Routine D}
      → Twin k A B Rel m n → ((a : A) (b : B) → Rel a b → Twin k C D Next (f a) (g b))
      → Twin k C D Next (Then m f) (Then n g)

-- the same of trees of calls
pub data TwinTrees (k : Kin) {A B : Type 0} (Rel : A → B → Type 0) : Tree A → Tree B → Type 0 where
  done : {a : A} {b : B} → Rel a b → TwinTrees k Rel (Done a) (Done b)
  call : (d : Call) {f : Answer (k.on d) → Tree A} {g : Answer d → Tree B} → k.may_be d
      → ((a : Answer (k.on d)) (b : Answer d) → k.like d a b → TwinTrees k Rel (f a) (g b))
      → TwinTrees k Rel (Do (k.on d) f) (Do d g)

-- On related states a lawful call of the first is allowed where the call that it stands for is permitted. There both
-- answer the same, and keep the relation.
pub record AlikeOn {S T : Type 0} (k : Kin) (R : S → T → Type 0) (lawful : Call → S → Type 0)
    (allowed : Call → S → Bool) (permitted : Call → T → Bool) (bus : Bus S) (peer : Bus T) : Type 0 where
  pub leave : (d : Call) (s : S) (t : T) → R s t → k.may_be d → lawful (k.on d) s → allowed (k.on d) s ≡ permitted d t
  pub answer : (d : Call) (s : S) (t : T) → R s t → k.may_be d → lawful (k.on d) s → allowed (k.on d) s ≡ true
      → k.like d (answer_in (bus (k.on d) s)) (answer_in (peer d t))
  pub kept : (d : Call) (s : S) (t : T) → R s t → k.may_be d → lawful (k.on d) s → allowed (k.on d) s ≡ true
      → R (state_in (bus (k.on d) s)) (state_in (peer d t))

-- Both came equally far: to related ends, or to rests that are twins, in related states.
pub data MetOn {S T A B : Type 0} (k : Kin) (R : S → T → Type 0) (Rel : A → B → Type 0)
    : Until S A → Until T B → Type 1 where
  ended_on : {a : A} {b : B} {s : S} {t : T} → Rel a b → R s t → MetOn k R Rel (Ended a s) (Ended b t)
  stopped_on : {m : Routine A} {n : Routine B} {s : S} {t : T} → Twin k A B Rel m n → R s t
      → MetOn k R Rel (Stopped m s) (Stopped n t)

-- the same in Type 0, with the rests by their calls
abbrev pub MeetsOn : {S T A B : Type 0} → Kin → (S → T → Type 0) → (A → B → Type 0) → Until S A → Until T B → Type 0
MeetsOn k R Rel (Ended a s) (Ended b t) = Rel a b × R s t
MeetsOn k R Rel (Ended a s) (Stopped n t) = ⊥
MeetsOn k R Rel (Stopped m s) (Ended b t) = ⊥
MeetsOn k R Rel (Stopped m s) (Stopped n t) = TwinTrees k Rel (tree_of m) (tree_of n) × R s t

-- How the run of a routine by one bus stands to the run of its twin by another, where the first refuses some calls.
--
-- Either both came to related ends, in related states. Or the first was refused a call, in a state that is related to
-- the other's there: it ended at once with a fault value of which the fact holds, in a state that is the same in what
-- matters, and the other's run goes on with the twin of the rest.
pub data FollowsOn {S T A B E : Type 0} (k : Kin) (Same : S → S → Type 0) (R : S → T → Type 0)
    (allowed : Call → S → Bool) (bus : Bus S) (peer : Bus T) (fact : Fact S A E) (Rel : Result A E → B → Type 0)
    (m : Routine (Result A E)) (n : Routine B) (s : S) (t : T) : Type 1 where
  together_on : Rel (answer_in (run bus m s)) (answer_in (run peer n t))
      → R (state_in (run bus m s)) (state_in (run peer n t))
      → FollowsOn k Same R allowed bus peer fact Rel m n s t
  refused_on : (rest : Routine (Result A E)) (twin : Routine B) (now later : S) (there : T) (c : Call) (e : E)
      → Twin k (Result A E) B Rel rest twin → R now there
      → first_call rest ≡ Some c → allowed c now ≡ false → fact rest now e
      → run bus m s ≡ (Err e, later) → Same now later → run peer n t ≡ run peer twin there
      → FollowsOn k Same R allowed bus peer fact Rel m n s t

-- two results that say the same: answers that are related, or faults that are
abbrev pub Results : {A B E F : Type 0} → (A → B → Type 0) → (E → F → Type 0) → Result A E → Result B F → Type 0
Results Well Ill (Ok a) (Ok b) = Well a b
Results Well Ill (Ok a) (Err f) = ⊥
Results Well Ill (Err e) (Ok b) = ⊥
Results Well Ill (Err e) (Err f) = Ill e f
