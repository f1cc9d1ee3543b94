-- Two buses that answer alike on related states.
use Rattle.std.specs.Prelude.{◌≡◌, Bool, true}
use Rattle.mb_port.specs.Routine.{Call, Routine, Bus, answer_in, state_in}
use Rattle.law_routines.specs.Until.{Until, Ended, Stopped}
use Rattle.law_routines.specs.Tree.{tree_of}

-- On related states a lawful call is allowed on both sides or on neither. Where it is, both answer alike, and keep the
-- relation. Lawful are the calls that routines make: of other calls nothing is asked.
pub record Alike {S T : Type 0} (R : S → T → Type 0) (lawful : Call → S → Type 0) (allowed : Call → S → Bool)
    (permitted : Call → T → Bool)
    (bus : Bus S) (peer : Bus T) : Type 0 where
  pub leave : (c : Call) (s : S) (t : T) → R s t → lawful c s → allowed c s ≡ permitted c t
  pub answer : (c : Call) (s : S) (t : T) → R s t → lawful c s → allowed c s ≡ true
      → answer_in (bus c s) ≡ answer_in (peer c t)
  pub kept : (c : Call) (s : S) (t : T) → R s t → lawful c s → allowed c s ≡ true
      → R (state_in (bus c s)) (state_in (peer c t))

-- Both came equally far: to the same end, or to the same rest, in related states.
pub data Met {S T A : Type 0} (R : S → T → Type 0) : Until S A → Until T A → Type 1 where
  ended : {a : A} {s : S} {t : T} → R s t → Met R (Ended a s) (Ended a t)
  stopped : {rest : Routine A} {s : S} {t : T} → R s t → Met R (Stopped rest s) (Stopped rest t)

-- the same in Type 0, with the rest by its calls
abbrev pub Meets : {S T A : Type 0} → (S → T → Type 0) → Until S A → Until T A → Type 0
Meets R (Ended a s) (Ended b t) = (a ≡ b) × R s t
Meets R (Ended a s) (Stopped n t) = ⊥
Meets R (Stopped m s) (Ended b t) = ⊥
Meets R (Stopped m s) (Stopped n t) = (tree_of m ≡ tree_of n) × R s t

-- On related states both answer alike at each lawful call, and keep the relation.
pub record Mirrors {S T : Type 0} (R : S → T → Type 0) (lawful : Call → S → Type 0) (bus : Bus S) (peer : Bus T) : Type
    0 where
  pub answer : (c : Call) (s : S) (t : T) → R s t → lawful c s → answer_in (bus c s) ≡ answer_in (peer c t)
  pub kept : (c : Call) (s : S) (t : T) → R s t → lawful c s → R (state_in (bus c s)) (state_in (peer c t))
