-- Routines over a bus that may choose.
use Rattle.std.specs.Prelude.{◌≡◌}
use Rattle.mb_port.specs.Routine.{Call, Answer, Routine, Return, Ask, Then, Bus, run, answer_in, state_in}

-- which answers and next states a call may have
abbrev pub Steps : Type 0 → Type 1
Steps S = (c : Call) → S → Answer c → S → Type 0

-- which answers and last states a routine may have
abbrev pub Runs : {S A : Type 0} → Steps S → Routine A → S → A → S → Type 0
Runs step (Return a) s b t = (a ≡ b) × (s ≡ t)
Runs step (Ask c) s b t = step c s b t
Runs {S = S} step (Then {A = A} m f) s b t = (a : A) × (u : S) × Runs step m s a u × Runs step (f a) u b t

-- A fact holds at each call of the run.
abbrev pub Along : {S A : Type 0} → (Call → S → Type 0) → Bus S → Routine A → S → Type 0
Along P bus (Return a) s = Unit {0}
Along P bus (Ask c) s = P c s
Along P bus (Then m f) s = Along P bus m s × (let (answer, after) = run bus m s in Along P bus (f answer) after)

-- The relation admits what the bus answers.
pub record Admits {S : Type 0} (step : Steps S) (bus : Bus S) : Type 0 where
  pub call : (c : Call) (s : S) → step c s (answer_in (bus c s)) (state_in (bus c s))

-- Whatever the bus does at a lawful call, the choosing bus may do too, on related states.
pub record MayFollow {S T : Type 0} (R : S → T → Type 0) (lawful : Call → S → Type 0) (bus : Bus S)
    (step : Steps T) : Type 0 where
  pub call : (c : Call) (s : S) (t : T) → R s t → lawful c s
      → (u : T) × step c t (answer_in (bus c s)) u × R (state_in (bus c s)) u

-- Where the fact holds the choosing bus has no choice: it does what the bus does, on related states.
pub record NoChoice {S T : Type 0} (R : S → T → Type 0) (P : Call → S → Type 0) (bus : Bus S) (step : Steps T) : Type 0
  where
    pub call : (c : Call) (s : S) (t : T) (a : Answer c) (u : T) → R s t → P c s → step c t a u
        → (answer_in (bus c s) ≡ a) × R (state_in (bus c s)) u

-- Both buses do the same at this call.
abbrev pub Agree : {S : Type 0} → Bus S → Bus S → Call → S → Type 0
Agree bus peer c s = bus c s ≡ peer c s
