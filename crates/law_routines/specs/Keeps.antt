-- What each call of a bus keeps.
use Rattle.std.specs.Prelude.{◌≡◌, Bool, true}
use Rattle.mb_port.specs.Routine.{Call, Bus, state_in}

-- Each call keeps a fact of the state.
pub record Keeps {S : Type 0} (P : S → Type 0) (bus : Bus S) : Type 0 where
  pub call : (c : Call) (s : S) → P s → P (state_in (bus c s))

-- Each lawful call that is allowed keeps it.
pub record KeepsAllowed {S : Type 0} (P : S → Type 0) (lawful : Call → S → Type 0) (allowed : Call → S → Bool)
    (bus : Bus S) : Type 0 where
  pub call : (c : Call) (s : S) → lawful c s → allowed c s ≡ true → P s → P (state_in (bus c s))

-- Each call leaves a part of the state alone.
pub record LeavesAlone {S N : Type 0} (part : S → N) (bus : Bus S) : Type 0 where
  pub call : (c : Call) (s : S) → part (state_in (bus c s)) ≡ part s

-- a bus beside something that it leaves alone
abbrev pub lifted : {S N : Type 0} → Bus S → Bus (S × N)
lifted bus c (s, beside) = let (answer, after) = bus c s in (answer, (after, beside))
