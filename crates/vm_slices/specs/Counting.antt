-- What boards count of the steps of a session's guests.
use Rattle.std.specs.Prelude.{◌≡◌, ℕ, ◌+◌, ◌*◌, ◌^◌, ◌<◌, ◌≤◌, List, [], ◌∷◌}
use Rattle.mb_instr.specs.declared.registers.Plain.{Plain}
use Rattle.def_runs.specs.Marks.{trail}
use Rattle.def_runs.specs.Native.{NativeState}
use Rattle.def_guests.specs.Turns.{exits}
use Rattle.def_guests.specs.Rounds.{Member}

-- the retired steps of all guests
abbrev pub retired_by : List Member → ℕ
retired_by [] = 0
retired_by (m ∷ members) = m.tally.retired + retired_by members

-- and those that the board left by an exception
abbrev pub exits_by : List Member → ℕ
exits_by [] = 0
exits_by (m ∷ members) = exits m.tally + exits_by members

-- and all of their steps
abbrev pub steps_by : List Member → ℕ
steps_by [] = 0
steps_by (m ∷ members) = m.guest.machine.steps + steps_by members

-- From some guests to them after some turns, whose retired steps have these marks, and of which boards leave steps by
-- so many exceptions.
pub record AreCounted (before after : List Member) (marks : List Plain) (left_times : ℕ) (old new : NativeState) :
    Type 0 where
  -- boards have carried out the retired steps
  pub retired : new.retired + retired_by before ≡ old.retired + retired_by after
  pub trail : new.trail ≡ trail old.trail marks
  -- and left steps by exactly so many exceptions:
  pub exceptions : new.exceptions ≡ old.exceptions + left_times
  -- one or more for each privileged, trapped and denied step,
  pub least : old.exceptions + exits_by after ≤ new.exceptions + exits_by before
  -- and no more than 32 for each step that was taken
  pub most : new.exceptions + 32 * steps_by before ≤ old.exceptions + 32 * steps_by after

-- So many steps more can be counted, each with as many exceptions as it may begin again by, and one more.
abbrev pub HasRoom : ℕ → NativeState → Type 0
HasRoom steps native = (native.retired + steps < 2 ^ 62) × (native.exceptions + 32 * steps < 2 ^ 62)

-- Counted are no more steps than are fewer left, each with as many exceptions as it may begin again by, and one more.
abbrev pub RisesBy : (left left_after : ℕ) → NativeState → NativeState → Type 0
RisesBy left left_after old new = (new.retired + left_after ≤ old.retired + left)
    × (new.exceptions + 32 * left_after ≤ old.exceptions + 32 * left)
