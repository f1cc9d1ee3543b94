-- Steps of a guest that a board may carry out in one run: nothing arrives at them.
use Rattle.std.specs.Prelude.{◌≡◌, ℕ, ◌+◌, ◌<◌, ◌≤◌, false}
use Rattle.mb_devices.specs.Devices.{DeviceState}
use Rattle.def_machine.specs.Machine.{Entries, arrived, aborts}

-- Nothing arrives at a step: no byte, and no abort.
pub record IsQuietAt (script : Entries) (step : ℕ) : Type 0 where
  pub devices : (d : DeviceState) → arrived step script d ≡ d
  pub unaborted : aborts step script ≡ false

-- At none of so many steps behind the first `taken` does anything arrive.
abbrev pub NothingArrives : Entries → (taken n : ℕ) → Type 0
NothingArrives script taken n = (k : ℕ) → taken < k → k ≤ taken + n → IsQuietAt script k
