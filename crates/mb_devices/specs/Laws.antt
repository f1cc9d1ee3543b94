-- What holds of ticks.
use Rattle.std.specs.Prelude.{◌≡◌, ℕ}
use Rattle.mb_devices.specs.Devices.{DeviceState, ticks, IsNotDue, passed, level_of}

-- So many ticks are one subtraction, and the same interrupt level is asked for.
pub record Passes (n : ℕ) (d : DeviceState) : Type 0 where
  pub at_once : ticks n d ≡ passed n d
  pub level : level_of (passed n d) ≡ level_of d

-- It is so where the timer does not come to 0.
abbrev pub TicksPass : Type 0
TicksPass = (n : ℕ) (d : DeviceState) → IsNotDue n d → Passes n d
