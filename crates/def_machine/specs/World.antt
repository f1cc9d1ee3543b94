-- What the bus of a machine reads and changes.
use Rattle.std.specs.Prelude.{ℕ, ◌<◌, ◌^◌, List, All}
use Rattle.mb_port.specs.declared.types.Mmu.{Mmu}
use Rattle.mb_model.specs.Keeping.{KeptLists}
use Rattle.mb_devices.specs.Devices.{DeviceState}

pub record World : Type 0 where
  pub ram : List ℕ
  pub mmu : Mmu
  pub devices : DeviceState
  -- the translations that are kept
  pub kept : KeptLists

-- Memory is bytes.
pub record HasBytes (w : World) : Type 0 where
  pub bytes : All (λ byte. byte < 2 ^ 8) w.ram
