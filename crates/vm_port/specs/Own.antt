-- A guest in a part of a board's memory, with its own frames.
use Rattle.std.specs.Prelude.{◌≡◌, ℕ, List, [], ◌∷◌}
use Rattle.mb_port.specs.declared.types.Mmu.{Mmu}
use Rattle.mb_model.specs.declared.kept.Kept.{Kept}
use Rattle.mb_walk.specs.Memory.{part}
use Rattle.mb_devices.specs.Devices.{DeviceState}
use Rattle.vm_shadow.specs.Slots.{Slots}
use Rattle.vm_shadow.specs.Shadows.{Shadowed}
use Rattle.vm_shadow.specs.Mapped.{shadowed}
use Rattle.def_guests.specs.Seats.{own, on_board}
use Rattle.def_guests.specs.Guests.{Guest}

-- each entry of a board's tables leads to the guest's part
abbrev pub IsPlaced : ℕ → Shadowed → Type 0
IsPlaced base shadow = shadow ≡ on_board base (own base shadow)

-- The guest whose RAM is so many bytes of a board's memory from a base on, whose shadow stands in the tables behind.
abbrev pub guest_in : ℕ → ℕ → List ℕ → Slots → Mmu → DeviceState → List Kept → Guest
guest_in base size ram slots mmu devices kept = record {
  world = record { ram = part ram base size; mmu = mmu; devices = devices; kept = kept ∷ [] };
  shadow = own base (shadowed slots ram);
}
