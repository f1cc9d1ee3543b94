-- Guests of which one has other devices.
use Rattle.std.specs.Prelude.{ℕ, zero, suc, List, [], ◌∷◌}
use Rattle.mb_devices.specs.Devices.{DeviceState}
use Rattle.vm_slices.specs.declared.host_guest.HostGuest.{HostGuest}

-- a guest with these devices, all else as it was
abbrev pub with_devices : DeviceState → HostGuest → HostGuest
with_devices devices g = record g { guest = record g.guest { devices = devices } }

-- the one at a place has them
abbrev pub with_devices_at : (place : ℕ) → DeviceState → List HostGuest → List HostGuest
with_devices_at place devices [] = []
with_devices_at zero devices (g ∷ guests) = with_devices devices g ∷ guests
with_devices_at (suc place) devices (g ∷ guests) = g ∷ with_devices_at place devices guests
