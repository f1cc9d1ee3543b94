-- What happens to the devices leaves the size of RAM that they show.
use Rattle.std.proofs.Common.{◌≡◌, ◌∙◌, ◌==◌, ◌-◌, ℕ, true, false, Bool, refl, ap}
use Rattle.std.specs.Prelude.{Option, Some, None, is_some, option_map, nat_lt, length, if◌then◌else◌}
use Rattle.vm_disk.specs.Disk.{DiskState, rested}
use Rattle.mb_port.specs.declared.types.Place.{Place}
use Rattle.mb_devices.specs.declared.register.Register.{Register}
use Rattle.mb_devices.specs.declared.register.Register.TheVariants.{Data, Status, Ctrl, Period, Count, Ack, Power, Size, Disk}
use Rattle.mb_devices.specs.Devices.{DeviceState, built, timer_counted, idle, reset_of, restarted, sent, ticked}
use Rattle.mb_devices.specs.declared.devices.TheConstants.{CONSOLE_ROOM}
use Rattle.mb_devices.specs.Registers.{powered, read_of, read_register, register_at, write_of, write_register}

-- of two outcomes that show one size, either does
size-either : (first : Bool) (a b d : DeviceState) → a.ram ≡ d.ram → b.ram ≡ d.ram → (if first then a else b).ram ≡ d.ram
size-either true a b d e f = e
size-either false a b d e f = f

size-sent : (byte : ℕ) (d : DeviceState) → (sent byte d).ram ≡ d.ram
size-sent byte d = size-either (nat_lt (length d.console) CONSOLE_ROOM) _ _ d refl refl

size-powered : (value : ℕ) (d : DeviceState) → (powered value d).ram ≡ d.ram
size-powered value d = size-either (value == 1) _ _ d refl refl

size-counted : (d : DeviceState) → (timer_counted d).ram ≡ d.ram
size-counted d = size-either (d.count - 1 == 0) _ _ d refl refl

pub size-ticked : (d : DeviceState) → (ticked d).ram ≡ d.ram
unfolding ticked
size-ticked d = size-either (d.period == 0) d (timer_counted d) d refl (size-counted d)

pub size-idle : (ram : ℕ) → (idle ram).ram ≡ ram
size-idle ram = refl

pub size-reset : (d : DeviceState) → (reset_of d).ram ≡ d.ram
size-reset d = refl

pub size-restarted : (d : DeviceState) → (restarted d).ram ≡ d.ram
size-restarted d = refl

-- what is idle is begun again as it is
pub restarted-idle : (ram : ℕ) → restarted (idle ram) ≡ idle ram
restarted-idle ram = refl

size-read_register : (r : Option Register) (d : DeviceState) → (read_register r d).1.ram ≡ d.ram
size-read_register None d = refl
size-read_register (Some Data) d = refl
size-read_register (Some Status) d = refl
size-read_register (Some Ctrl) d = refl
size-read_register (Some Period) d = refl
size-read_register (Some Count) d = refl
size-read_register (Some Ack) d = refl
size-read_register (Some Power) d = refl
size-read_register (Some Size) d = refl
size-read_register (Some (Disk r)) d = refl

size-write_register : (r : Option Register) (value : ℕ) (d : DeviceState) → (write_register r value d).1.ram ≡ d.ram
size-write_register None value d = refl
size-write_register (Some Data) value d = size-sent _ d
size-write_register (Some Status) value d = refl
size-write_register (Some Ctrl) value d = refl
size-write_register (Some Period) value d = refl
size-write_register (Some Count) value d = refl
size-write_register (Some Ack) value d = refl
size-write_register (Some Power) value d = size-powered value d
size-write_register (Some Size) value d = refl
size-write_register (Some (Disk r)) value d = refl

pub size-read : (place : Place) (d : DeviceState) → (read_of place d).1.ram ≡ d.ram
size-read place d = size-read_register (register_at d place) d

pub size-write : (place : Place) (value : ℕ) (d : DeviceState) → (write_of place value d).1.ram ≡ d.ram
size-write place value d = size-write_register (register_at d place) value d

none_mapped : (o : Option DiskState) → is_some o ≡ false → option_map rested o ≡ None
none_mapped None h = refl
none_mapped (Some d) h = absurd (cc)

-- and so is what has no disk
pub restarted-diskless : (ram : ℕ) (d : DeviceState) → built d ≡ (ram, false) → restarted d ≡ idle ram
restarted-diskless ram d h =
    ap (λ (n : ℕ). restarted (record d { ram = n })) (ap (λ (p : ℕ × Bool). p.0) h)
    ∙ ap (λ (o : Option DiskState). record (idle ram) { disk = o }) (none_mapped d.disk (ap (λ (p : ℕ × Bool). p.1) h))

pub ruleset sizes = (size-idle, size-ticked, size-reset, size-restarted, size-read, size-write, restarted-idle)
