-- Reads and writes of a physical piece, by whether it lies in RAM.
use Rattle.std.proofs.Common.{◌≡◌, ℕ, ◌||◌, Bool, true, false, refl, List, length, if◌then◌else◌}
use Rattle.std.specs.Prelude.{Option, Some, None, is_some}
use Rattle.mb_port.specs.declared.types.Place.{Place}
use Rattle.mb_devices.specs.declared.register.Register.{Register}
use Rattle.mb_devices.specs.Devices.{DeviceState}
use Rattle.mb_devices.specs.Registers.{register_at, read_register, read_of, write_register, write_of}
use Rattle.mb_walk.specs.Memory.{number_at, with_number}
use Rattle.def_machine.specs.World.{World}
use Rattle.def_machine.specs.Places.{in_ram, memory, among_registers, taken, taken_at, stored, stored_at, takes_writes, is_somewhere}

-- the world after its devices did something, with what they answered
abbrev pub read_devices : World → Option ℕ × DeviceState → Option ℕ × World
read_devices w answer = (answer.0, record w { devices = answer.1 })

abbrev pub wrote_devices : World → Option (Unit {0}) × DeviceState → Option World
wrote_devices w (Some done, devices) = Some (record w { devices = devices })
wrote_devices w (None, devices) = None

pub taken_memory : (w : World) (place : Place) → in_ram (length w.ram) place.at place.len ≡ true
    → taken place w ≡ (Some (number_at w.ram place.at place.len), w)
taken_memory w place h = rw h refl

pub stored_memory : (w : World) (place : Place) (value : ℕ) → in_ram (length w.ram) place.at place.len ≡ true
    → stored place value w ≡ Some (record w { ram = with_number w.ram place.at place.len value })
stored_memory w place value h = rw h refl

among_wrote : (o : Option Register) (w : World) (place : Place) (value : ℕ)
    → stored_at (among_registers o) place value w ≡ wrote_devices w (write_register o value w.devices)
among_wrote (Some r) w place value = refl
among_wrote None w place value = refl

pub stored_register : (w : World) (place : Place) (value : ℕ) → in_ram (length w.ram) place.at place.len ≡ false
    → stored place value w ≡ wrote_devices w (write_of place value w.devices)
stored_register w place value h = rw h (among_wrote (register_at w.devices place) w place value)

pub takes_memory : (w : World) (place : Place) → in_ram (length w.ram) place.at place.len ≡ true → takes_writes w place ≡ true
takes_memory w place h = rw h refl

-- ---- the same of any place, by RAM and devices alone

-- the world after RAM and devices did something
abbrev pub wrote_both : World → List ℕ → Option (Unit {0}) × DeviceState → Option World
wrote_both w ram (Some done, devices) = Some (record w { ram = ram; devices = devices })
wrote_both w ram (None, devices) = None

read_either : (b : Bool) (o : Option Register) (w : World) (place : Place) → taken_at (if b then memory else among_registers o) place w
    ≡ read_devices w (if b then (Some (number_at w.ram place.at place.len), w.devices) else read_register o w.devices)
read_either true o w place = refl
read_either false (Some r) w place = refl
read_either false None w place = refl

pub taken_is : (w : World) (place : Place) → taken place w
    ≡ read_devices w (if in_ram (length w.ram) place.at place.len then (Some (number_at w.ram place.at place.len), w.devices) else read_of place w.devices)
taken_is w place = read_either (in_ram (length w.ram) place.at place.len) (register_at w.devices place) w place

wrote_either : (b : Bool) (o : Option Register) (w : World) (place : Place) (value : ℕ)
    → stored_at (if b then memory else among_registers o) place value w
    ≡ wrote_both w (if b then with_number w.ram place.at place.len value else w.ram) (if b then (Some tt, w.devices) else write_register o value w.devices)
wrote_either true o w place value = refl
wrote_either false (Some r) w place value = refl
wrote_either false None w place value = refl

pub stored_is : (w : World) (place : Place) (value : ℕ) → stored place value w
    ≡ wrote_both w (if in_ram (length w.ram) place.at place.len then with_number w.ram place.at place.len value else w.ram)
    (if in_ram (length w.ram) place.at place.len then (Some tt, w.devices) else write_of place value w.devices)
stored_is w place value = wrote_either (in_ram (length w.ram) place.at place.len) (register_at w.devices place) w place value

takes_either : (b : Bool) (o : Option Register) → is_somewhere (if b then memory else among_registers o) ≡ (b || is_some o)
takes_either true o = refl
takes_either false (Some r) = refl
takes_either false None = refl

pub takes_is : (w : World) (place : Place) → takes_writes w place ≡ (in_ram (length w.ram) place.at place.len || is_some (register_at w.devices place))
takes_is w place = takes_either (in_ram (length w.ram) place.at place.len) (register_at w.devices place)

pub ruleset places = (taken_is, stored_is, takes_is)
