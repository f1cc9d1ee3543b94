-- Physical places: RAM from address 0 on, and the registers of the devices.
use Rattle.std.specs.Prelude.{ℕ, ◌+◌, ◌≡◌, Bool, true, false, List, [], ◌∷◌, length, nat_le}
use Rattle.std.specs.Prelude.{Option, Some, None, if◌then◌else◌, take}
use Rattle.mb_port.specs.declared.types.Place.{Place}
use Rattle.mb_devices.specs.declared.register.Register.{Register}
use Rattle.mb_devices.specs.Registers.{register_row, register_at}
use Rattle.mb_walk.specs.Memory.{number_at, with_number}
use Rattle.def_machine.specs.World.{World}

-- so many bytes from a place on lie in RAM of this size
abbrev pub in_ram : ℕ → ℕ → ℕ → Bool
in_ram size at len = nat_le (at + len) size

-- where a physical piece stands: RAM holds the whole of it, a register is of just its address and size, or nothing is
-- there
pub data Stand : Type 0 where
  memory : Stand
  register : Register → Stand
  nowhere : Stand

abbrev pub among_registers : Option Register → Stand
among_registers (Some r) = register r
among_registers None = nowhere

abbrev pub stand_of : World → Place → Stand
stand_of w place =
    if in_ram (length w.ram) place.at place.len then memory else among_registers (register_at w.devices place)

-- what reading there answers, with the world after it
abbrev pub taken_at : Stand → Place → World → Option ℕ × World
taken_at memory place w = (Some (number_at w.ram place.at place.len), w)
taken_at (register r) place w =
    (Some ((register_row r).value w.devices), record w { devices = (register_row r).after_read w.devices })
taken_at nowhere place w = (None, w)

-- the world after writing there
abbrev pub stored_at : Stand → Place → ℕ → World → Option World
stored_at memory place value w = Some (record w { ram = with_number w.ram place.at place.len value })
stored_at (register r) place value w = Some (record w { devices = (register_row r).written value w.devices })
stored_at nowhere place value w = None

-- a read and a write of a physical piece, wherever it stands
abbrev pub taken : Place → World → Option ℕ × World
taken place w = taken_at (stand_of w place) place w

abbrev pub stored : Place → ℕ → World → Option World
stored place value w = stored_at (stand_of w place) place value w

-- The world is what the write makes of it, or nothing took the write and it is as before.
abbrev pub Stores : Option World → World → World → Option (Unit {0}) → Type 0
Stores after old new (Some done) = after ≡ Some new
Stores after old new None = (after ≡ None) × (new ≡ old)

abbrev pub is_somewhere : Stand → Bool
is_somewhere memory = true
is_somewhere (register r) = true
is_somewhere nowhere = false

-- what takes a write
abbrev pub takes_writes : World → Place → Bool
takes_writes w place = is_somewhere (stand_of w place)

-- a piece that is checked for writing: its place, where something takes a write there
abbrev pub checked : Place → World → Option Place × World
checked place w = ((if takes_writes w place then Some place else None), w)

-- ---- a line of 16 bytes: four longs, in RAM alone

abbrev pub line_at : List ℕ → ℕ → List ℕ
line_at ram at =
    number_at ram at 4 ∷ number_at ram (at + 4) 4 ∷ number_at ram (at + 8) 4 ∷ number_at ram (at + 12) 4 ∷ []

-- memory with longs from a place on
abbrev pub with_longs : List ℕ → ℕ → List ℕ → List ℕ
with_longs ram at [] = ram
with_longs ram at (value ∷ values) = with_longs (with_number ram at 4 value) (at + 4) values

abbrev pub taken_line : Place → World → Option (List ℕ) × World
taken_line place w = ((if in_ram (length w.ram) place.at place.len then Some (line_at w.ram place.at) else None), w)

-- a line has no more than its four longs
abbrev pub stored_line : Place → List ℕ → World → Option World
stored_line place line w =
    if in_ram (length w.ram) place.at place.len
    then Some (record w { ram = with_longs w.ram place.at (take 4 line) }) else None
