-- The registers of the devices: where each stands, what reading it gives and what writing it does.
use Rattle.std.specs.Prelude.{ℕ, ◌+◌, ◌*◌, ◌%◌, ◌^◌, ◌==◌, ◌&&◌, Bool, true, false, List, [], ◌∷◌, if◌then◌else◌}
use Rattle.std.specs.Prelude.{Option, Some, None, option_map}
use Rattle.std.specs.List.{find}
use Rattle.std.specs.Option.{option_or}
use Rattle.std.specs.Int.{from_bool}
use Rattle.mb_port.specs.declared.types.Place.{Place}
use Rattle.mb_devices.specs.declared.register.Register.{Register}
use Rattle.mb_devices.specs.declared.register.Register.TheVariants.{Data, Status, Ctrl, Period, Count, Ack, Power, Size, Disk}
use Rattle.vm_disk.specs.declared.register.DiskRegister.TheVariants as disk
use Rattle.vm_disk.specs.Disk.{DiskState}
use Rattle.vm_disk.specs.Registers.{DiskRow, disk_row}
use Rattle.mb_devices.specs.Devices.{DeviceState, has_received, oldest, sent, started, without_oldest}
use Rattle.mb_devices.specs.declared.register.TheConstants.{BASE}

pub record DeviceRow : Type 0 where
  -- its place behind the base, and how many bytes it has
  pub offset : ℕ
  pub size : ℕ
  -- its value, and what reading it leaves
  pub value : DeviceState → ℕ
  pub after_read : DeviceState → DeviceState
  -- what writing a value leaves
  pub written : ℕ → DeviceState → DeviceState

-- STATUS: bit 0 a byte is received, bit 1 always set, bit 2 overrun
abbrev pub status_of : DeviceState → ℕ
status_of d = from_bool (has_received d) + 2 + 4 * from_bool d.overrun

-- the value 1 switches off, every other is ignored
abbrev pub powered : ℕ → DeviceState → DeviceState
powered value d = if value == 1 then record d { off = true } else d

abbrev pub unchanged : DeviceState → DeviceState
unchanged d = d

abbrev pub ignored : ℕ → DeviceState → DeviceState
ignored value d = d

abbrev pub register : (offset size : ℕ) → (value : DeviceState → ℕ) → (after_read : DeviceState → DeviceState)
    → (written : ℕ → DeviceState → DeviceState) → DeviceRow
register offset size value after_read written =
    record { offset = offset; size = size; value = value; after_read = after_read; written = written }

-- a register of the disk; where none is attached it does not stand
abbrev pub value_on : DiskRow → Option DiskState → ℕ
value_on row None = 0
value_on row (Some d) = row.value d

abbrev pub on_disk : DiskRow → DeviceRow
on_disk row = register row.offset 4
    (λ d. value_on row d.disk)
    (λ d. record d { disk = option_map row.after_read d.disk })
    (λ value d. record d { disk = option_map (row.written value) d.disk })

-- the table: a line a register
abbrev pub register_row : Register → DeviceRow
register_row Data = register 0x00 1 oldest without_oldest (λ value. sent (value % 2 ^ 8))
register_row Status = register 0x01 1 status_of unchanged (λ value d. record d { overrun = false })
register_row Ctrl =
    register 0x02 1 (λ d. from_bool d.enabled) unchanged (λ value d. record d { enabled = value % 2 == 1 })
register_row Period = register 0x10 4 (λ d. d.period) unchanged started
register_row Count = register 0x14 4 (λ d. d.count) unchanged ignored
register_row Ack = register 0x18 4 (λ d. from_bool d.pending) unchanged (λ value d. record d { pending = false })
register_row Power = register 0x20 4 (λ d. 0) unchanged powered
register_row Size = register 0x24 4 (λ d. d.ram) unchanged ignored
register_row (Disk r) = on_disk (disk_row r)

abbrev pub registers : List Register
registers = Data ∷ Status ∷ Ctrl ∷ Period ∷ Count ∷ Ack ∷ Power ∷ Size ∷ []

abbrev pub disk_registers : List Register
disk_registers = Disk disk.Blocks ∷ Disk disk.Block ∷ Disk disk.Command ∷ Disk disk.Data ∷ []

-- the place is that of the register, with its size
abbrev pub stands_at : Place → Register → Bool
stands_at place r = (place.at == BASE + (register_row r).offset) && (place.len == (register_row r).size)

-- the register of just that address and size, among those that every board has
abbrev pub own_register_at : Place → Option Register
own_register_at place = find (stands_at place) registers

-- and among those of a disk
abbrev pub disk_register_at : Option DiskState → Place → Option Register
disk_register_at None place = None
disk_register_at (Some d) place = find (stands_at place) disk_registers

-- the register of just that address and size
abbrev pub register_at : DeviceState → Place → Option Register
register_at d place = option_or (own_register_at place) (disk_register_at d.disk place)

-- what a read answers and what it leaves; none, and nothing changed, where there is no register
abbrev pub read_register : Option Register → DeviceState → Option ℕ × DeviceState
read_register (Some r) d = (Some ((register_row r).value d), (register_row r).after_read d)
read_register None d = (None, d)

abbrev pub read_of : Place → DeviceState → Option ℕ × DeviceState
read_of place d = read_register (register_at d place) d

-- the same of a write
abbrev pub write_register : Option Register → ℕ → DeviceState → Option (Unit {0}) × DeviceState
write_register (Some r) value d = (Some tt, (register_row r).written value d)
write_register None value d = (None, d)

abbrev pub write_of : Place → ℕ → DeviceState → Option (Unit {0}) × DeviceState
write_of place value d = write_register (register_at d place) value d
