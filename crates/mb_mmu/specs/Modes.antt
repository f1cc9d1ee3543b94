-- How a memory management unit translates.
use Rattle.std.specs.Prelude.{ℕ, ◌/◌, ◌%◌, ◌==◌, ◌||◌, ◌&&◌, Bool, true, false, not, if◌then◌else◌}
use Rattle.mb_port.specs.declared.types.Mmu.{Mmu}
use Rattle.mb_port.specs.declared.translation.TheConstants.{E, S}
use Rattle.mb_port.specs.Bits.{has_bit}
use Rattle.def_machine.specs.Access.{is_translating}
use Rattle.mb_mmu.specs.declared.modes.Mode.{Mode}
use Rattle.mb_mmu.specs.declared.modes.Mode.TheVariants.{Direct, Tables, UserTables, Registers}

-- E of a transparent register
abbrev pub is_enabled : ℕ → Bool
is_enabled register = has_bit register E

-- a transparent register is on
abbrev pub has_transparent : Mmu → Bool
has_transparent mmu = is_enabled mmu.itt0 || is_enabled mmu.itt1 || is_enabled mmu.dtt0 || is_enabled mmu.dtt1

-- translation is off, and so is each transparent register
abbrev pub is_off : Mmu → Bool
is_off mmu = not (has_transparent mmu || is_translating mmu)

-- the bytes from address 0 on in which each reference leads to its own address: those of RAM, if all that is off
abbrev pub direct_bytes : Mmu → ℕ → ℕ
direct_bytes mmu ram = if is_off mmu then ram else 0

-- a register that is on serves user space: its S field is not the supervisor's alone
abbrev pub serves_user : ℕ → Bool
serves_user register = is_enabled register && not (register / S % 4 == 1)

-- some register does
abbrev pub has_user : Mmu → Bool
has_user mmu = serves_user mmu.itt0 || serves_user mmu.itt1 || serves_user mmu.dtt0 || serves_user mmu.dtt1

abbrev pub mode_by : (transparent user translating : Bool) → Mode
mode_by true true translating = Registers
mode_by true false true = UserTables
mode_by true false false = Registers
mode_by false user true = Tables
mode_by false user false = Direct

abbrev pub mode_of : Mmu → Mode
mode_of mmu = mode_by (has_transparent mmu) (has_user mmu) (is_translating mmu)
