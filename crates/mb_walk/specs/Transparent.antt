-- The transparent translation registers: pages whose physical address is the logical one.
use Rattle.std.specs.Prelude.{ℕ, ◌/◌, ◌%◌, ◌^◌, ◌==◌, ◌&&◌, Bool, not, if◌then◌else◌, bit_or, Option, Some, None}
use Rattle.mb_port.specs.declared.types.Space.{Space}
use Rattle.mb_port.specs.declared.types.Space.TheVariants.{User, Super}
use Rattle.mb_port.specs.declared.translation.TheConstants.{BASE, E, MASK, S, W}
use Rattle.mb_port.specs.Bits.{has_bit}
use Rattle.mb_walk.specs.declared.transparency.TransparentRegister.{TransparentRegister}

abbrev pub transparent_register : ℕ → TransparentRegister
transparent_register long = record {
  enabled = has_bit long E;
  spaces = long / S % 4;
  base = long / BASE;
  ignored = long / MASK % 2 ^ 8;
  protected = has_bit long W;
}

abbrev pub admits_space : ℕ → Space → Bool
admits_space spaces User = not (spaces == 1)
admits_space spaces Super = not (spaces == 0)

-- does it match a page: its number's bits 19 to 12 are the address's bits 31 to 24
abbrev pub matches : TransparentRegister → Space → ℕ → Bool
matches r space page =
    r.enabled && (admits_space r.spaces space && (bit_or (page / 2 ^ 12) r.ignored == bit_or r.base r.ignored))

-- the write protection of the first of two registers that matches a page, where one does
abbrev pub transparent_of : ℕ → ℕ → Space → ℕ → Option Bool
transparent_of tt0 tt1 space page =
    if matches (transparent_register tt0) space page then Some (transparent_register tt0).protected
    else if matches (transparent_register tt1) space page then Some (transparent_register tt1).protected else None
