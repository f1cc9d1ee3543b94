-- In user mode the board mirrors the guest's held bus at every call.
use Rattle.std.specs.Prelude.{◌≡◌, Bool, true, ◌+◌, length, take, drop}
use Rattle.mb_port.specs.Routine.{Call, Bus}
use Rattle.mb_port.specs.declared.types.Space.TheVariants.{User}
use Rattle.law_routines.specs.Between.{call_here, IsThere, like, between}
use Rattle.law_routines.specs.Twin.{AlikeOn}
use Rattle.mb_model.specs.Keeping.{rule_a}
use Rattle.def_machine.specs.World.{World}
use Rattle.def_machine.specs.Bus.{bus_of}
use Rattle.def_guests.specs.Guests.{Guest}
use Rattle.law_held.specs.Lawful.{IsAttemptCall}
use Rattle.def_guests.specs.Held.{held_bus}
use Rattle.law_mirror.specs.Related.{Site, setting, Related, Serves}

abbrev pub board_bus : Bus World
board_bus = bus_of rule_a

abbrev pub lawful : Site → Call → World → Type 0
lawful x c b = IsAttemptCall User x.base x.size c

-- One call: the board answers as the held guest, and both states are related again.
abbrev pub MirrorsCalls : Type 0
MirrorsCalls = (x : Site) (d : Call) (b : World) (g : Guest) → Related x b g → IsThere (setting x) d
    → lawful x (call_here (setting x) d) b
    → let (answer, after) = board_bus (call_here (setting x) d) b in let (held, later) = held_bus d g in
    like (setting x) d answer held × Related x after later

abbrev pub always : {S : Type 0} → Call → S → Bool
always c s = true

abbrev pub IsAlike : Type 0
IsAlike = (x : Site) → AlikeOn (between (setting x)) (Related x) (lawful x) always always board_bus held_bus

-- What stays of the board: all below the guest and above its tables, its registers, its devices.
pub record Outside (x : Site) (b after : World) : Type 0 where
  pub count : length after.ram ≡ length b.ram
  pub below : take x.base after.ram ≡ take x.base b.ram
  pub above : drop (x.base + x.size) after.ram ≡ drop (x.base + x.size) b.ram
  pub mmu : after.mmu ≡ b.mmu
  pub devices : after.devices ≡ b.devices

-- Each lawful call touches nothing else of the board.
abbrev pub StaysInside : Type 0
StaysInside = (x : Site) (c : Call) (b : World) → Serves x b → lawful x c b
    → let (_, after) = board_bus c b in Outside x b after
