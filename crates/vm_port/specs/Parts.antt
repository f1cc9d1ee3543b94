-- What a guest's bus is made of.
use Rattle.std.specs.Prelude.{ℕ, ◌+◌, List, length, take, drop}
use Rattle.mb_walk.specs.declared.ram.Ram.{Ghosts}
use Rattle.mb_walk.specs.Memory.{part}
use Rattle.def_machine.specs.World.{World}
use Rattle.vm_shadow.specs.Shadows.{Shadowed}
use Rattle.vm_shadow.specs.Mapped.{shadowed}
use Rattle.vm_shadow.specs.declared.area.TheConstants.{AREA_BYTES}
use Rattle.def_guests.specs.Seats.{own}
use Rattle.def_guests.specs.Guests.{Guest}
use Rattle.vm_port.specs.Own.{guest_in}
use Rattle.vm_port.specs.Around.{Around, Beyond, Beside}
use Rattle.vm_port.specs.Watched.{Watched}
use Rattle.vm_port.specs.declared.memory.GuestMemory.{GuestMemory}
use Rattle.vm_port.specs.declared.port.GuestPort.{GuestPort}

-- ---- its memory

-- the guest's bytes
abbrev pub ram_of : {R : Type 0} {T : Ghosts R} → GuestMemory R T → List ℕ
ram_of {T = T} m = part (T.bytes m.ram.now) m.base m.size

-- its shadow
abbrev pub shadow_of : {R : Type 0} {T : Ghosts R} → GuestMemory R T → Shadowed
shadow_of {T = T} m = own m.base (shadowed m.shadow.now (T.bytes m.ram.now))

-- all around them
abbrev pub around_of : {R : Type 0} {T : Ghosts R} → GuestMemory R T → Around T.Rest
around_of {T = T} m = record {
  ram = m.ram.ghost_name;
  shadow = m.shadow.ghost_name;
  base = m.base;
  size = m.size;
  board = T.rest m.ram.now;
  count = length (T.bytes m.ram.now);
  below = take m.base (T.bytes m.ram.now);
  above = drop (m.base + m.size + AREA_BYTES) (T.bytes m.ram.now);
}

-- all but its bytes
abbrev pub beside_of : {R : Type 0} {T : Ghosts R} → GuestMemory R T → Beside T.Rest
beside_of m = record { around = around_of m; shadow = shadow_of m; changed = m.changed }

-- ---- the bus

-- the guest
abbrev pub guest_of : {R : Type 0} {T : Ghosts R} → GuestPort R T → Guest
guest_of {T = T} p =
    let m = p.memory in
    guest_in m.base m.size (T.bytes m.ram.now) m.shadow.now p.registers.now p.devices.now p.tlb.now

-- and whether its shadow may have changed
abbrev pub watched_of : {R : Type 0} {T : Ghosts R} → GuestPort R T → Watched
watched_of p = record { guest = guest_of p; changed = p.memory.changed }

-- its machine's world
abbrev pub world_of : {R : Type 0} {T : Ghosts R} → GuestPort R T → World
world_of p = (guest_of p).world

-- its shadow
abbrev pub tables_of : {R : Type 0} {T : Ghosts R} → GuestPort R T → Shadowed
tables_of p = shadow_of p.memory

-- all around it
abbrev pub beyond_of : {R : Type 0} {T : Ghosts R} → GuestPort R T → Beyond T.Rest
beyond_of p = record {
  around = around_of p.memory;
  registers = p.registers.ghost_name;
  devices = p.devices.ghost_name;
  tlb = p.tlb.ghost_name;
}
