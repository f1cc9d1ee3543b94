-- A guest's bus that tells whether the shadow may have changed.
use Rattle.std.specs.Prelude.{ℕ, Bool, true, if◌then◌else◌, Option, Some, None}
use Rattle.mb_port.specs.Routine.{Call, Bus, SetMmu, FlushKept, Test}
use Rattle.mb_model.specs.declared.kept.Kept.{Kept}
use Rattle.mb_model.specs.Keeping.{rule_k}
use Rattle.def_machine.specs.declared.reference.Reference.{Reference}
use Rattle.def_machine.specs.World.{World}
use Rattle.def_machine.specs.Access.{translated}
use Rattle.def_machine.specs.Bus.{reference_of}
use Rattle.vm_shadow.specs.Shadows.{Shadowed}
use Rattle.def_guests.specs.Guests.{Guest}
use Rattle.def_guests.specs.Bus.{gone, guest_bus, puts_entry, without_kept}

-- a guest, and whether its shadow may have changed since it was watched first
pub record Watched : Type 0 where
  pub guest : Guest
  pub changed : Bool

-- a kept entry that goes takes its own along
abbrev pub changed_by_fill : Option Kept → Bool → Bool
changed_by_fill None before = before
changed_by_fill (Some k) before = true

-- an access that leads to a place may put one
abbrev pub changed_by_put : World → Reference → Shadowed → Option ℕ → Bool → Bool
changed_by_put w r shadow None before = before
changed_by_put w r shadow (Some at) before = if puts_entry w r shadow at then true else before

abbrev pub changed_by_access : Reference → World → Shadowed → Bool → Bool
changed_by_access r w shadow before =
    let (at, after) = translated rule_k r w in
    changed_by_put after r (without_kept (gone w r) shadow) at (changed_by_fill (gone w r) before)

abbrev pub changed_by : Option Reference → World → Shadowed → Bool → Bool
changed_by (Some r) w shadow before = changed_by_access r w shadow before
changed_by None w shadow before = before

-- Flushes and tests may drop entries, and a MOVEC that forgets does.
abbrev pub changed_after : Call → World → Shadowed → Bool → Bool
changed_after (SetMmu which value) w shadow before = if rule_k.forgets which then true else before
changed_after (FlushKept what) w shadow before = true
changed_after (Test space at write) w shadow before = true
changed_after c w shadow before = changed_by (reference_of c) w shadow before

-- the guest's bus
abbrev pub watched_bus : Bus Watched
watched_bus c s =
    let (answer, after) = guest_bus c s.guest in
    (answer, record { guest = after; changed = changed_after c s.guest.world s.guest.shadow s.changed })
