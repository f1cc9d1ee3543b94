-- Guests of which one goes on from a saved machine.
use Rattle.std.specs.Prelude.{◌≡◌, ℕ, List, length, map, slice_get, Option}
use Rattle.mb_model.specs.declared.kept.Kept.{Kept}
use Rattle.mb_model.specs.Keeping.{list_of}
use Rattle.mb_saved.specs.Saved.{CanBeKept, Saved}
use Rattle.def_machine.specs.Machine.{Entries}
use Rattle.def_guests.specs.Turns.{no_steps}
use Rattle.def_guests.specs.Rounds.{Member}
use Rattle.vm_saved.specs.Begins.{beginning}
use Rattle.vm_saved.specs.Saved.{machine_of}

-- One that can become a saved machine: it has taken no step, and its RAM has that size.
pub record CanAdopt (saved : Saved) (m : Member) : Type 0 where
  pub fresh : m.guest.machine.steps ≡ 0
  pub size : length m.guest.machine.world.ram ≡ saved.ram

-- A guest that begins with a saved machine, but for its disk: an empty shadow, and nothing counted.
abbrev pub begun : Saved → Member → Member
begun saved m = record m {
  guest = (beginning (machine_of m.guest.machine.world.devices.disk saved)).guest;
  tally = no_steps;
}

-- a guest that takes so many steps at most
abbrev pub bounded : (steps : ℕ) → Member → Member
bounded steps m = record m { bound = steps }

-- the scripts of all guests, and what each keeps at a place of its one list
abbrev pub scripts_of : List Member → List Entries
scripts_of members = map (λ (m : Member). m.script) members

abbrev pub kept_at : (place : ℕ) → List Member → List (Option Kept)
kept_at place members = map (λ (m : Member). slice_get (list_of 0 m.guest.machine.world.kept) place) members

-- what it keeps can be saved
abbrev pub KeepsLawfully : Member → Type 0
KeepsLawfully m = CanBeKept (list_of 0 m.guest.machine.world.kept)
