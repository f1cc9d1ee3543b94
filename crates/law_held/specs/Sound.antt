-- A guest whose shadow may be relied on, and its held bus as instructions meet it.
use Rattle.std.specs.Prelude.{◌≡◌, ℕ, true, length}
use Rattle.mb_port.specs.declared.types.Space.{Space}
use Rattle.mb_walk.specs.Memory.{AreBytes}
use Rattle.law_tells.specs.Guarded.{Guarded, Guards}
use Rattle.mb_port.specs.Routine.{Call}
use Rattle.def_guests.specs.Guests.{Guest, Truthful, allows_call, may}
use Rattle.law_held.specs.Lawful.{IsAttemptCall}
use Rattle.def_guests.specs.Held.{held_bus}
use Rattle.def_guests.specs.Bus.{guest_bus}

pub record Sound (size : ℕ) (g : Guest) : Type 0 where
  pub truthful : Truthful size g
  pub count : length g.world.ram ≡ size
  pub bytes : AreBytes g.world.ram

-- The held bus, for instructions in a space that begin with this guest. What stands is what is allowed, answers so
-- again, and changes nothing.
abbrev pub held_guard : Space → ℕ → Guest → Guarded Guest
held_guard space size begun = record {
  same = λ g h. h ≡ g;
  lawful = λ c g. IsAttemptCall space 0 size c;
  allowed = may;
  bus = held_bus;
  serving = Sound size;
  unwritten = λ g. g ≡ begun;
  stands = λ c answer g. IsAttemptCall space 0 size c × (allows_call c g.shadow ≡ true) × (held_bus c g ≡ (answer, g));
}

abbrev pub HeldGuards : Type 0
HeldGuards = (space : Space) (size : ℕ) (begun : Guest) → Guards (held_guard space size begun) space

-- nothing but RAM differs
abbrev pub OnlyRam : Guest → Guest → Type 0
OnlyRam g h = h ≡ record g { world = record g.world { ram = h.world.ram } }

abbrev pub HeldKeeps : Type 0
HeldKeeps = (space : Space) (size : ℕ) (c : Call) (g : Guest) → Sound size g → IsAttemptCall space 0 size c
    → let (_, after) = held_bus c g in OnlyRam g after

-- What the shadow allows, the guest's own bus does as the held one.
abbrev pub GuestIsHeld : Type 0
GuestIsHeld = (space : Space) (size : ℕ) (c : Call) (g : Guest) → Sound size g → IsAttemptCall space 0 size c
    → allows_call c g.shadow ≡ true → guest_bus c g ≡ held_bus c g
