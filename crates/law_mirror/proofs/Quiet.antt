-- What a translation of the board in user mode answers and leaves.
use Rattle.std.specs.Prelude.{if◌then◌else◌, ◌≡◌, ℕ, Bool, Option, Some, None}
use Rattle.def_machine.specs.World.{World}
use Rattle.def_guests.specs.Guests.{lets, placed_at}
use Rattle.law_mirror.specs.Related.{Site, AllAgree, mapping}

abbrev pub wanted : Option (ℕ × Bool) → ℕ → Bool → Option ℕ
wanted None at write = None
wanted (Some (frame, writable)) at write =
    if lets (Some (frame, writable)) write then Some (placed_at frame at) else None

-- Kept entries that agree with the tables differ, and nothing else.
pub record Quiet (x : Site) (b after : World) : Type 0 where
  pub same : after ≡ record b { kept = after.kept }
  pub kept : AllAgree (mapping x b.ram) after.kept

pub record Translates (x : Site) (b : World) (want : Option ℕ) (r : Option ℕ × World) : Type 0 where
  pub answer : let (at, _) = r in at ≡ want
  pub quiet : let (_, after) = r in Quiet x b after
