-- Steps of a guest, and how they are counted.
use Rattle.std.specs.Prelude.{ℕ, ◌+◌, ◌<◌, ◌≤◌, ◌⊎◌, length}
use Rattle.def_machine.specs.Machine.{Entries}
use Rattle.mb_board.specs.Arrivals.{due_at}
use Rattle.def_guests.specs.Turns.{Tally}
use Rattle.vm_guest.specs.declared.counts.Counts.{Counts}

-- the count of each class
abbrev pub tally_in : Counts → Tally
tally_in c = record {
  retired = c.retired;
  privileged = c.privileged;
  trapped = c.trapped;
  denied = c.denied;
  traced = c.traced;
  entered = c.entered;
  idle = c.idle;
  refilled = c.refilled;
}

-- At none of so many steps behind the first `taken` is an entry of the script due.
abbrev pub NoneDue : Entries → (taken n : ℕ) → Type 0
NoneDue script taken n =
    (place : ℕ) → place < length script → (due_at script place ≤ taken) ⊎ (taken + n < due_at script place)
