-- What the board's search finds in shadow tables, and what they stand in.
use Rattle.std.specs.Prelude.{◌≡◌, ℕ, ◌+◌, ◌^◌, ◌≤◌, ◌<◌, Bool, true, false, not}
use Rattle.std.specs.Prelude.{List, length, take, drop, Option, Some, None}
use Rattle.mb_port.specs.declared.types.Space.{Space}
use Rattle.mb_walk.specs.declared.found.Found.{Found}
use Rattle.mb_walk.specs.declared.found.Found.TheVariants.{Entry, Invalid}
use Rattle.mb_walk.specs.Memory.{AreBytes}
use Rattle.mb_walk.specs.Descriptors.{resident_status}
use Rattle.mb_walk.specs.Search.{search_of}
use Rattle.vm_shadow.specs.Slots.{Slots}
use Rattle.vm_shadow.specs.Shadows.{AreNeeded}
use Rattle.vm_shadow.specs.Mapped.{root_of, shadowed, BothStand}
use Rattle.vm_shadow.specs.declared.area.TheConstants.{AREA_BYTES}
use Rattle.vm_shadow.specs.Area.{page_long, Maps}

-- what is found of a page: nothing, or its entry's frame, protected where it takes no writes, for both spaces, modified
abbrev pub found_of : Space → ℕ → Option (ℕ × Bool) → Found
found_of space page None = Invalid
found_of space page (Some (frame, writable)) = Entry (record {
  space = space;
  page = page;
  frame = frame;
  w = not writable;
  s = false;
  g = false;
  m = true;
}) (resident_status (page_long frame writable) (not writable) false)

-- A search from a root, for either space and pages of 4 KiB, finds exactly the entries of the root's space and changes
-- nothing.
abbrev pub SearchesFindEntries : Type 0
SearchesFindEntries = (s : Slots) (ram : List ℕ) (of space : Space) (page : ℕ) (write : Bool)
    → Maps s ram → AreBytes ram → page < 2 ^ 20
    → search_of ram (root_of s.area of) space page write false
    ≡ record { ram = ram; found = found_of space page ((shadowed s ram).entries of page) }

-- The tables and what they hold are of the area's bytes alone.
abbrev pub TablesAreOfTheArea : Type 0
TablesAreOfTheArea = (s : Slots) (ram after : List ℕ) → Maps s ram → s.area + AREA_BYTES ≤ length after
    → take AREA_BYTES (drop s.area after) ≡ take AREA_BYTES (drop s.area ram)
    → Maps s after × (shadowed s after ≡ shadowed s ram)

-- Both roots and all tables stand in the area.
abbrev pub TablesStand : Type 0
TablesStand = (s : Slots) (ram : List ℕ) → Maps s ram → BothStand ram s.area

-- The tables that stand are exactly those that the entries need.
abbrev pub TablesAreNeeded : Type 0
TablesAreNeeded = (s : Slots) (ram : List ℕ) → Maps s ram → AreNeeded (shadowed s ram)
