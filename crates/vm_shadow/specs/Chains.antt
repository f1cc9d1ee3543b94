-- Slots that are linked by number. A link is a function of numbers: 0 to 125 are the slots, 126 is the root of the ring
-- of those in use and the end of each list, and 127 is the root of the free ones.
use Rattle.std.specs.Prelude.{◌≡◌, ℕ, ◌+◌, ◌<◌, nat_lt, if◌then◌else◌}
use Rattle.std.specs.Prelude.{List, ◌∷◌, length}
use Rattle.vm_shadow.specs.declared.nodes.TheConstants.{SLOTS, FREE}
use Rattle.law_links.specs.Paths.{IsPath, times}

-- The links are those of slots in use, that of the oldest table first, and of free slots.
pub record Linked (newer older : ℕ → ℕ) (live free : List ℕ) : Type 0 where
  -- "newer" leads from the oldest through each slot in use
  pub ring : IsPath newer SLOTS live SLOTS
  -- "older" undoes "newer"
  pub back : (at : ℕ) → 0 < times at (SLOTS ∷ live) → older (newer at) ≡ at
  pub rest : IsPath newer FREE free SLOTS
  -- each slot is in use or free, and once
  pub each : (at : ℕ) → times at live + times at free ≡ (if nat_lt at SLOTS then 1 else 0)
  pub all : length live + length free ≡ SLOTS
