-- The longs of an area: two roots, and slots of a table each.
use Rattle.std.specs.Prelude.{◌≡◌, ◌≢◌, ℕ, zero, suc, ◌+◌, ◌*◌, ◌/◌, ◌%◌, ◌^◌, ◌<◌, ◌≤◌, ◌==◌, ◌||◌, Bool, true}
use Rattle.std.specs.Prelude.{not, nat_lt, if◌then◌else◌}
use Rattle.std.specs.Prelude.{List, [], ◌∷◌, ◌++◌, length, filter, take, drop, Option, Some, None}
use Rattle.mb_port.specs.declared.types.Space.{Space}
use Rattle.mb_port.specs.declared.types.Space.TheVariants.{User, Super}
use Rattle.mb_model.specs.Pages.{offset_of}
use Rattle.mb_model.specs.declared.pages.TheConstants.{PAGE_SIZE}
use Rattle.mb_walk.specs.Memory.{number_at}
use Rattle.mb_walk.specs.Descriptors.{page_descriptor}
use Rattle.vm_shadow.specs.declared.table.Table.{Table}
use Rattle.vm_shadow.specs.declared.table.Table.TheVariants.{Pointers, Pages}
use Rattle.vm_shadow.specs.Slots.{Slots, Placed, placed, same_table, number_of, Has, Once}
use Rattle.vm_shadow.specs.declared.nodes.TheConstants.{SLOTS}
use Rattle.vm_shadow.specs.declared.area.TheConstants.{AREA_BYTES}

-- the longs of the area at an address, by number
abbrev pub longs : List ℕ → ℕ → ℕ → ℕ
longs ram area index = number_at ram (area + 4 * index) 4

-- Nothing of memory changes but bytes from one place up to another.
pub record OnlyBetween (from to : ℕ) (before after : List ℕ) : Type 0 where
  pub count : length after ≡ length before
  pub below : take from after ≡ take from before
  pub above : drop to after ≡ drop to before

-- Nothing changes but bytes of an area.
abbrev pub OnlyArea : ℕ → (before after : List ℕ) → Type 0
OnlyArea area before after = OnlyBetween area (area + AREA_BYTES) before after

-- the number of a root's entry, and of an entry of a slot
abbrev pub in_root : Space → ℕ → ℕ
in_root User index = index
in_root Super index = 128 + index

abbrev pub in_slot : ℕ → ℕ → ℕ
in_slot slot index = 256 + 128 * slot + index

-- the descriptor of the table in a slot: resident and used
abbrev pub link : ℕ → ℕ → ℕ
link area slot = area + 4 * in_slot slot 0 + 10

-- the descriptor that leads to a table: 0 where it does not stand
abbrev pub link_to : ℕ → List Table → (Table → ℕ) → Table → ℕ
link_to area tables slot table =
    if nat_lt (number_of table tables) (length tables) then link area (slot table) else 0

-- the descriptor of a page: resident, used and modified, write-protected where it takes no writes
abbrev pub page_long : ℕ → Bool → ℕ
page_long frame writable = PAGE_SIZE * frame + (if writable then 25 else 29)

-- the entry in a page's descriptor that is not indirect
abbrev pub entry_of : ℕ → Option (ℕ × Bool)
entry_of long =
    if (page_descriptor long).resident
    then Some ((page_descriptor long).frame, not (page_descriptor long).protected) else None

-- a long is such a descriptor, or 0
abbrev pub is_page_long : ℕ → Bool
is_page_long long = (long == 0) || ((offset_of long == 25) || (offset_of long == 29))

abbrev pub IsPageLong : ℕ → Type 0
IsPageLong long = is_page_long long ≡ true

-- the number of a table, and how many numbers tables of its kind have
abbrev pub index_of : Table → ℕ
index_of (Pointers space index) = index
index_of (Pages space index) = index

abbrev pub indices : Table → ℕ
indices (Pointers space index) = 2 ^ 7
indices (Pages space index) = 2 ^ 14

abbrev pub IsTable : Table → Type 0
IsTable table = index_of table < indices table

-- no table stands in a slot
abbrev pub IsFree : List Table → (Table → ℕ) → ℕ → Type 0
IsFree tables slot number = (table : Table) → Has tables table → slot table ≢ number

-- These longs are the tables in their slots.
pub record AreTables (area : ℕ) (tables : List Table) (slot : Table → ℕ) (t : ℕ → ℕ) : Type 0 where
  pub once : Once tables
  pub named : (table : Table) → Has tables table → IsTable table
  -- each stands in a slot of its own
  pub inside : (table : Table) → Has tables table → slot table < SLOTS
  pub apart : (table other : Table) → Has tables table → Has tables other → slot table ≡ slot other → table ≡ other
  pub roots : (space : Space) (index : ℕ) → index < 128
      → t (in_root space index) ≡ link_to area tables slot (Pointers space index)
  pub pointers : (space : Space) (index : ℕ) → index < 2 ^ 14 → Has tables (Pointers space (index / 128))
      → t (in_slot (slot (Pointers space (index / 128))) (index % 128)) ≡ link_to area tables slot (Pages space index)
  pub pages : (space : Space) (index at : ℕ) → index < 2 ^ 14 → at < 64 → Has tables (Pages space index)
      → IsPageLong (t (in_slot (slot (Pages space index)) at))
  -- a page table is half a slot
  pub half : (space : Space) (index at : ℕ) → index < 2 ^ 14 → 64 ≤ at → at < 128 → Has tables (Pages space index)
      → t (in_slot (slot (Pages space index)) at) ≡ 0
  -- a page table is led to
  pub reached : (space : Space) (index : ℕ) → index < 2 ^ 14 → Has tables (Pages space index)
      → Has tables (Pointers space (index / 128))
  -- a free slot is empty
  pub free : (number index : ℕ) → number < SLOTS → IsFree tables slot number → index < 128
      → t (in_slot number index) ≡ 0

-- 1 for a long that is not 0
abbrev pub one : ℕ → ℕ
one long = if long == 0 then 0 else 1

-- how many of the first longs of a slot are not 0
unfoldable pub used : (ℕ → ℕ) → ℕ → ℕ → ℕ
used t number zero = 0
used t number (suc n) = one (t (in_slot number n)) + used t number n

-- the counts of a shadow are those of its longs
abbrev pub Counted : Placed → List ℕ → Type 0
Counted s ram = (number : ℕ) → number < SLOTS → s.count number ≡ used (longs ram s.area) number 128

-- The area lies in memory, and its bytes are the tables in their slots.
pub record Laid (s : Placed) (ram : List ℕ) : Type 0 where
  pub aligned : s.area % AREA_BYTES ≡ 0
  pub inside : s.area + AREA_BYTES ≤ length ram
  pub tables : AreTables s.area s.tables s.slot (longs ram s.area)
  pub counted : Counted s ram

-- some long of a slot is not 0
abbrev pub IsUsed : (ℕ → ℕ) → ℕ → Type 0
IsUsed t number = used t number 128 ≢ 0

-- no table but one is empty
abbrev pub UsedBut : Table → Placed → List ℕ → Type 0
UsedBut but s ram = (table : Table) → table ≢ but → Has s.tables table → IsUsed (longs ram s.area) (s.slot table)

-- The same, and no table is empty.
pub record MapsPlaced (s : Placed) (ram : List ℕ) : Type 0 where
  pub aligned : s.area % AREA_BYTES ≡ 0
  pub inside : s.area + AREA_BYTES ≤ length ram
  pub tables : AreTables s.area s.tables s.slot (longs ram s.area)
  pub counted : Counted s ram
  pub full : (table : Table) → Has s.tables table → IsUsed (longs ram s.area) (s.slot table)

abbrev pub Maps : Slots → List ℕ → Type 0
Maps s ram = MapsPlaced (placed s) ram

-- tables of which some may have gone
abbrev pub OnlyGo : List Table → List Table → Type 0
OnlyGo before after = (test : Table → Bool) × (after ≡ filter test before)

-- A table came to stand in a slot.
pub record Pushed (before after : Placed) (table : Table) (number : ℕ) : Type 0 where
  pub area : after.area ≡ before.area
  pub tables : after.tables ≡ before.tables ++ table ∷ []
  pub slot : after.slot table ≡ number
  pub others : (other : Table) → Has before.tables other → after.slot other ≡ before.slot other
  pub was_free : IsFree before.tables before.slot number
  pub count : after.count ≡ before.count

-- A table went from its slot.
pub record Removed (before after : Placed) (table : Table) : Type 0 where
  pub area : after.area ≡ before.area
  pub tables : after.tables ≡ filter (λ other. not (same_table table other)) before.tables
  pub others : (other : Table) → Has after.tables other → after.slot other ≡ before.slot other
  pub count : after.count ≡ before.count
