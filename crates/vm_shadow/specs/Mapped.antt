-- What tables in memory map a page to, and that they stand in an area.
use Rattle.std.specs.Prelude.{◌≡◌, ℕ, ◌+◌, ◌/◌, ◌%◌, ◌^◌, ◌<◌, ◌||◌, Bool, true, false, not, nat_lt, if◌then◌else◌}
use Rattle.std.specs.Prelude.{List, Option, Some, None}
use Rattle.mb_port.specs.declared.types.Space.{Space}
use Rattle.mb_port.specs.declared.types.Space.TheVariants.{User, Super}
use Rattle.mb_walk.specs.Memory.{number_at}
use Rattle.mb_walk.specs.Descriptors.{table_descriptor, page_descriptor, entry_at, page_table_bytes}
use Rattle.mb_walk.specs.declared.searching.TheConstants.{TABLE_BYTES}
use Rattle.mb_walk.specs.Descriptors.{root_index, pointer_index, page_index}
use Rattle.vm_shadow.specs.Slots.{Slots}
use Rattle.vm_shadow.specs.Shadows.{EntryMap, Shadowed}
use Rattle.vm_shadow.specs.declared.area.TheConstants.{AREA_BYTES}

-- the descriptors that a search for a page meets below a root: of its pointer table, of its page table, its own
abbrev pub first : List ℕ → ℕ → ℕ → ℕ
first ram root page = number_at ram (entry_at root TABLE_BYTES (root_index page)) 4

abbrev pub second : List ℕ → ℕ → ℕ → ℕ
second ram root page = number_at ram (entry_at (first ram root page) TABLE_BYTES (pointer_index page)) 4

abbrev pub third : List ℕ → ℕ → ℕ → ℕ
third ram root page = number_at ram (entry_at (second ram root page) (page_table_bytes false) (page_index false page)) 4

abbrev pub is_protected : List ℕ → ℕ → ℕ → Bool
is_protected ram root page =
    ((table_descriptor (first ram root page)).protected || (table_descriptor (second ram root page)).protected)
    || (page_descriptor (third ram root page)).protected

-- The frame that tables without indirect descriptors map a page to, and whether it takes writes.
abbrev pub mapped : List ℕ → ℕ → ℕ → Option (ℕ × Bool)
mapped ram root page =
    if (table_descriptor (first ram root page)).resident
    then (if (table_descriptor (second ram root page)).resident
    then (if (page_descriptor (third ram root page)).resident
    then Some ((page_descriptor (third ram root page)).frame, not (is_protected ram root page))
    else None) else None) else None

-- the root table of a space in the area at an address
abbrev pub root_of : ℕ → Space → ℕ
root_of area User = area
root_of area Super = area + TABLE_BYTES

-- what the tables in an area map, for pages of 20 bits
abbrev pub entries_in : List ℕ → ℕ → EntryMap
entries_in ram area space page = if nat_lt page (2 ^ 20) then mapped ram (root_of area space) page else None

-- what a shadow holds, as its tables in memory have it
abbrev pub shadowed : Slots → List ℕ → Shadowed
shadowed s ram = record { entries = entries_in ram s.area; tables = s.tables }

-- a search for a page goes on to its pointer table, and from there to its page table
abbrev pub HasPointers : List ℕ → ℕ → ℕ → Type 0
HasPointers ram root page = (table_descriptor (first ram root page)).resident ≡ true

abbrev pub HasPages : List ℕ → ℕ → ℕ → Type 0
HasPages ram root page = (table_descriptor (second ram root page)).resident ≡ true

-- What a search for a page meets lies in the area. Its descriptor is not indirect, and its frame is for both spaces.
pub record Path (ram : List ℕ) (area root page : ℕ) : Type 0 where
  pub pointers : HasPointers ram root page → first ram root page / AREA_BYTES ≡ area / AREA_BYTES
  pub pages : HasPointers ram root page → HasPages ram root page → second ram root page / AREA_BYTES ≡ area / AREA_BYTES
  pub direct : HasPointers ram root page → HasPages ram root page
      → (page_descriptor (third ram root page)).indirect ≡ false
  pub for_both : HasPointers ram root page → HasPages ram root page
      → (page_descriptor (third ram root page)).supervisor ≡ false

-- A root and every table that it reaches lie in an area.
pub record Stands (ram : List ℕ) (area root : ℕ) : Type 0 where
  pub here : root / AREA_BYTES ≡ area / AREA_BYTES
  pub whole : root % TABLE_BYTES ≡ 0
  pub path : (page : ℕ) → page < 2 ^ 20 → Path ram area root page

-- both roots
abbrev pub BothStand : List ℕ → ℕ → Type 0
BothStand ram area = (space : Space) → Stands ram area (root_of area space)
