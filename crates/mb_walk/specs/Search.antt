-- The search for a page's translation through three levels of tables in memory.
use Rattle.std.specs.Prelude.{ℕ, ◌+◌, ◌||◌, Bool, nat_le, if◌then◌else◌, List, length, Result, Ok, Err}
use Rattle.mb_port.specs.declared.types.Space.{Space}
use Rattle.mb_model.specs.declared.kept.Kept.{Kept}
use Rattle.mb_walk.specs.declared.found.Found.{Found}
use Rattle.mb_walk.specs.declared.found.Found.TheVariants.{Entry, Invalid, BusError}
use Rattle.mb_walk.specs.Memory.{number_at, with_number}
use Rattle.mb_walk.specs.Descriptors.{table_descriptor, page_descriptor, with_used, marked, indirection, kept_of}
use Rattle.mb_walk.specs.Descriptors.{resident_status}
use Rattle.mb_walk.specs.Descriptors.{page_table_bytes, root_index, pointer_index, page_index, entry_at}
use Rattle.mb_walk.specs.declared.searching.TheConstants.{TABLE_BYTES}

-- the end of a search: memory with its marks, and what it found
pub record Searched : Type 0 where
  pub ram : List ℕ
  pub found : Found

-- a level of it: memory with the marks made so far, and the table's descriptor, or how the search ended
pub record Level : Type 0 where
  pub ram : List ℕ
  pub descriptor : Result ℕ Found

-- the next levels, where the search has not ended
abbrev pub below : List ℕ → Result ℕ Found → (List ℕ → ℕ → Searched) → Searched
below ram (Ok descriptor) next = next ram descriptor
below ram (Err found) next = record { ram = ram; found = found }

abbrev pub and_below : Level → (List ℕ → ℕ → Searched) → Searched
and_below level next = below level.ram level.descriptor next

-- does the descriptor at a place stand in memory
abbrev pub is_inside : List ℕ → ℕ → Bool
is_inside ram place = nat_le (place + 4) (length ram)

-- the table's descriptor at a place: it is marked used, where its table is resident
unfoldable pub descended : List ℕ → ℕ → Level
descended ram place =
    let long = number_at ram place 4 in
    if is_inside ram place
    then (if (table_descriptor long).resident
    then record { ram = with_number ram place 4 (with_used long); descriptor = Ok long }
    else record { ram = ram; descriptor = Err Invalid })
    else record { ram = ram; descriptor = Err BusError }

-- the resident descriptor of the page at a place, which is marked
abbrev pub paged : List ℕ → ℕ → Space → ℕ → Bool → Bool → Bool → Searched
paged ram place space page protected write big =
    let long = marked (number_at ram place 4) protected space write in
    let kept = kept_of (page_descriptor long) protected space page big in
    record { ram = with_number ram place 4 long; found = Entry kept (resident_status long kept.w big) }

-- the descriptor to which an indirect one leads
unfoldable pub pointed : List ℕ → ℕ → Space → ℕ → Bool → Bool → Bool → Searched
pointed ram place space page protected write big =
    if is_inside ram place
    then (if (page_descriptor (number_at ram place 4)).resident then paged ram place space page protected write big
    else record { ram = ram; found = Invalid })
    else record { ram = ram; found = BusError }

-- the entry of the page's table at a place
unfoldable pub ended : List ℕ → ℕ → Space → ℕ → Bool → Bool → Bool → Searched
ended ram place space page protected write big =
    let long = number_at ram place 4 in
    if is_inside ram place
    then (if (page_descriptor long).resident then paged ram place space page protected write big
    else if (page_descriptor long).indirect then pointed ram (indirection long) space page protected write big
    else record { ram = ram; found = Invalid })
    else record { ram = ram; found = BusError }

-- The search for a page of 4 KiB of a space from a root, for a write or not, through tables of big pages or not: memory
-- once each descriptor that it met is marked, and what it found.
abbrev pub search_of : List ℕ → ℕ → Space → ℕ → Bool → Bool → Searched
search_of ram root space page write big =
    and_below (descended ram (entry_at root TABLE_BYTES (root_index page))) (λ ram pointer.
    and_below (descended ram (entry_at pointer TABLE_BYTES (pointer_index page))) (λ ram leaf.
    ended ram (entry_at leaf (page_table_bytes big) (page_index big page)) space page
    ((table_descriptor pointer).protected || (table_descriptor leaf).protected) write big))

-- MMUSR after a test that ended so
abbrev pub status_of : Found → ℕ
status_of (Entry k status) = status
status_of Invalid = 0
status_of BusError = 0x800

-- P holds of what is to be kept of the page, where it was found
abbrev pub OnEntry : Found → (Kept → Type 0) → Type 0
OnEntry (Entry k status) P = P k
OnEntry Invalid P = Unit {0}
OnEntry BusError P = Unit {0}
