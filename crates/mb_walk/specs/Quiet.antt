-- A search of tables all of whose descriptors on the way are marked as used: it changes no byte.
use Rattle.std.specs.Prelude.{ℕ, ◌&&◌, ◌||◌, Bool, if◌then◌else◌, List, Option, Some, None}
use Rattle.mb_port.specs.declared.types.Space.{Space}
use Rattle.mb_model.specs.declared.kept.Kept.{Kept}
use Rattle.mb_walk.specs.Memory.{number_at}
use Rattle.mb_walk.specs.Descriptors.{table_descriptor, page_descriptor, indirection, kept_of}
use Rattle.mb_walk.specs.Descriptors.{page_table_bytes, root_index, pointer_index, page_index, entry_at}
use Rattle.mb_walk.specs.declared.searching.TheConstants.{TABLE_BYTES}
use Rattle.mb_walk.specs.Search.{is_inside}

-- the descriptor of a resident table, where it is marked
unfoldable pub used_table : List ℕ → ℕ → Option ℕ
used_table ram place =
    let long = number_at ram place 4 in
    let table = table_descriptor long in
    if is_inside ram place && (table.resident && table.used) then Some long else None

abbrev pub below_used : Option ℕ → (ℕ → Option Kept) → Option Kept
below_used None next = None
below_used (Some descriptor) next = next descriptor

-- what is kept of a resident page, where its descriptor is marked
abbrev pub used_page : ℕ → Space → ℕ → Bool → Bool → Option Kept
used_page long space page protected big =
    if (page_descriptor long).resident && (page_descriptor long).used
    then Some (kept_of (page_descriptor long) protected space page big) else None

-- behind an indirect descriptor
abbrev pub used_behind : List ℕ → ℕ → Space → ℕ → Bool → Bool → Option Kept
used_behind ram place space page protected big =
    if is_inside ram place then used_page (number_at ram place 4) space page protected big else None

-- by the entry of the page's table
unfoldable pub used_entry : List ℕ → ℕ → Space → ℕ → Bool → Bool → Option Kept
used_entry ram place space page protected big =
    let long = number_at ram place 4 in
    if is_inside ram place
    then (if (page_descriptor long).indirect then used_behind ram (indirection long) space page protected big
    else used_page long space page protected big)
    else None

-- What such a search for a read finds.
abbrev pub found_used : List ℕ → ℕ → Space → ℕ → Bool → Option Kept
found_used ram root space page big =
    below_used (used_table ram (entry_at root TABLE_BYTES (root_index page))) (λ pointer.
    below_used (used_table ram (entry_at pointer TABLE_BYTES (pointer_index page))) (λ leaf.
    used_entry ram (entry_at leaf (page_table_bytes big) (page_index big page)) space page
    ((table_descriptor pointer).protected || (table_descriptor leaf).protected) big))
