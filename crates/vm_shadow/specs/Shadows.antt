-- What a shadow holds, and what each call makes of it.
use Rattle.std.specs.Prelude.{◌≡◌, ℕ, zero, suc, ◌+◌, ◌*◌, ◌^◌, ◌==◌, ◌&&◌, ◌||◌, ◌⊎◌, Bool, true, false, if◌then◌else◌}
use Rattle.std.specs.Prelude.{List, [], filter, Option, Some, None, is_some}
use Rattle.mb_port.specs.declared.types.Space.{Space}
use Rattle.mb_model.specs.Keeping.{same_space}
use Rattle.vm_shadow.specs.declared.table.Table.{Table}
use Rattle.vm_shadow.specs.declared.table.Table.TheVariants.{Pointers, Pages}
use Rattle.vm_shadow.specs.Slots.{tables_for, is_full_for, pointers_of, pages_of, Has, Once}

-- what a page of a space leads to: a frame of the board, and whether it takes writes
abbrev pub EntryMap : Type 0
EntryMap = Space → ℕ → Option (ℕ × Bool)

pub record Shadowed : Type 0 where
  -- at most one entry a space and page
  pub entries : EntryMap
  -- the tables that stand, in the order in which they came to stand
  pub tables : List Table

abbrev pub is_at : Space → ℕ → Space → ℕ → Bool
is_at space page of number = same_space space of && (page == number)

-- with this entry of a page of a space in place of an older one, or with none of it
abbrev pub with_entry : Space → ℕ → Option (ℕ × Bool) → EntryMap → EntryMap
with_entry space page entry entries of number = if is_at space page of number then entry else entries of number

abbrev pub with_page : Space → ℕ → Option (ℕ × Bool) → Shadowed → Shadowed
with_page space page entry shadow =
    record { entries = with_entry space page entry shadow.entries; tables = shadow.tables }

-- nothing stands
abbrev pub nothing : Shadowed
nothing = record { entries = λ space page. None; tables = [] }

-- before a page is filled: where the slots do not suffice, everything goes
abbrev pub room_for : Space → ℕ → Shadowed → Shadowed
room_for space page shadow = if is_full_for space page shadow.tables then nothing else shadow

-- with both tables that an entry of a page needs
abbrev pub with_tables : Space → ℕ → Shadowed → Shadowed
with_tables space page shadow = record { entries = shadow.entries; tables = tables_for space page shadow.tables }

-- after a fill
abbrev pub with_page_put : Space → ℕ → ℕ → Bool → Shadowed → Shadowed
with_page_put space page frame writable shadow =
    with_page space page (Some (frame, writable)) (with_tables space page (room_for space page shadow))

-- whether one of so many pages from a first on has an entry
unfoldable pub has_entry : EntryMap → Space → ℕ → ℕ → Bool
has_entry entries space first zero = false
has_entry entries space first (suc n) = is_some (entries space (first + n)) || has_entry entries space first n

-- whether an entry needs a table
abbrev pub is_needed : EntryMap → Table → Bool
is_needed entries (Pointers space index) = has_entry entries space (2 ^ 13 * index) (2 ^ 13)
is_needed entries (Pages space index) = has_entry entries space (2 ^ 6 * index) (2 ^ 6)

-- without the tables that no entry needs
abbrev pub trimmed : Shadowed → Shadowed
trimmed shadow = record { entries = shadow.entries; tables = filter (is_needed shadow.entries) shadow.tables }

-- after an entry is dropped: a table that no other needs goes with it
abbrev pub dropped : Space → ℕ → Shadowed → Shadowed
dropped space page shadow = trimmed (with_page space page None shadow)

-- an entry needs a table: that of its space and root index, or that of its pointer index below it
pub record Needs (entries : EntryMap) (table : Table) : Type 0 where
  pub space : Space
  pub page : ℕ
  pub entry : is_some (entries space page) ≡ true
  pub two : (table ≡ pointers_of space page) ⊎ (table ≡ pages_of space page)

-- The tables that stand are those that the entries need, and each stands once.
pub record AreNeeded (shadow : Shadowed) : Type 0 where
  pub standing : (table : Table) → Has shadow.tables table → Needs shadow.entries table
  pub needed : (table : Table) → Needs shadow.entries table → Has shadow.tables table
  pub once : Once shadow.tables
