-- The tables of an area, in its slots.
use Rattle.std.specs.Prelude.{◌≡◌, ℕ, ◌/◌, ◌^◌, ◌==◌, ◌&&◌, ◌<◌, Bool, true, false, not, nat_lt, if◌then◌else◌}
use Rattle.std.specs.Prelude.{List, [], ◌∷◌, ◌++◌, length, get_or}
use Rattle.std.specs.List.{position_or_len}
use Rattle.mb_port.specs.declared.types.Space.{Space}
use Rattle.mb_model.specs.Keeping.{same_space}
use Rattle.vm_shadow.specs.declared.table.Table.{Table}
use Rattle.vm_shadow.specs.declared.table.Table.TheVariants.{Pointers, Pages}
use Rattle.vm_shadow.specs.declared.nodes.TheConstants.{SLOTS}

-- a shadow, but for what its tables hold
pub record Slots : Type 0 where
  -- the address of its area
  pub area : ℕ
  -- the tables that stand, in the order in which they came to stand
  pub tables : List Table
  -- the slot of each
  pub places : List ℕ
  -- how many longs of each slot are not 0
  pub counts : List ℕ

abbrev pub same_table : Table → Table → Bool
same_table (Pointers space index) (Pointers other number) = same_space space other && (index == number)
same_table (Pointers space index) (Pages other number) = false
same_table (Pages space index) (Pointers other number) = false
same_table (Pages space index) (Pages other number) = same_space space other && (index == number)

-- which of the tables a table is, or how many they are
abbrev pub number_of : Table → List Table → ℕ
number_of table tables = position_or_len (same_table table) tables

-- a table stands
abbrev pub Has : List Table → Table → Type 0
Has tables table = number_of table tables < length tables

-- no table stands twice
abbrev pub once : List Table → Bool
once [] = true
once (table ∷ tables) = not (nat_lt (number_of table tables) (length tables)) && once tables

abbrev pub Once : List Table → Type 0
Once tables = once tables ≡ true

-- the same, with the slot of a table that stands and the count of a slot as functions
pub record Placed : Type 0 where
  pub area : ℕ
  pub tables : List Table
  pub slot : Table → ℕ
  pub count : ℕ → ℕ

abbrev pub placed : Slots → Placed
placed s = record {
  area = s.area;
  tables = s.tables;
  slot = λ table. get_or s.places (number_of table s.tables) 0;
  count = λ number. get_or s.counts number 0;
}

-- the tables once this one stands
abbrev pub with_table : Table → List Table → List Table
with_table table tables = if nat_lt (number_of table tables) (length tables) then tables else tables ++ table ∷ []

-- the two tables that an entry of a page needs: of its space and root index, and of its pointer index below it
abbrev pub pointers_of : Space → ℕ → Table
pointers_of space page = Pointers space (page / 2 ^ 13)

abbrev pub pages_of : Space → ℕ → Table
pages_of space page = Pages space (page / 2 ^ 6)

-- the tables once both stand
abbrev pub tables_for : Space → ℕ → List Table → List Table
tables_for space page tables = with_table (pages_of space page) (with_table (pointers_of space page) tables)

-- are these more than there are slots
abbrev pub is_full_for : Space → ℕ → List Table → Bool
is_full_for space page tables = nat_lt SLOTS (length (tables_for space page tables))
