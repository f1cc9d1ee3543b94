-- The descriptors of the translation tables, as read from their longs.
use Rattle.std.specs.Prelude.{ℕ, ◌+◌, ◌*◌, ◌/◌, ◌%◌, ◌^◌, ◌==◌, ◌&&◌, ◌||◌, Bool, true, false, not, if◌then◌else◌}
use Rattle.std.specs.Prelude.{bit_and}
use Rattle.mb_port.specs.declared.types.Space.{Space}
use Rattle.mb_port.specs.declared.types.Space.TheVariants.{User, Super}
use Rattle.mb_model.specs.declared.kept.Kept.{Kept}
use Rattle.mb_model.specs.Pages.{page_of}
use Rattle.mb_walk.specs.declared.descriptors.TableDescriptor.{TableDescriptor}
use Rattle.mb_walk.specs.declared.descriptors.PageDescriptor.{PageDescriptor}
use Rattle.mb_walk.specs.declared.searching.TheConstants.{BIG_PAGE_TABLE_BYTES, PAGE_TABLE_BYTES}

-- a long with the bit of this number set
abbrev pub with_bit : ℕ → ℕ → ℕ
with_bit long bit = if long / 2 ^ bit % 2 == 1 then long else long + 2 ^ bit

-- an entry of a root or pointer table, as read from its long
abbrev pub table_descriptor : ℕ → TableDescriptor
table_descriptor long = record {
  resident = long / 2 ^ 1 % 2 == 1;
  protected = long / 2 ^ 2 % 2 == 1;
  used = long / 2 ^ 3 % 2 == 1;
}

-- an entry of a page table, as read from its long
abbrev pub page_descriptor : ℕ → PageDescriptor
page_descriptor long = record {
  resident = long % 2 == 1;
  indirect = long % 4 == 2;
  protected = long / 2 ^ 2 % 2 == 1;
  used = long / 2 ^ 3 % 2 == 1;
  modified = long / 2 ^ 4 % 2 == 1;
  supervisor = long / 2 ^ 7 % 2 == 1;
  global = long / 2 ^ 10 % 2 == 1;
  frame = page_of long;
}

-- a descriptor marked as used, and as modified
abbrev pub with_used : ℕ → ℕ
with_used long = with_bit long 3

abbrev pub with_modified : ℕ → ℕ
with_modified long = with_bit long 4

-- the place that an indirect descriptor names
abbrev pub indirection : ℕ → ℕ
indirection long = long / 4 * 4

-- the bytes of a page table, of pages of 4 KiB or of 8 KiB
abbrev pub page_table_bytes : Bool → ℕ
page_table_bytes big = if big then BIG_PAGE_TABLE_BYTES else PAGE_TABLE_BYTES

-- a page's indices: bits 31 to 25 and 24 to 18 of its address, and 17 to 12, or 17 to 13 where pages have 8 KiB
abbrev pub root_index : ℕ → ℕ
root_index page = page / 2 ^ 13

abbrev pub pointer_index : ℕ → ℕ
pointer_index page = page / 2 ^ 6 % 2 ^ 7

abbrev pub page_index : Bool → ℕ → ℕ
page_index big page = if big then page / 2 % 2 ^ 5 else page % 2 ^ 6

-- the place of the entry of this index in the table of so many bytes that a root or a descriptor names
abbrev pub entry_at : ℕ → ℕ → ℕ → ℕ
entry_at table bytes index = table / bytes * bytes + 4 * index

abbrev pub is_user : Space → Bool
is_user User = true
is_user Super = false

-- does a page, reached with write protection above it or not, take writes from a space
abbrev pub page_takes_writes : PageDescriptor → Bool → Space → Bool
page_takes_writes d protected space = not (protected || d.protected) && not (d.supervisor && is_user space)

-- the long of a page's descriptor once it is marked used, and modified where a write is made that it takes
abbrev pub marked : ℕ → Bool → Space → Bool → ℕ
marked long protected space write =
    if write && page_takes_writes (page_descriptor long) protected space then with_modified (with_used long)
    else with_used long

-- the frame of a page of 4 KiB: that of its descriptor, or where pages have 8 KiB the half of it that bit 12 of the
-- address names
abbrev pub frame_for : Bool → ℕ → ℕ → ℕ
frame_for big frame page = if big then frame / 2 * 2 + page % 2 else frame

-- what is kept of a page's descriptor, for a page of 4 KiB
abbrev pub kept_of : PageDescriptor → Bool → Space → ℕ → Bool → Kept
kept_of d protected space page big = record {
  space = space;
  page = page;
  frame = frame_for big d.frame page;
  w = protected || d.protected;
  s = d.supervisor;
  g = d.global;
  m = d.modified;
}

-- the bits of a page's descriptor that MMUSR shows: 31 to 12, or where pages have 8 KiB 31 to 13, and 10 to 4
abbrev pub shown_of : ℕ → Bool → ℕ
shown_of long big = if big then bit_and long 0xFFFFE7F0 else bit_and long 0xFFFFF7F0

-- MMUSR for a page's descriptor: those bits, in bit 2 W of it or of a table above it, and R in bit 0
abbrev pub resident_status : ℕ → Bool → Bool → ℕ
resident_status long w big = shown_of long big + (if w then 5 else 1)
