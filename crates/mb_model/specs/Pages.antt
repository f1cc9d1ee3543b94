-- Pages of memory.
use Rattle.std.specs.Prelude.{ℕ, ◌+◌, ◌-◌, ◌/◌, ◌%◌, ◌==◌, Bool, if◌then◌else◌}
use Rattle.mb_port.specs.declared.types.Mmu.{Mmu}
use Rattle.mb_port.specs.declared.translation.TheConstants.{P}
use Rattle.mb_port.specs.Bits.{has_bit}
use Rattle.mb_model.specs.declared.pages.TheConstants.{PAGE_SIZE, BIG_PAGE_SIZE}

-- the number of the page that an address lies in
abbrev pub page_of : ℕ → ℕ
page_of at = at / PAGE_SIZE

-- the place of an address within its page
abbrev pub offset_of : ℕ → ℕ
offset_of at = at % PAGE_SIZE

-- ---- pages of 8 KiB

-- P of TC: the tables are those of pages of 8 KiB
abbrev pub has_big_pages : Mmu → Bool
has_big_pages mmu = has_bit mmu.tc P

-- the bytes of a page of the tables
abbrev pub page_size_by : Mmu → ℕ
page_size_by mmu = if has_big_pages mmu then BIG_PAGE_SIZE else PAGE_SIZE

-- the page of 4 KiB that is the other half of the page of 8 KiB
abbrev pub other_half : ℕ → ℕ
other_half page = if page % 2 == 0 then page + 1 else page - 1
