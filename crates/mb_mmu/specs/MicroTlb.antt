-- Entries of a micro-TLB: where the pages stand that accesses led to last.
use Rattle.std.specs.Prelude.{ℕ, ◌+◌, ◌-◌, ◌%◌, ◌^◌, ◌==◌, Bool, true, false, if◌then◌else◌}
use Rattle.std.specs.Prelude.{List, replicate, slice_index_or, slice_set, Option, Some, None}
use Rattle.mb_port.specs.declared.types.Space.{Space}
use Rattle.mb_port.specs.declared.types.Space.TheVariants.{User, Super}
use Rattle.mb_model.specs.declared.rules.TheConstants.{SIDE_CLASSES}
use Rattle.mb_model.specs.Pages.{page_of}
use Rattle.def_machine.specs.declared.reference.Reference.{Reference}
use Rattle.mb_mmu.specs.declared.micro_tlb.Entry.{Entry}
use Rattle.mb_mmu.specs.declared.micro_tlb.Entries.{Entries}
use Rattle.mb_mmu.specs.declared.micro_tlb.MicroTlb.{MicroTlb}
use Rattle.mb_mmu.specs.declared.micro_tlb.TheConstants.{ENTRIES}

-- the place of an address by an entry, if it is of the address's page
abbrev pub place_by : Entry → ℕ → Option ℕ
place_by e at = if page_of at == e.page then Some ((at + e.distance) % 2 ^ 32) else None

-- the entry of the page of an address that leads to a place
abbrev pub entry_to : (at place : ℕ) → Entry
entry_to at place = record { page = page_of at; distance = (place + (2 ^ 32 - at)) % 2 ^ 32 }

-- an entry of no page
abbrev pub empty : Entry
empty = record { page = 2 ^ 20; distance = 0 }

abbrev pub none : Entries
none = record { user = replicate ENTRIES empty; supervisor = replicate ENTRIES empty }

abbrev pub nothing : MicroTlb
nothing = record { fetches = none; reads = none; writes = none }

abbrev pub entries_of : Entries → Space → List Entry
entries_of e User = e.user
entries_of e Super = e.supervisor

-- the entry where one of an address's page would stand
abbrev pub entry_in : Entries → Space → ℕ → Entry
entry_in e space at = slice_index_or (entries_of e space) (page_of at % ENTRIES) empty

abbrev pub entries_for : (code write : Bool) → MicroTlb → Entries
entries_for true write m = m.fetches
entries_for false true m = m.writes
entries_for false false m = m.reads

-- and one of a reference's page
abbrev pub entry_for : MicroTlb → Reference → Entry
entry_for m r = entry_in (entries_for r.code r.write m) r.space r.at

abbrev pub with_in : Entries → Space → Entry → Entries
with_in e User entry = record e { user = slice_set e.user (entry.page % ENTRIES) entry }
with_in e Super entry = record e { supervisor = slice_set e.supervisor (entry.page % ENTRIES) entry }

abbrev pub with_entries : (code write : Bool) → Space → Entry → MicroTlb → MicroTlb
with_entries true write space entry m = record m { fetches = with_in m.fetches space entry }
with_entries false true space entry m = record m { writes = with_in m.writes space entry }
with_entries false false space entry m = record m { reads = with_in m.reads space entry }

-- with an entry for the kind and space of a reference
abbrev pub with_entry : MicroTlb → Reference → Entry → MicroTlb
with_entry m r entry = with_entries r.code r.write r.space entry m

-- entries without what stands where those of a page's class would
abbrev pub without_class : List Entry → (page : ℕ) → List Entry
without_class entries page =
    let class = page % SIDE_CLASSES in
    let once = slice_set (slice_set entries class empty) (class + 16) empty in
    slice_set (slice_set once (class + 32) empty) (class + 48) empty

abbrev pub without_class_in : Entries → (page : ℕ) → Entries
without_class_in e page = record {
  user = without_class e.user page;
  supervisor = without_class e.supervisor page;
}

abbrev pub without_class_of : (code : Bool) → (page : ℕ) → MicroTlb → MicroTlb
without_class_of true page m = record m { fetches = without_class_in m.fetches page }
without_class_of false page m =
    record m { reads = without_class_in m.reads page; writes = without_class_in m.writes page }
