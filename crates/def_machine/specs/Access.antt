-- Access: where a reference to memory leads, by a rule of keeping.
use Rattle.std.specs.Prelude.{ℕ, ◌+◌, ◌*◌, ◌&&◌, not, Bool, true, false, if◌then◌else◌}
use Rattle.std.specs.Prelude.{Option, Some, None}
use Rattle.mb_port.specs.declared.types.Space.{Space}
use Rattle.mb_port.specs.declared.types.Space.TheVariants.{User, Super}
use Rattle.mb_port.specs.declared.types.Mmu.{Mmu}
use Rattle.mb_port.specs.declared.translation.TheConstants.{E}
use Rattle.mb_port.specs.Bits.{has_bit}
use Rattle.mb_model.specs.declared.kept.Kept.{Kept}
use Rattle.mb_model.specs.Pages.{page_of, offset_of, has_big_pages}
use Rattle.mb_model.specs.declared.pages.TheConstants.{PAGE_SIZE}
use Rattle.mb_model.specs.Keeping.{KeptLists, Rule, entry_for, filled}
use Rattle.mb_walk.specs.Transparent.{transparent_of}
use Rattle.mb_walk.specs.declared.found.Found.{Found}
use Rattle.mb_walk.specs.declared.found.Found.TheVariants.{Entry, Invalid, BusError}
use Rattle.mb_walk.specs.Descriptors.{is_user}
use Rattle.mb_walk.specs.Search.{Searched, search_of}
use Rattle.def_machine.specs.declared.reference.Reference.{Reference}
use Rattle.def_machine.specs.declared.reference.Settled.{Settled}
use Rattle.def_machine.specs.declared.reference.Settled.TheVariants.{To, Refused, Unsettled}
use Rattle.def_machine.specs.World.{World}

-- ---- no table

-- what the side's transparent registers say: W of the first that matches
abbrev pub matched : Bool → Mmu → Space → ℕ → Option Bool
matched true mmu space page = transparent_of mmu.itt0 mmu.itt1 space page
matched false mmu space page = transparent_of mmu.dtt0 mmu.dtt1 space page

-- E of TC
abbrev pub is_translating : Mmu → Bool
is_translating mmu = has_bit mmu.tc E

abbrev pub or_off : Mmu → Option Bool → Option Bool
or_off mmu (Some protected) = Some protected
or_off mmu None = if is_translating mmu then None else Some false

-- 1 and 2: a transparent register matches, or translation is off. The physical address is the logical one; told is
-- whether writes are refused there
abbrev pub untranslated : Mmu → Reference → Option Bool
untranslated mmu r = or_off mmu (matched r.code mmu r.space (page_of r.at))

-- ---- an entry

-- 5: an entry with W refuses a write, one with S refuses user space
abbrev pub admits : Kept → Reference → Bool
admits k r = not (k.w && r.write) && not (k.s && is_user r.space)

-- a write that it admits through an entry whose M is clear: the page is to be marked first
abbrev pub marks : Kept → Reference → Bool
marks k r = r.write && admits k r && not k.m

-- the same byte in the frame
abbrev pub in_frame : Kept → ℕ → ℕ
in_frame k at = PAGE_SIZE * k.frame + offset_of at

-- the physical address through an entry; none where it refuses
abbrev pub through : Kept → Reference → Option ℕ
through k r = if admits k r then Some (in_frame k r.at) else None

-- ---- what is known without a search

-- P holds of the place to which a reference is known to lead
abbrev pub LeadsTo : Settled → (ℕ → Type 0) → Type 0
LeadsTo (To at) P = P at
LeadsTo Refused P = Unit {0}
LeadsTo Unsettled P = Unit {0}

abbrev pub known : Option ℕ → Settled
known (Some at) = To at
known None = Refused

-- 3: a kept entry serves, but for a write that marks the page
abbrev pub by_entry : Reference → Option Kept → Settled
by_entry r None = Unsettled
by_entry r (Some k) = if marks k r then Unsettled else known (through k r)

abbrev pub by_match : Rule → KeptLists → Reference → Option Bool → Settled
by_match rule kept r (Some protected) = if protected && r.write then Refused else To r.at
by_match rule kept r None = by_entry r (entry_for rule r.code r.space (page_of r.at) kept)

-- A place, a refusal, or that a search is needed.
abbrev pub settled : Rule → Mmu → KeptLists → Reference → Settled
settled rule mmu kept r = by_match rule kept r (untranslated mmu r)

-- ---- the search

abbrev pub root_of : Mmu → Space → ℕ
root_of mmu User = mmu.urp
root_of mmu Super = mmu.srp

-- the search for a page of 4 KiB of a space, by the registers
abbrev pub page_search : World → Space → ℕ → Bool → Searched
page_search w space page write = search_of w.ram (root_of w.mmu space) space page write (has_big_pages w.mmu)

-- the search for a reference
abbrev pub search_for : World → Reference → Searched
search_for w r = page_search w r.space (page_of r.at) r.write

-- 4 and 5: the entry that was found is kept, also where it refuses; a failed search is not
abbrev pub by_found : Rule → World → Reference → Found → Option ℕ × World
by_found rule w r (Entry k mmusr) = (through k r, record w { kept = filled rule r.code k w.kept })
by_found rule w r Invalid = (None, w)
by_found rule w r BusError = (None, w)

abbrev pub by_search : Rule → World → Reference → Searched → Option ℕ × World
by_search rule w r s = by_found rule (record w { ram = s.ram }) r s.found

abbrev pub searched : Rule → World → Reference → Option ℕ × World
searched rule w r = by_search rule w r (search_for w r)

-- ---- the whole

abbrev pub by_settled : Rule → World → Reference → Settled → Option ℕ × World
by_settled rule w r (To at) = (Some at, w)
by_settled rule w r Refused = (None, w)
by_settled rule w r Unsettled = searched rule w r

-- The physical address that a reference leads to, or none where it is refused, with the world after it.
unfoldable pub translated : Rule → Reference → World → Option ℕ × World
translated rule r w = by_settled rule w r (settled rule w.mmu w.kept r)
