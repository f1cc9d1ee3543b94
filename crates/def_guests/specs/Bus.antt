-- The guest's bus: its machine's, with what each call makes of the shadow.
use Rattle.std.specs.Prelude.{ℕ, ◌+◌, ◌*◌, ◌&&◌, not, Bool, true, false, nat_le, if◌then◌else◌}
use Rattle.std.specs.Prelude.{List, [], ◌∷◌, length, Option, Some, None, is_some}
use Rattle.mb_port.specs.Routine.{Call, Bus, SetMmu, FlushKept, Test}
use Rattle.mb_port.specs.declared.types.Space.{Space}
use Rattle.mb_port.specs.declared.types.Mmu.{Mmu}
use Rattle.mb_port.specs.declared.types.Flush.{Flush}
use Rattle.mb_port.specs.declared.types.Flush.TheVariants.{All, Page}
use Rattle.mb_model.specs.declared.kept.Kept.{Kept}
use Rattle.mb_model.specs.Keeping.{KeptLists, rule_k, covers, displaced, flushed, list_of}
use Rattle.mb_model.specs.Pages.{page_of, has_big_pages, other_half}
use Rattle.mb_model.specs.declared.pages.TheConstants.{PAGE_SIZE}
use Rattle.mb_walk.specs.declared.found.Found.{Found}
use Rattle.mb_walk.specs.declared.found.Found.TheVariants.{Entry, Invalid, BusError}
use Rattle.def_machine.specs.declared.reference.Reference.{Reference}
use Rattle.def_machine.specs.declared.reference.Settled.{Settled}
use Rattle.def_machine.specs.declared.reference.Settled.TheVariants.{To, Refused, Unsettled}
use Rattle.def_machine.specs.World.{World}
use Rattle.def_machine.specs.Access.{matched, search_for, settled, translated}
use Rattle.def_machine.specs.Bus.{bus_of, reference_of, writing_of}
use Rattle.vm_shadow.specs.Shadows.{Shadowed, nothing, with_page_put, dropped}
use Rattle.def_guests.specs.Guests.{Guest, allows}

-- ---- Leaving: the shadow loses the entry of each kept entry that goes

-- the kept entry that the fill of what a search found drops or replaces
abbrev pub gone_found : World → Found → Option Kept
gone_found w (Entry k status) = displaced rule_k.capacity k (list_of 0 w.kept)
gone_found w Invalid = None
gone_found w BusError = None

-- by what is known of a reference: where nothing settles it, its search fills
abbrev pub gone_settled : World → Reference → Settled → Option Kept
gone_settled w r (To at) = None
gone_settled w r Refused = None
gone_settled w r Unsettled =
    gone_found w (search_for w r).found

-- the kept entry that goes at an access
abbrev pub gone : World → Reference → Option Kept
gone w r = gone_settled w r (settled rule_k w.mmu w.kept r)

-- the shadow once this kept entry has gone
abbrev pub without_kept : Option Kept → Shadowed → Shadowed
without_kept None shadow = shadow
without_kept (Some k) shadow = dropped k.space k.page shadow

-- the shadow once all of these have gone that a flush covers
abbrev pub dropped_all : Flush → List Kept → Shadowed → Shadowed
dropped_all what [] shadow = shadow
dropped_all what (k ∷ kept) shadow =
    dropped_all what kept (if covers what k then dropped k.space k.page shadow else shadow)

-- PFLUSHA removes all entries and tables, any other flush the entry of each kept entry that goes.
abbrev pub shadow_after_flush : Flush → KeptLists → Shadowed → Shadowed
shadow_after_flush All kept shadow = nothing
shadow_after_flush what kept shadow = dropped_all what (list_of 0 kept) shadow

-- PTEST drops the kept entries of its page, and of the other half of it where pages have 8 KiB,
abbrev pub shadow_after_drop : Bool → Space → ℕ → KeptLists → Shadowed → Shadowed
shadow_after_drop false space page kept shadow = shadow_after_flush (Page space page) kept shadow
shadow_after_drop true space page kept shadow =
    shadow_after_flush (Page space (other_half page)) (flushed (Page space page) kept)
    (shadow_after_flush (Page space page) kept shadow)

-- where no transparent register matches.
abbrev pub shadow_after_test : Bool → Option Bool → Space → ℕ → KeptLists → Shadowed → Shadowed
shadow_after_test big (Some protected) space page kept shadow = shadow
shadow_after_test big None space page kept shadow = shadow_after_drop big space page kept shadow

-- ---- Put: the shadow gains the entry of an access

-- one of them, and not the other
abbrev pub differ : Bool → Bool → Bool
differ true b = not b
differ false b = b

-- A page is split where exactly one of the two sides has a transparent register that matches it.
abbrev pub is_split : Mmu → Space → ℕ → Bool
is_split mmu space page = differ (is_some (matched true mmu space page)) (is_some (matched false mmu space page))

-- the page of a physical address lies in RAM of this size
abbrev pub is_in_ram : ℕ → ℕ → Bool
is_in_ram size at = nat_le (PAGE_SIZE * page_of at + PAGE_SIZE) size

-- it is known where a reference leads
abbrev pub is_to : Settled → Bool
is_to (To at) = true
is_to Refused = false
is_to Unsettled = false

-- A data write to the page now would need no search and not be refused.
abbrev pub is_writable : World → Space → ℕ → Bool
is_writable w space page = is_to (settled rule_k w.mmu w.kept (writing_of space (PAGE_SIZE * page)))

-- An access that leads to this physical address puts an entry: its page is one of RAM and not split, and the shadow
-- does not allow the access.
abbrev pub puts_entry : World → Reference → Shadowed → ℕ → Bool
puts_entry w r shadow at =
    is_in_ram (length w.ram) at && (not (is_split w.mmu r.space (page_of r.at)) && not (allows shadow r))

-- The entry's frame is the access's. Where the area is full for it, all entries and tables go first.
abbrev pub put_entry_of : World → Reference → Shadowed → Option ℕ → Shadowed
put_entry_of w r shadow None = shadow
put_entry_of w r shadow (Some at) =
    if puts_entry w r shadow at
    then with_page_put r.space (page_of r.at) (page_of at) (is_writable w r.space (page_of r.at)) shadow else shadow

-- ---- the bus

-- What an access makes of the shadow: first the kept entry that its fill drops takes its own entry along, and then the
-- access puts an entry, by the world that its translation leaves.
abbrev pub accessed : Reference → World → Shadowed → Shadowed
accessed r w shadow =
    let (at, after) = translated rule_k r w in put_entry_of after r (without_kept (gone w r) shadow) at

-- a call that translates nothing leaves the shadow
abbrev pub shadow_by : Option Reference → World → Shadowed → Shadowed
shadow_by (Some r) w shadow = accessed r w shadow
shadow_by None w shadow = shadow

-- What each call makes of the shadow, in the world before it. A MOVEC that forgets removes all entries and tables.
abbrev pub shadow_after : Call → World → Shadowed → Shadowed
shadow_after (SetMmu which value) w shadow = if rule_k.forgets which then nothing else shadow
shadow_after (FlushKept what) w shadow = shadow_after_flush what w.kept shadow
shadow_after (Test space at write) w shadow =
    let page = page_of at in
    shadow_after_test (has_big_pages w.mmu) (matched false w.mmu space page) space page w.kept shadow
shadow_after c w shadow = shadow_by (reference_of c) w shadow

-- The bus of a guest: what it answers, and what it makes of the world, is its machine's by the rule of guests.
abbrev pub guest_bus : Bus Guest
guest_bus c g =
    let (answer, after) = bus_of rule_k c g.world in
    (answer, record { world = after; shadow = shadow_after c g.world g.shadow })
