-- Where a read leads that shows nothing.
use Rattle.std.specs.Prelude.{ℕ, ◌==◌, ◌&&◌, not, Bool, false, if◌then◌else◌, length, Option, Some, None}
use Rattle.mb_model.specs.declared.kept.Kept.{Kept}
use Rattle.mb_model.specs.Keeping.{rule_k, list_of}
use Rattle.mb_model.specs.Pages.{page_of, has_big_pages}
use Rattle.mb_walk.specs.Quiet.{found_used}
use Rattle.def_machine.specs.declared.reference.Reference.{Reference}
use Rattle.def_machine.specs.declared.reference.Settled.{Settled}
use Rattle.def_machine.specs.declared.reference.Settled.TheVariants.{To, Refused, Unsettled}
use Rattle.def_machine.specs.World.{World}
use Rattle.def_machine.specs.Access.{root_of, settled, through}
use Rattle.vm_shadow.specs.Slots.{is_full_for}
use Rattle.def_guests.specs.Guests.{Guest}
use Rattle.def_guests.specs.Bus.{is_split, is_in_ram}

abbrev pub seen_found : Reference → Option Kept → Option ℕ
seen_found r None = None
seen_found r (Some k) = through k r

-- by what is known of it: where neither its search changes a byte nor its fill drops an entry
abbrev pub seen_by : World → Reference → Settled → Option ℕ
seen_by w r (To at) = Some at
seen_by w r Refused = None
seen_by w r Unsettled =
    if length (list_of 0 w.kept) == rule_k.capacity then None
    else seen_found r (found_used w.ram (root_of w.mmu r.space) r.space (page_of r.at) (has_big_pages w.mmu))

abbrev pub seen : World → Reference → Option ℕ
seen w r = seen_by w r (settled rule_k w.mmu w.kept r)

-- a read that was seen so is refilled on a page of RAM that is not split, where its put does not find the area full
abbrev pub refills_seen : Guest → Reference → Option ℕ → Bool
refills_seen g r None = false
refills_seen g r (Some at) =
    is_in_ram (length g.world.ram) at && (not (is_split g.world.mmu r.space (page_of r.at))
    && not (is_full_for r.space (page_of r.at) g.shadow.tables))
