-- A board in user mode, beside the guest that it runs.
use Rattle.std.specs.Prelude.{◌≡◌, ℕ, ◌+◌, ◌%◌, ◌≤◌, not, Bool, true, false, List, Option, Some, None}
use Rattle.mb_port.specs.declared.types.Space.{Space}
use Rattle.mb_port.specs.declared.types.Space.TheVariants.{User}
use Rattle.law_routines.specs.Between as between
use Rattle.mb_model.specs.declared.kept.Kept.{Kept}
use Rattle.mb_model.specs.Keeping.{KeptLists}
use Rattle.mb_model.specs.Pages.{has_big_pages}
use Rattle.mb_walk.specs.Memory.{AreBytes, part}
use Rattle.def_machine.specs.World.{World}
use Rattle.def_machine.specs.Access.{untranslated}
use Rattle.def_runs.specs.Free.{IsKept}
use Rattle.vm_shadow.specs.Slots.{Slots}
use Rattle.vm_shadow.specs.Mapped.{shadowed, root_of}
use Rattle.vm_shadow.specs.Area.{Maps}
use Rattle.def_guests.specs.Guests.{Guest, Truthful, ref}
use Rattle.def_guests.specs.Seats.{on_board}
use Rattle.mb_model.specs.declared.pages.TheConstants.{PAGE_SIZE}

-- where a guest stands on the board: its RAM, its tables, and its present space
pub record Site : Type 0 where
  pub base : ℕ
  pub size : ℕ
  pub slots : Slots
  pub space : Space

-- the two spaces of its calls
abbrev pub setting : Site → between.Setting
setting x = record { here = User; there = x.space; base = x.base; faults = true; refuses = true }

-- A kept entry of user space is what the tables say of its page. Its M may be either.
abbrev pub Agrees : (ℕ → Option (ℕ × Bool)) → Kept → Type 0
Agrees entries k = k.space ≡ User → (entries k.page ≡ Some (k.frame, not k.w)) × (k.s ≡ false)

abbrev pub AllAgree : (ℕ → Option (ℕ × Bool)) → KeptLists → Type 0
AllAgree entries kept = (k : Kept) → IsKept k kept → Agrees entries k

-- what the tables of the present space map
abbrev pub mapping : Site → List ℕ → ℕ → Option (ℕ × Bool)
mapping x ram page = (shadowed x.slots ram).entries x.space page

-- The board stands ready to run the guest in user mode: the guest's bytes are a part of its bytes, the tables map
-- exactly the shadow, of pages of 4 KiB, and no kept entry says anything else. All else of the board is free.
pub record Related (x : Site) (b : World) (g : Guest) : Type 0 where
  pub bytes : AreBytes b.ram
  pub maps : Maps x.slots b.ram
  pub under : x.base + x.size ≤ x.slots.area
  pub whole : x.base % PAGE_SIZE ≡ 0
  pub ram : part b.ram x.base x.size ≡ g.world.ram
  pub root : b.mmu.urp ≡ root_of x.slots.area x.space
  pub small : has_big_pages b.mmu ≡ false
  pub shadow : shadowed x.slots b.ram ≡ on_board x.base g.shadow
  pub kept : AllAgree (mapping x b.ram) b.kept
  pub no_match : (code : Bool) (at : ℕ) (write : Bool) → untranslated b.mmu (ref code User at write) ≡ None
  pub truthful : Truthful x.size g

-- There is a guest that the board serves.
abbrev pub Serves : Site → World → Type 0
Serves x b = (g : Guest) × Related x b g
