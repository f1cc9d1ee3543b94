-- The board is made ready for a guest, and stays so.
use Rattle.std.specs.Prelude.{◌≡◌, ℕ, ◌+◌, ◌*◌, ◌/◌, ◌%◌, ◌^◌, ◌<◌, ◌≤◌, Bool, false, Some, None, length, take, drop}
use Rattle.mb_port.specs.declared.types.Space.{Space}
use Rattle.mb_port.specs.declared.types.Space.TheVariants.{User, Super}
use Rattle.mb_port.specs.declared.types.Mmu.{Mmu}
use Rattle.mb_port.specs.declared.translation.TheConstants.{E, MASK, S}
use Rattle.mb_model.specs.Keeping.{rule_a, nothing_kept}
use Rattle.mb_walk.specs.Memory.{AreBytes, part}
use Rattle.def_machine.specs.World.{World}
use Rattle.def_machine.specs.Access.{untranslated, translated}
use Rattle.vm_shadow.specs.Shadows.{Shadowed, nothing, with_page_put, dropped}
use Rattle.vm_shadow.specs.Mapped.{root_of, shadowed}
use Rattle.vm_shadow.specs.declared.area.TheConstants.{AREA_BYTES}
use Rattle.vm_shadow.specs.Area.{Maps}
use Rattle.def_guests.specs.Guests.{Guest, Truthful, ref}
use Rattle.law_mirror.specs.Related.{Site, Related}
use Rattle.def_guests.specs.Seats.{on_board}
use Rattle.mb_model.specs.declared.pages.TheConstants.{PAGE_SIZE}

-- the board's translation registers while a guest runs: user space by its tables, and the supervisor's operands at
-- their own addresses, all of which DTT0 matches
abbrev pub native_mmu : ℕ → Mmu
native_mmu root = record {
  tc = E;
  itt0 = 0;
  itt1 = 0;
  dtt0 = 0xFF * MASK + S + E;
  dtt1 = 0;
  mmusr = 0;
  urp = root;
  srp = 0;
}

abbrev pub NativeTranslation : Type 0
NativeTranslation = (root at : ℕ) (code write : Bool) → at < 2 ^ 32
    → (untranslated (native_mmu root) (ref code User at write) ≡ None)
    × (untranslated (native_mmu root) (ref false Super at write) ≡ Some false)

-- An operand of the supervisor stands at its own address, and nothing is searched or kept.
abbrev pub EntersUntranslated : Type 0
EntersUntranslated = (b : World) (at : ℕ) (write : Bool) → untranslated b.mmu (ref false Super at write) ≡ Some false
    → translated rule_a (ref false Super at write) b ≡ (Some at, b)

-- With nothing kept, the tables alone say that the board is ready.
abbrev pub StartsFlushed : Type 0
StartsFlushed = (x : Site) (b : World) (g : Guest) → AreBytes b.ram → Maps x.slots b.ram
    → x.base + x.size ≤ x.slots.area → x.base % PAGE_SIZE ≡ 0 → part b.ram x.base x.size ≡ g.world.ram
    → shadowed x.slots b.ram ≡ on_board x.base g.shadow → Truthful x.size g
    → Related x (record b { mmu = native_mmu (root_of x.slots.area x.space); kept = nothing_kept rule_a }) g

-- What changes elsewhere in memory, or of the devices, leaves the board ready.
abbrev pub StaysReady : Type 0
StaysReady = (x : Site) (b after : World) (g : Guest) → Related x b g → AreBytes after.ram
    → length after.ram ≡ length b.ram → part after.ram x.base x.size ≡ part b.ram x.base x.size
    → take AREA_BYTES (drop x.slots.area after.ram) ≡ take AREA_BYTES (drop x.slots.area b.ram)
    → after.mmu ≡ b.mmu → after.kept ≡ b.kept → Related x after g

-- Each call of the shadow's code, with the board's frames, makes of the board's entries what the same makes of the
-- guest's.
pub record OnBoard : Type 0 where
  pub empty : (base : ℕ) → on_board base nothing ≡ nothing
  pub fills : (base : ℕ) (space : Space) (page frame : ℕ) (writable : Bool) (shadow : Shadowed)
      → on_board base (with_page_put space page frame writable shadow)
      ≡ with_page_put space page (base / PAGE_SIZE + frame) writable (on_board base shadow)
  pub drops : (base : ℕ) (space : Space) (page : ℕ) (shadow : Shadowed)
      → on_board base (dropped space page shadow) ≡ dropped space page (on_board base shadow)
