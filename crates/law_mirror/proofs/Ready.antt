-- The board is made ready, and stays so.
use Rattle.std.proofs.Common.{◌≡◌, ℕ, zero, suc, ◌+◌, ◌*◌, ◌||◌, ◌/◌, ◌^◌, ◌<◌, ◌≤◌, Bool, true, false, cond, List, length, refl, ap, ◌∙◌, subst, arith, Option, Some, None, bit_or}
use Rattle.std.proofs.Common.{is_some, sym, filter}
use Rattle.std.proofs.lemmas.Nat.{le_or_r, or_lt}
use Rattle.std.proofs.Math.Path.{fun_ext}
use Rattle.mb_port.specs.declared.types.Space.{Space}
use Rattle.mb_port.specs.declared.types.Space.TheVariants.{User, Super}
use Rattle.mb_port.specs.declared.types.Mmu.{Mmu}
use Rattle.mb_model.specs.Keeping.{rule_a}
use Rattle.mb_model.specs.Pages.{has_big_pages}
use Rattle.def_machine.specs.declared.reference.Settled.TheVariants.{To}
use Rattle.def_machine.specs.World.{World}
use Rattle.def_machine.specs.Access.{untranslated, settled, by_match}
use Rattle.vm_shadow.specs.declared.table.Table.{Table}
use Rattle.vm_shadow.specs.declared.table.Table.TheVariants.{Pointers, Pages}
use Rattle.def_runs.specs.Free.{IsKept}
use Rattle.def_runs.proofs.KeptLemmas.{none-kept}
use Rattle.vm_shadow.specs.Shadows.{Shadowed, EntryMap, is_at, nothing, with_page_put, dropped, room_for, has_entry, is_needed}
use Rattle.vm_shadow.specs.Slots.{tables_for, is_full_for}
use Rattle.vm_shadow.specs.Mapped.{root_of}
use Rattle.vm_shadow.specs.declared.area.TheConstants.{AREA_BYTES}
use Rattle.vm_shadow.proofs.Alone.{tables_are_of_the_area}
use Rattle.def_guests.specs.Guests.{ref}
use Rattle.law_mirror.specs.Related.{mapping}
use Rattle.def_guests.specs.Seats.{board_entry, on_board}
use Rattle.law_mirror.specs.Ready.{native_mmu, NativeTranslation, EntersUntranslated, StartsFlushed, StaysReady, OnBoard}
use Rattle.law_held.proofs.Stages.{translated_by}

-- ---- registers

all_ignored : (n : ℕ) → n < 2 ^ 8 → bit_or n 255 ≡ 255
all_ignored n h = let a = le_or_r n 255 in let b = or_lt 8 n 255 h (omega arith) in omega arith

user_translated : (root at : ℕ) (code write : Bool) → untranslated (native_mmu root) (ref code User at write) ≡ None
user_translated root at true write = refl
user_translated root at false write = refl

super_untranslated : (root at : ℕ) (write : Bool) → at < 2 ^ 32 → untranslated (native_mmu root) (ref false Super at write) ≡ Some false
super_untranslated root at write l = rw (all_ignored (at / 4096 / 2 ^ 12) (omega arith)) refl

pub native_translation : NativeTranslation
native_translation root at code write l = (user_translated root at code write, super_untranslated root at write l)

settled_there : (b : World) (at : ℕ) (write : Bool) → untranslated b.mmu (ref false Super at write) ≡ Some false
    → settled rule_a b.mmu b.kept (ref false Super at write) ≡ To at
settled_there b at write h = ap (by_match rule_a b.kept (ref false Super at write)) h

pub enters_untranslated : EntersUntranslated
enters_untranslated b at write h = translated_by rule_a b (ref false Super at write) (To at) (settled_there b at write h)

-- ---- the relation

pub starts_flushed : StartsFlushed
starts_flushed x b g bytes maps under whole ram shadow truthful = record {
  bytes = bytes;
  maps = maps;
  under = under;
  whole = whole;
  ram = ram;
  root = refl;
  small = refl;
  shadow = shadow;
  kept = λ k is. absurd (none-kept 32 k is);
  no_match = λ code at write. user_translated (root_of x.slots.area x.space) at code write;
  truthful = truthful;
}

pub stays_ready : StaysReady
stays_ready x b after g r bytes size same area mmu kept =
    let inside : x.slots.area + AREA_BYTES ≤ length b.ram = r.maps.inside in
    let tables = tables_are_of_the_area x.slots b.ram after.ram r.maps (omega arith) area in
    let map : (page : ℕ) → mapping x after.ram page ≡ mapping x b.ram page = λ page. ap (λ (s : Shadowed). s.entries x.space page) tables.1 in
    record {
      bytes = bytes;
      maps = tables.0;
      under = r.under;
      whole = r.whole;
      ram = same ∙ r.ram;
      root = ap (λ (m : Mmu). m.urp) mmu ∙ r.root;
      small = ap has_big_pages mmu ∙ r.small;
      shadow = tables.1 ∙ r.shadow;
      kept = λ k is user.
          let a = r.kept k (subst (IsKept k) kept is) user in (map k.page ∙ a.0, a.1);
      no_match = λ code at write. ap (λ (m : Mmu). untranslated m (ref code User at write)) mmu ∙ r.no_match code at write;
      truthful = r.truthful;
    }

-- ---- the shadow's calls

moved_if : (base : ℕ) (b : Bool) (o q : Option (ℕ × Bool)) → board_entry base (cond b o q) ≡ cond b (board_entry base o) (board_entry base q)
moved_if base true o q = refl
moved_if base false o q = refl

two_ext : (f h : EntryMap) → ((space : Space) (page : ℕ) → f space page ≡ h space page) → f ≡ h
two_ext f h e = fun_ext (λ space. fun_ext (λ page. e space page))

room_moved : (base : ℕ) (full : Bool) (shadow : Shadowed) (of : Space) (number : ℕ)
    → board_entry base ((cond full nothing shadow).entries of number) ≡ (cond full nothing (on_board base shadow)).entries of number
room_moved base true shadow of number = refl
room_moved base false shadow of number = refl

room_tables : (base : ℕ) (full : Bool) (shadow : Shadowed) → (cond full nothing shadow).tables ≡ (cond full nothing (on_board base shadow)).tables
room_tables base true shadow = refl
room_tables base false shadow = refl

same_shadow : (f h : Shadowed) → ((space : Space) (page : ℕ) → f.entries space page ≡ h.entries space page) → f.tables ≡ h.tables → f ≡ h
same_shadow f h e t =
    ap (λ (n : EntryMap). (let a : Shadowed = record { entries = n; tables = f.tables } in a)) (two_ext f.entries h.entries e)
    ∙ ap (λ (n : List Table). (let a : Shadowed = record { entries = h.entries; tables = n } in a)) t

some_moved : (base : ℕ) (o : Option (ℕ × Bool)) → is_some (board_entry base o) ≡ is_some o
some_moved base None = refl
some_moved base (Some (frame, writable)) = refl

has_moved : (base : ℕ) (f : EntryMap) (space : Space) (first n : ℕ)
    → has_entry (λ space page. board_entry base (f space page)) space first n ≡ has_entry f space first n
unfolding has_entry
has_moved base f space first zero = refl
has_moved base f space first (suc n) =
    ap (λ (b : Bool). b || has_entry (λ space page. board_entry base (f space page)) space first n) (some_moved base (f space (first + n)))
    ∙ ap (λ (b : Bool). is_some (f space (first + n)) || b) (has_moved base f space first n)

-- the board's entries need the tables that the guest's need
needed_moved : (base : ℕ) (f : EntryMap) (table : Table) → is_needed (λ space page. board_entry base (f space page)) table ≡ is_needed f table
needed_moved base f (Pointers space index) = has_moved base f space (2 ^ 13 * index) (2 ^ 13)
needed_moved base f (Pages space index) = has_moved base f space (2 ^ 6 * index) (2 ^ 6)

board_drops : (base : ℕ) (space : Space) (page : ℕ) (shadow : Shadowed) → on_board base (dropped space page shadow) ≡ dropped space page (on_board base shadow)
board_drops base space page shadow =
    let same : (of : Space) (number : ℕ)
    → (on_board base (dropped space page shadow)).entries of number ≡ (dropped space page (on_board base shadow)).entries of number =
    λ of number. moved_if base (is_at space page of number) None (shadow.entries of number) in
    let both : (on_board base (dropped space page shadow)).entries ≡ (dropped space page (on_board base shadow)).entries =
    two_ext (on_board base (dropped space page shadow)).entries (dropped space page (on_board base shadow)).entries same in
    let needs : is_needed (dropped space page shadow).entries ≡ is_needed (dropped space page (on_board base shadow)).entries =
    fun_ext (λ table. sym (needed_moved base (dropped space page shadow).entries table) ∙ ap (λ (f : EntryMap). is_needed f table) both) in
    same_shadow (on_board base (dropped space page shadow)) (dropped space page (on_board base shadow)) same
    (ap (λ (needed : Table → Bool). filter needed shadow.tables) needs)

board_fills : (base : ℕ) (space : Space) (page frame : ℕ) (writable : Bool) (shadow : Shadowed)
    → on_board base (with_page_put space page frame writable shadow) ≡ with_page_put space page (base / 4096 + frame) writable (on_board base shadow)
board_fills base space page frame writable shadow =
    same_shadow (on_board base (with_page_put space page frame writable shadow))
    (with_page_put space page (base / 4096 + frame) writable (on_board base shadow))
    (λ of number.
    moved_if base (is_at space page of number) (Some (frame, writable)) ((room_for space page shadow).entries of number)
    ∙ ap (cond (is_at space page of number) (Some (base / 4096 + frame, writable))) (room_moved base (is_full_for space page shadow.tables) shadow of number))
    (ap (λ (t : List Table). tables_for space page t) (room_tables base (is_full_for space page shadow.tables) shadow))

pub board_entries : OnBoard
board_entries = record { empty = λ base. refl; fills = board_fills; drops = board_drops }
