-- An access puts an entry, and the whole of an access.
use Rattle.std.proofs.Common.{◌≡◌, ◌⊎◌, ℕ, ◌+◌, ◌*◌, ◌/◌, ◌≤◌, ◌==◌, ◌&&◌, not, Bool, true, false, cond, List, [], ◌∷◌, length, refl, ap, sym, ◌∙◌, subst}
use Rattle.std.proofs.Common.{arith, inl, inr, Option, Some, None}
use Rattle.std.proofs.lemmas.Bool.{cases_Bool}
use Rattle.std.proofs.lemmas.Bool.Decides.{nat_tests}
use Rattle.std.proofs.lemmas.Option.{same_Some}
use Rattle.mb_port.specs.declared.types.Space.{Space}
use Rattle.mb_model.specs.declared.kept.Kept.{Kept}
use Rattle.mb_model.specs.Keeping.{KeptLists, rule_k, same_space, filled_in, list_of}
use Rattle.mb_walk.specs.declared.found.Found.{Found}
use Rattle.mb_walk.specs.declared.found.Found.TheVariants.{Entry, Invalid, BusError}
use Rattle.mb_walk.specs.Search.{OnEntry}
use Rattle.mb_walk.proofs.Again.{searches_mark}
use Rattle.def_machine.specs.declared.reference.Reference.{Reference}
use Rattle.def_machine.specs.declared.reference.Settled.{Settled}
use Rattle.def_machine.specs.declared.reference.Settled.TheVariants.{To, Refused, Unsettled}
use Rattle.def_machine.specs.World.{World}
use Rattle.mb_model.specs.Pages.{page_of, has_big_pages}
use Rattle.def_machine.specs.Access.{untranslated, settled, root_of, search_for, by_found, searched, by_settled}
use Rattle.mb_model.proofs.ApartLemmas.{both, same_space-is}
use Rattle.mb_walk.proofs.Named.{search_names}
use Rattle.mb_model.proofs.Found.{filled_same}
use Rattle.vm_shadow.specs.Shadows.{Shadowed, is_at, nothing, room_for, with_page_put}
use Rattle.vm_shadow.specs.Slots.{is_full_for}
use Rattle.def_guests.specs.Guests.{Guest, ref, allows, placed_at}
use Rattle.def_guests.specs.Bus.{gone_settled, without_kept, is_split, is_in_ram, is_writable, put_entry_of}
use Rattle.law_held.specs.Truth.{Fine, AccessesKeepTruth}
use Rattle.law_held.proofs.Keys.{number_is, is_not}
use Rattle.law_held.proofs.Stages.{translated_by}
use Rattle.law_held.proofs.Accesses.{entry_at_page, settled_at, search_needed, after_found, found_fine, Carried, carried_by, went_through, reads_settled}
use Rattle.law_held.proofs.Accesses.{writes_settled, one_filled}

-- ---- an entry that is put

room_cases : (full : Bool) (shadow : Shadowed) (space : Space) (page : ℕ) (e : ℕ × Bool) → (cond full nothing shadow).entries space page ≡ Some e
    → shadow.entries space page ≡ Some e
room_cases true shadow space page e h = absurd (let z : None ≡ Some e = h in let y : ⊥ = cc in y)
room_cases false shadow space page e h = h

abbrev IsNew : Space → ℕ → ℕ × Bool → Space → ℕ → ℕ × Bool → Type 0
IsNew space page new of number e = (space ≡ of) × (page ≡ number) × (new ≡ e)

filled_cases : (space : Space) (page frame : ℕ) (w : Bool) (shadow : Shadowed) (of : Space) (number : ℕ) (e : ℕ × Bool)
    → (with_page_put space page frame w shadow).entries of number ≡ Some e
    → IsNew space page (frame, w) of number e ⊎ (shadow.entries of number ≡ Some e)
filled_cases space page frame w shadow of number e h =
    let new : ℕ × Bool = (frame, w) in
    let other : Option (ℕ × Bool) = (room_for space page shadow).entries of number in
    elim (cases_Bool (is_at space page of number)) [
      | inl is ↦
          let (s, p) = both (same_space space of) (page == number) is in
          inl (same_space-is space of s, number_is page number p, same_Some new e (sym (ap (λ (b : Bool). cond b (Some new) other) is) ∙ h))
      | inr not_so ↦ inr (room_cases (is_full_for space page shadow.tables) shadow of number e (sym (ap (λ (b : Bool). cond b (Some new) other) not_so) ∙ h))
    ]

put_fine : (size : ℕ) (g : Guest) (r : Reference) (p : ℕ) → Fine size g → Carried g.world r p → is_split g.world.mmu r.space (page_of r.at) ≡ false
    → 4096 * (p / 4096) + 4096 ≤ size
    → Fine size (record g { shadow = with_page_put r.space (page_of r.at) (p / 4096) (is_writable g.world r.space (page_of r.at)) g.shadow })
put_fine size g r p fine c whole room =
    let w = is_writable g.world r.space (page_of r.at) in
    let t = fine.sound.truthful in
    record {
      sound = record {
        truthful = record {
          reads = λ code space at frame writable e. elim (filled_cases r.space (page_of r.at) (p / 4096) w g.shadow space (page_of at) (frame, writable) e) [
            | inl (s, q, same) ↦
                subst (λ (new : ℕ × Bool). settled rule_k g.world.mmu g.world.kept (ref code space at false) ≡ To (placed_at new.0 at)) same
                (subst (λ (s : Space). settled rule_k g.world.mmu g.world.kept (ref code s at false) ≡ To (placed_at (p / 4096) at)) s
                (reads_settled g.world r p c whole code at (sym q)))
            | inr old ↦ t.reads code space at frame writable old
          ];
          writes = λ space at frame e. elim (filled_cases r.space (page_of r.at) (p / 4096) w g.shadow space (page_of at) (frame, true) e) [
            | inl (s, q, same) ↦
                subst (λ (new : ℕ × Bool). settled rule_k g.world.mmu g.world.kept (ref false space at true) ≡ To (placed_at new.0 at)) same
                (subst (λ (s : Space). settled rule_k g.world.mmu g.world.kept (ref false s at true) ≡ To (placed_at (p / 4096) at)) s
                (writes_settled g.world r p c whole (ap (λ (new : ℕ × Bool). new.1) same) at (sym q)))
            | inr old ↦ t.writes space at frame old
          ];
          inside = λ space page frame writable e. elim (filled_cases r.space (page_of r.at) (p / 4096) w g.shadow space page (frame, writable) e) [
            | inl (s, q, same) ↦ subst (λ (new : ℕ × Bool). 4096 * new.0 + 4096 ≤ size) same room
            | inr old ↦ t.inside space page frame writable old
          ];
        };
        count = fine.sound.count;
        bytes = fine.sound.bytes;
      };
      one = fine.one;
      apart = fine.apart;
    }

putting_fine : (size : ℕ) (g : Guest) (r : Reference) (o : Option ℕ) → Fine size g → ((p : ℕ) → o ≡ Some p → Carried g.world r p)
    → Fine size (record g { shadow = put_entry_of g.world r g.shadow o })
putting_fine size g r None fine c = fine
putting_fine size g r (Some p) fine c =
    let page = is_in_ram (length g.world.ram) p in
    let whole = not (is_split g.world.mmu r.space (page_of r.at)) in
    let new = not (allows g.shadow r) in
    elim (cases_Bool (page && (whole && new))) [
      | inl so ↦
          let (a, b) = both page (whole && new) so in
          let (b0, b1) = both whole new b in
          let inside : 4096 * (p / 4096) + 4096 ≤ length g.world.ram = grind (arith, nat_tests) in
          let count : length g.world.ram ≡ size = fine.sound.count in
          rw so (put_fine size g r p fine (c p refl) (is_not (is_split g.world.mmu r.space (page_of r.at)) b0) (omega arith))
      | inr not_so ↦ rw not_so fine
    ]

-- ---- the whole

abbrev Whole : ℕ → Reference → Guest → Settled → Option ℕ × World → Type 0
Whole size r g s t = Fine size (record { world = t.1; shadow = put_entry_of t.1 r (without_kept (gone_settled g.world r s) g.shadow) t.0 })

filled_one : Kept → Guest → KeptLists
filled_one k g = filled_in 256 k (list_of 0 g.world.kept) ∷ []

searched_carried : (size : ℕ) (g : Guest) (r : Reference) (ram : List ℕ) (f : Found) → Fine size g → settled rule_k g.world.mmu g.world.kept r ≡ Unsettled
    → OnEntry f (λ k. (k.space ≡ r.space) × (k.page ≡ page_of r.at)) → (p : ℕ) → (by_found rule_k (record g.world { ram = ram }) r f).0 ≡ Some p
    → Carried (after_found g r ram f).world r p
unfolding filled_one
searched_carried size g r ram (Entry k status) fine n (s, q) p e =
    let (may, is) = went_through k r p e in
    inr (
      k,
      search_needed g.world.mmu g.world.kept r n,
      ap (λ (l : List (List Kept)). entry_at_page l r.space (page_of r.at)) (one_filled r.code k g.world.kept fine.one)
          ∙ ap (λ (t : Space). entry_at_page (filled_one k g) t (page_of r.at)) (sym s) ∙ ap (λ (n : ℕ). entry_at_page (filled_one k g) k.space n) (sym q)
          ∙ filled_same 256 k (list_of 0 g.world.kept) fine.apart,
      may,
      is,
    )
searched_carried size g r ram Invalid fine n names p e = absurd (let z : None ≡ Some p = e in let y : ⊥ = cc in y)
searched_carried size g r ram BusError fine n names p e = absurd (let z : None ≡ Some p = e in let y : ⊥ = cc in y)

by_search_fine : (size : ℕ) (g : Guest) (r : Reference) → Fine size g → settled rule_k g.world.mmu g.world.kept r ≡ Unsettled
    → Whole size r g Unsettled (searched rule_k g.world r)
by_search_fine size g r fine n =
    let s = search_for g.world r in
    let big = has_big_pages g.world.mmu in
    let names = search_names r.space (page_of r.at) g.world.ram (root_of g.world.mmu r.space) r.write big in
    let only = searches_mark g.world.ram (root_of g.world.mmu r.space) r.space (page_of r.at) r.write big fine.sound.bytes in
    putting_fine size (after_found g r s.ram s.found) r ((by_found rule_k (record g.world { ram = s.ram }) r s.found).0)
    (found_fine size g r s.ram s.found fine n names only.size only.bytes) (searched_carried size g r s.ram s.found fine n names)

by_settled_fine : (size : ℕ) (g : Guest) (r : Reference) → Fine size g → (s : Settled) → settled rule_k g.world.mmu g.world.kept r ≡ s
    → Whole size r g s (by_settled rule_k g.world r s)
by_settled_fine size g r fine (To p) e =
    putting_fine size g r (Some p) fine (λ q h. subst (Carried g.world r) (same_Some p q h)
    (carried_by g.world r p (untranslated g.world.mmu r) (entry_at_page g.world.kept r.space (page_of r.at)) refl refl
    (sym (settled_at g.world.mmu g.world.kept r (untranslated g.world.mmu r) (entry_at_page g.world.kept r.space (page_of r.at)) refl refl) ∙ e)))
by_settled_fine size g r fine Refused e = putting_fine size g r None fine (λ q h. absurd (let y : ⊥ = cc in y))
by_settled_fine size g r fine Unsettled e = by_search_fine size g r fine e

-- how an access came to its place
pub access_carried : (size : ℕ) (g : Guest) (r : Reference) → Fine size g → (s : Settled) → settled rule_k g.world.mmu g.world.kept r ≡ s
    → (p : ℕ) → (by_settled rule_k g.world r s).0 ≡ Some p → Carried (by_settled rule_k g.world r s).1 r p
access_carried size g r fine (To q) e p h =
    subst (Carried g.world r) (same_Some q p h)
    (carried_by g.world r q (untranslated g.world.mmu r) (entry_at_page g.world.kept r.space (page_of r.at)) refl refl
    (sym (settled_at g.world.mmu g.world.kept r (untranslated g.world.mmu r) (entry_at_page g.world.kept r.space (page_of r.at)) refl refl) ∙ e))
access_carried size g r fine Refused e p h = absurd (let z : None ≡ Some p = h in let y : ⊥ = cc in y)
access_carried size g r fine Unsettled e p h =
    let s = search_for g.world r in
    let names = search_names r.space (page_of r.at) g.world.ram (root_of g.world.mmu r.space) r.write (has_big_pages g.world.mmu) in
    searched_carried size g r s.ram s.found fine e names p h

pub accesses_keep_truth : AccessesKeepTruth
accesses_keep_truth size r g fine =
    let s = settled rule_k g.world.mmu g.world.kept r in
    subst (Whole size r g s) (sym (translated_by rule_k g.world r s refl)) (by_settled_fine size g r fine s refl)
