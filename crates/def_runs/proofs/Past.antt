-- What the run that searches has searched out.
use Rattle.std.proofs.Common.{◌≡◌, ℕ, zero, suc, Bool, true, false, ◌&&◌, List, [], ◌∷◌, refl, sym, ◌∙◌, ap, subst, inl, inr}
use Rattle.std.specs.Prelude.{◌⊎◌, ◌↔◌, Option, Some, None, is_none, unwrap_or, if◌then◌else◌}
use Rattle.mb_port.specs.Routine.{Fetch, Read, Write, ReadLine, WriteLine, Probe, Get, Put, ReadMmu, SetMmu, FlushKept, Test, ResetDevices}
use Rattle.mb_port.specs.declared.types.Space.{Space}
use Rattle.mb_port.specs.declared.types.Place.{Place}
use Rattle.mb_port.specs.declared.types.Flush.{Flush}
use Rattle.mb_model.specs.declared.kept.Kept.{Kept}
use Rattle.mb_model.specs.Keeping.{KeptLists, covers, filled, flushed, after_ptest, is_half_of}
use Rattle.mb_walk.specs.declared.found.Found.{Found}
use Rattle.mb_walk.specs.declared.found.Found.TheVariants.{Entry, Invalid, BusError}
use Rattle.def_machine.specs.declared.reference.Reference.{Reference}
use Rattle.def_machine.specs.declared.reference.Settled.TheVariants.{To, Refused}
use Rattle.def_machine.specs.World.{World}
use Rattle.def_machine.specs.Places.{taken, stored, checked, taken_line, stored_line}
use Rattle.mb_model.specs.Pages.{page_of, has_big_pages}
use Rattle.def_machine.specs.Access.{matched, search_for, untranslated, searched, translated, by_match, by_settled, by_found}
use Rattle.def_machine.specs.Bus.{reading_of, writing_of, fetching_of, read_at, read_by, written_at, written_by, tested, tested_by, after_set_mmu}
use Rattle.def_runs.specs.Free.{IsKept, rule_free, with_class_entry}
use Rattle.def_runs.proofs.Blind.{IsBlind, IsBlindStore, taken-blind, taken_line-blind, checked-blind, stored-blind, stored_line-blind}
use Rattle.def_runs.proofs.Blind.{read-blind, write-blind, get-blind, put-blind, blind-kept}
use Rattle.def_runs.proofs.Accesses.{accesses-use_or_search}
use Rattle.def_runs.proofs.KeptLemmas.{empty, kept-behind, flushed-is, flushed-keeps, dropped-is, dropped-keeps, filled-is, filled-first, filled-behind}
use Rattle.def_runs.specs.Tidy.{EachAccessSearches, SearchesOut, PastIsWhatWasSearchedOut}

pub by_match_of : (r : Reference) (w : World) (o : Option Bool) → untranslated w.mmu r ≡ o
    → translated rule_free r w ≡ by_settled rule_free w r (by_match rule_free w.kept r o)
unfolding translated
by_match_of r w o e = ap (λ (o : Option Bool). by_settled rule_free w r (by_match rule_free w.kept r o)) e

pub each_access-searches : EachAccessSearches
each_access-searches r w h = (accesses-use_or_search r w h).none

-- ---- a translation

-- what has been searched out after a reference
abbrev IsPast : Reference → World → KeptLists → Kept → Type 0
IsPast r w kept k = IsKept k kept ↔ (IsKept k w.kept ⊎ SearchesOut w k r)

not_in_front : (kept : KeptLists) (k : Kept) → IsKept k ([] ∷ kept) → IsKept k kept
not_in_front kept k (zero, h) = absurd (empty k h)
not_in_front kept k (suc class, h) = (class, h)

filled_past : (r : Reference) (w : World) (e k : Kept) (status : ℕ) → untranslated w.mmu r ≡ None
    → (search_for w r).found ≡ Entry e status
    → IsPast r w (filled rule_free r.code e ([] ∷ w.kept)) k
filled_past r w e k status free found = (
  λ h. elim (filled-is rule_free r.code e ([] ∷ w.kept) k h) [
    | inl there ↦ inl (not_in_front w.kept k there)
    | inr same ↦ inr (subst (λ (y : Kept). SearchesOut w y r) same (record { searches = free; found = (status, found) }))
  ],
  λ h. elim h [
    | inl there ↦ filled-behind rule_free r.code e [] w.kept refl k there
    | inr out ↦
        let both : Entry e status ≡ Entry k (out.found).0 = sym found ∙ (out.found).1 in
        let same : e ≡ k = cc in
        subst (λ (y : Kept). IsKept y (filled rule_free r.code e ([] ∷ w.kept))) same (filled-first rule_free r.code e [] w.kept refl)
  ],
)

-- nothing is found
none_past : (r : Reference) (w : World) (k : Kept) (f : Found) → (search_for w r).found ≡ f
    → ((status : ℕ) → f ≡ Entry k status → ⊥) → IsPast r w ([] ∷ w.kept) k
none_past r w k f found never = (
  λ h. inl (not_in_front w.kept k h),
  λ h. elim h [ inl there ↦ kept-behind [] w.kept k there | inr out ↦ absurd (never (out.found).0 (sym found ∙ (out.found).1)) ],
)

found_past : (r : Reference) (w : World) (ram : List ℕ) (k : Kept) (f : Found) → untranslated w.mmu r ≡ None
    → (search_for w r).found ≡ f
    → IsPast r w (by_found rule_free (record w { ram = ram; kept = [] ∷ w.kept }) r f).1.kept k
found_past r w ram k (Entry e status) free found = filled_past r w e k status free found
found_past r w ram k Invalid free found = none_past r w k Invalid found (λ status e. absurd (cc))
found_past r w ram k BusError free found = none_past r w k BusError found (λ status e. absurd (cc))

searched_past : (r : Reference) (w : World) (k : Kept) → untranslated w.mmu r ≡ None
    → IsPast r w (searched rule_free (with_class_entry None w) r).1.kept k
searched_past r w k free =
    let s = search_for w r in found_past r w s.ram k s.found free refl

settled_kept : (b : Bool) (r : Reference) (w : World) → (by_settled rule_free w r (if b then Refused else To r.at)).1.kept ≡ w.kept
settled_kept true r w = refl
settled_kept false r w = refl

matched_past : (r : Reference) (w : World) (k : Kept) (protected : Bool) → untranslated w.mmu r ≡ Some protected
    → IsPast r w (translated rule_free r (with_class_entry None w)).1.kept k
matched_past r w k protected e =
    let one = by_match_of r (with_class_entry None w) (Some protected) e in
    let kept : (translated rule_free r (with_class_entry None w)).1.kept ≡ [] ∷ w.kept =
    ap (λ (x : Option ℕ × World). x.1.kept) one ∙ settled_kept (protected && r.write) r (with_class_entry None w) in
    subst (λ (kept : KeptLists). IsPast r w kept k) (sym kept) (
      λ h. inl (not_in_front w.kept k h),
      λ h. elim h [
        | inl there ↦ kept-behind [] w.kept k there
        | inr out ↦
            let no : Some protected ≡ None = sym e ∙ out.searches in
            absurd (cc)
      ],
    )

translated_by_past : (r : Reference) (w : World) (k : Kept) (o : Option Bool) → untranslated w.mmu r ≡ o
    → IsPast r w (translated rule_free r (with_class_entry None w)).1.kept k
translated_by_past r w k (Some protected) e = matched_past r w k protected e
translated_by_past r w k None e =
    subst (λ (x : Option ℕ × World). IsPast r w x.1.kept k) (sym (each_access-searches r w e)) (searched_past r w k e)

translated_past : (r : Reference) (w : World) (k : Kept) → IsPast r w (translated rule_free r (with_class_entry None w)).1.kept k
translated_past r w k = translated_by_past r w k (untranslated w.mmu r) refl

-- ---- what follows it

abbrev AccessPast : Reference → World → KeptLists → Kept → Type 0
AccessPast r w kept k = IsKept k kept ↔ ((IsKept k w.kept × (false ≡ false)) ⊎ SearchesOut w k r)

then_past : {A : Type 0} (g : Option ℕ → World → A × World) → ((o : Option ℕ) → IsBlind (g o)) → (r : Reference) (w : World) (k : Kept)
    → AccessPast r w (g (translated rule_free r (with_class_entry None w)).0 (translated rule_free r (with_class_entry None w)).1).1.kept k
then_past g blind r w k =
    let x = translated rule_free r (with_class_entry None w) in
    let p = translated_past r w k in
    subst (λ (kept : KeptLists). AccessPast r w kept k) (sym (blind-kept (g x.0) (blind x.0) x.1)) (
      λ h. elim (p.0 h) [ inl there ↦ inl (there, refl) | inr out ↦ inr out ],
      λ h. elim h [ inl there ↦ p.1 (inl there.0) | inr out ↦ p.1 (inr out) ],
    )

read_past : {A : Type 0} (r : Reference) (len : ℕ) (take : Place → World → Option A × World) (w : World) (k : Kept)
    → ((place : Place) → IsBlind (take place)) → AccessPast r w (read_by rule_free r len take (with_class_entry None w)).1.kept k
read_past r len take w k blind = then_past (read_at r len take) (read-blind r len take blind) r w k

write_past : (r : Reference) (len : ℕ) (store : Place → World → Option World) (w : World) (k : Kept)
    → ((place : Place) → IsBlindStore (store place)) → AccessPast r w (written_by rule_free r len store (with_class_entry None w)).1.kept k
write_past r len store w k blind = then_past (written_at r len store) (write-blind r len store blind) r w k

-- ---- calls without a reference

abbrev OtherPast : Bool → World → KeptLists → Kept → Type 0
OtherPast after_ptest w kept k = IsKept k kept ↔ ((IsKept k w.kept × (after_ptest ≡ false)) ⊎ ⊥)

still_past : (w : World) (kept : KeptLists) (k : Kept) → kept ≡ [] ∷ w.kept → OtherPast false w kept k
still_past w kept k e = subst (λ (kept : KeptLists). OtherPast false w kept k) (sym e) (
  λ h. inl (not_in_front w.kept k h, refl),
  λ h. elim h [ inl there ↦ kept-behind [] w.kept k there.0 | inr none ↦ absurd none ],
)

flushed_past : (what : Flush) (w : World) (k : Kept) → OtherPast (covers what k) w (flushed what ([] ∷ w.kept)) k
flushed_past what w k = (
  λ h. let there = flushed-is what ([] ∷ w.kept) k h in inl (not_in_front w.kept k there.0, there.1),
  λ h. elim h [
    | inl there ↦ flushed-keeps what ([] ∷ w.kept) k (kept-behind [] w.kept k there.0) there.1
    | inr none ↦ absurd none
  ],
)

dropped_past : (big : Bool) (space : Space) (page : ℕ) (w : World) (k : Kept)
    → OtherPast (is_half_of big space page k) w (after_ptest big space page ([] ∷ w.kept)) k
dropped_past big space page w k = (
  λ h. let there = dropped-is big space page ([] ∷ w.kept) k h in inl (not_in_front w.kept k there.0, there.1),
  λ h. elim h [
    | inl there ↦ dropped-keeps big space page ([] ∷ w.kept) k (kept-behind [] w.kept k there.0) there.1
    | inr none ↦ absurd none
  ],
)

tested_by_past : (w : World) (space : Space) (page : ℕ) (write : Bool) (o : Option Bool) (k : Kept)
    → OtherPast (is_none o && is_half_of (has_big_pages w.mmu) space page k) w (tested_by (with_class_entry None w) space page write o).1.kept k
tested_by_past w space page write (Some protected) k = still_past w ([] ∷ w.kept) k refl
tested_by_past w space page write None k = dropped_past (has_big_pages w.mmu) space page w k

tested_past : (w : World) (space : Space) (page : ℕ) (write : Bool) (k : Kept)
    → OtherPast (is_none (matched false w.mmu space page) && is_half_of (has_big_pages w.mmu) space page k) w
    (tested space page write (with_class_entry None w)).1.kept k
tested_past w space page write k = tested_by_past w space page write (matched false w.mmu space page) k

set_past : (which : _) (value : ℕ) (w : World) (k : Kept) → OtherPast false w (after_set_mmu rule_free which value (with_class_entry None w)).kept k
set_past which value w k = still_past w ([] ∷ w.kept) k refl

pub past-is_searched_out : PastIsWhatWasSearchedOut
past-is_searched_out (Fetch space at) w k = read_past (fetching_of space at) 2 taken w k taken-blind
past-is_searched_out (Read space p) w k = read_past (reading_of space p.at) p.len taken w k taken-blind
past-is_searched_out (Write space p value) w k =
    write_past (writing_of space p.at) p.len (λ place. stored place value) w k (λ place. stored-blind place value)
past-is_searched_out (ReadLine space at) w k = read_past (reading_of space at) 16 taken_line w k taken_line-blind
past-is_searched_out (WriteLine space at line) w k =
    write_past (writing_of space at) 16 (λ place. stored_line place line) w k (λ place. stored_line-blind place line)
past-is_searched_out (Probe space p) w k = read_past (writing_of space p.at) p.len checked w k checked-blind
past-is_searched_out (Get place) w k =
    still_past w (taken place (with_class_entry None w)).1.kept k
    (blind-kept (λ u. (unwrap_or (taken place u).0 0, (taken place u).1)) (get-blind place) (with_class_entry None w))
past-is_searched_out (Put place value) w k =
    still_past w (unwrap_or (stored place value (with_class_entry None w)) (with_class_entry None w)).kept k
    (blind-kept {A = Unit {0}} (λ u. (tt, unwrap_or (stored place value u) u)) (put-blind place value) (with_class_entry None w))
past-is_searched_out ReadMmu w k = still_past w ([] ∷ w.kept) k refl
past-is_searched_out (SetMmu which value) w k = set_past which value w k
past-is_searched_out (FlushKept what) w k = flushed_past what w k
past-is_searched_out (Test space at write) w k = tested_past w space (page_of at) write k
past-is_searched_out ResetDevices w k = still_past w ([] ∷ w.kept) k refl
