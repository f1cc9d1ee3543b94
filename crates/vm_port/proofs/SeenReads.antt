-- A read is refilled just where it is seen so.
use Rattle.std.proofs.Common.{◌≡◌, ◌∙◌, ℕ, ◌≤◌, ◌==◌, ◌&&◌, not, Bool, true, false, cond, List, [], ◌∷◌, length, refl, ap, sym, arith, nat_le}
use Rattle.std.proofs.Common.{inl, inr, Option, Some, None}
use Rattle.std.specs.Prelude.{is_none, find}
use Rattle.std.specs.List.{list_any}
use Rattle.std.specs.Str.{bytes_eq}
use Rattle.std.proofs.lemmas.Bool.{cases_Bool}
use Rattle.std.proofs.lemmas.Bool.Decides.{nat_tests}
use Rattle.std.proofs.lemmas.Slice.Eq.{bytes_eq-Decides}
use Rattle.mb_port.specs.declared.types.Space.{Space}
use Rattle.mb_model.specs.declared.kept.Kept.{Kept}
use Rattle.mb_model.specs.Keeping.{KeptLists, rule_k, list_of, is_of, entry_in, oldest, displaced}
use Rattle.mb_model.specs.Pages.{page_of, has_big_pages}
use Rattle.mb_model.proofs.Found.{find_yes, find_no}
use Rattle.mb_walk.specs.declared.found.Found.{Found}
use Rattle.mb_walk.specs.declared.found.Found.TheVariants.{Entry, Invalid, BusError}
use Rattle.mb_walk.specs.Memory.{AreBytes}
use Rattle.mb_walk.specs.Search.{Searched, search_of, OnEntry}
use Rattle.mb_walk.proofs.Named.{search_names}
use Rattle.def_machine.specs.declared.reference.Reference.{Reference}
use Rattle.def_machine.specs.declared.reference.Settled.{Settled}
use Rattle.def_machine.specs.declared.reference.Settled.TheVariants.{To, Refused, Unsettled}
use Rattle.def_machine.specs.World.{World}
use Rattle.mb_port.specs.declared.types.Mmu.{Mmu}
use Rattle.def_machine.specs.Access.{root_of, settled, marks, known, through, by_found, by_settled, translated}
use Rattle.vm_shadow.specs.Slots.{is_full_for}
use Rattle.def_guests.specs.Guests.{Guest}
use Rattle.def_guests.specs.Bus.{gone_found, gone_settled, gone, is_split, is_in_ram}
use Rattle.def_guests.specs.Refills.{shows_nothing, can_refill}
use Rattle.law_held.proofs.Stages.{entry_used, translated_by}
use Rattle.law_held.proofs.Accesses.{entry_at_page, settled_at, search_needed}
use Rattle.mb_walk.specs.Quiet.{found_used}
use Rattle.vm_port.specs.Quiet.{seen_found, seen_by, seen, refills_seen}
use Rattle.mb_walk.proofs.QuietSearches.{met_is_used, used_is_quiet}

none_passes : (a b c : Bool) → (a && (b && false)) ≡ false
none_passes true true c = refl
none_passes true false c = refl
none_passes false b c = refl

-- ---- what goes for it

any_none : (p : Kept → Bool) (ks : List Kept) → find p ks ≡ None → list_any p ks ≡ false
any_none p [] e = refl
any_none p (k ∷ ks) e = elim (cases_Bool (p k)) [
  | inl is ↦ absurd (let z : (let o : Option Kept = Some k in o) ≡ None = sym (find_yes p k ks is) ∙ e in let y : ⊥ = cc in y)
  | inr other ↦ rw other (any_none p ks (sym (find_no p k ks other) ∙ e))
]

some_oldest : (ks : List Kept) → 1 ≤ length ks → is_none (oldest ks) ≡ false
some_oldest [] h = absurd (let z : ⊥ = omega arith in z)
some_oldest (k ∷ ks) h = refl

-- no entry of its page is kept: one goes just where the list is full
displaced_is : (k : Kept) (ks : List Kept) → entry_in k.space k.page ks ≡ None → length ks ≤ 256 → is_none (displaced 256 k ks) ≡ not (length ks == 256)
displaced_is k ks none few = elim (cases_Bool (length ks == 256)) [
  | inl full ↦
      let n : length ks ≡ 256 = grind (arith, nat_tests) in
      let over : nat_le 256 (length ks) ≡ true = rw n refl in
      rw (any_none (is_of k.space k.page) ks none, over, full) (some_oldest ks (omega arith))
  | inr room ↦
      let over : nat_le 256 (length ks) ≡ false = not_over (length ks) few room in
      rw (any_none (is_of k.space k.page) ks none, over, room) refl
]
  where
    not_over : (n : ℕ) → n ≤ 256 → (n == 256) ≡ false → nat_le 256 n ≡ false
    not_over n few other = grind (arith, nat_tests)

-- where a read needs a search, no entry of its page is kept
needs_none : (mmu : Mmu) (kept : KeptLists) (r : Reference) → r.write ≡ false → settled rule_k mmu kept r ≡ Unsettled
    → entry_at_page kept r.space (page_of r.at) ≡ None
needs_none mmu kept r reads n = by_kept (entry_at_page kept r.space (page_of r.at)) refl
  where
    known_not : (o : Option ℕ) → known o ≡ Unsettled → ⊥
    known_not (Some at) e = let z : ⊥ = cc in z
    known_not None e = let z : ⊥ = cc in z

    unmarked_read : (k : Kept) → marks k r ≡ false
    unmarked_read k = rw reads refl

    by_kept : (o : Option Kept) → entry_at_page kept r.space (page_of r.at) ≡ o → o ≡ None
    by_kept None e = refl
    by_kept (Some k) e =
        let u = search_needed mmu kept r n in
        absurd (known_not (through k r) (sym (settled_at mmu kept r None (Some k) u e ∙ entry_used k r (unmarked_read k)) ∙ n))

-- ---- the search

same_bytes : (xs : List ℕ) → bytes_eq xs xs ≡ true
same_bytes xs = (bytes_eq-Decides xs xs).1 refl

changed : (xs ys : List ℕ) → (xs ≡ ys → ⊥) → bytes_eq xs ys ≡ false
changed xs ys differ = elim (cases_Bool (bytes_eq xs ys)) [
  | inl same ↦ absurd (differ ((bytes_eq-Decides xs ys).0 same))
  | inr not_so ↦ not_so
]

-- what an access shows, by where it leads and whether its fill drops an entry
shows_by : Guest → Reference → Option ℕ × World → (none : Bool) → Bool
shows_by g r (None, after) none = false
shows_by g r (Some at, after) none =
    is_in_ram (length after.ram) at && (not (is_split after.mmu r.space (page_of r.at))
    && (bytes_eq after.ram g.world.ram && (none && not (is_full_for r.space (page_of r.at) g.shadow.tables))))

shows_is : (g : Guest) (r : Reference) (t : Option ℕ × World) → shows_nothing g r t ≡ shows_by g r t (is_none (gone g.world r))
unfolding shows_by
shows_is g r (None, after) = refl
shows_is g r (Some at, after) = refl

-- memory changed
changed_shows : (g : Guest) (r : Reference) (o : Option ℕ) (after : World) (none : Bool) → (after.ram ≡ g.world.ram → ⊥) → shows_by g r (o, after) none ≡ false
unfolding shows_by
changed_shows g r None after none differ = refl
changed_shows g r (Some at) after none differ =
    rw (changed after.ram g.world.ram differ)
    (none_passes (is_in_ram (length after.ram) at) (not (is_split after.mmu r.space (page_of r.at))) true)

-- it did not: what is seen is all
still_shows : (g : Guest) (r : Reference) (o : Option ℕ) (after : World) (full : Bool) → after.ram ≡ g.world.ram → after.mmu ≡ g.world.mmu
    → shows_by g r (o, after) (not full) ≡ refills_seen g r (cond full None o)
unfolding shows_by
still_shows g r None after true same mmu = refl
still_shows g r None after false same mmu = refl
still_shows g r (Some at) after true same mmu =
    dropped (is_in_ram (length after.ram) at) (not (is_split after.mmu r.space (page_of r.at))) (bytes_eq after.ram g.world.ram)
  where
    dropped : (a b c : Bool) → (a && (b && (c && false))) ≡ false
    dropped true true true = refl
    dropped true true false = refl
    dropped true false c = refl
    dropped false b c = refl
still_shows g r (Some at) after false same mmu = rw (same, mmu, same_bytes g.world.ram) refl

module _ (g : Guest) (r : Reference) (reads : r.write ≡ false) (bytes : AreBytes g.world.ram) (few : length (list_of 0 g.world.kept) ≤ 256) where
  abbrev kept : List Kept
  kept = list_of 0 g.world.kept

  abbrev page : ℕ
  page = page_of r.at

  abbrev root : ℕ
  root = root_of g.world.mmu r.space

  abbrev big : Bool
  big = has_big_pages g.world.mmu

  abbrev s : Searched
  s = search_of g.world.ram root r.space page false big

  abbrev used : Option Kept
  used = found_used g.world.ram root r.space page big

  abbrev full : Bool
  full = length kept == 256

  -- what an access through this search shows
  abbrev Shows : Searched → Bool
  Shows q = shows_by g r (by_found rule_k (record g.world { ram = q.ram }) r q.found) (is_none (gone_found g.world q.found))

  abbrev Seen : Bool
  Seen = refills_seen g r (cond full None (seen_found r used))

  none_seen : used ≡ None → Seen ≡ false
  none_seen e = ap (λ (o : Option Kept). refills_seen g r (cond full None (seen_found r o))) e ∙ by_full full
    where
      by_full : (b : Bool) → refills_seen g r (cond b None None) ≡ false
      by_full true = refl
      by_full false = refl

  nothing_used : ((k : Kept) (status : ℕ) → s.found ≡ Entry k status → ⊥) → used ≡ None
  nothing_used none = by_used used refl
    where
      by_used : (o : Option Kept) → used ≡ o → o ≡ None
      by_used None e = refl
      by_used (Some k) e =
          let (status, is) = used_is_quiet g.world.ram root r.space page big k bytes e in
          absurd (none k status (ap (λ (q : Searched). q.found) is))

  by_entry_found : (k : Kept) (status : ℕ) → s.found ≡ Entry k status → (k.space ≡ r.space) × (k.page ≡ page) → entry_in r.space page kept ≡ None
      → Shows (record { ram = s.ram; found = Entry k status }) ≡ Seen
  by_entry_found k status found (space, number) none = by_used used refl
    where
      here : entry_in k.space k.page kept ≡ None
      here = ap (λ (x : Space). entry_in x k.page kept) space ∙ ap (λ (n : ℕ). entry_in r.space n kept) number ∙ none

      by_used : (o : Option Kept) → used ≡ o → Shows (record { ram = s.ram; found = Entry k status }) ≡ Seen
      by_used None e =
          changed_shows g r (through k r) (by_found rule_k (record g.world { ram = s.ram }) r (Entry k status)).1 (is_none (displaced 256 k kept))
          (λ same. let z : (let o : Option Kept = Some k in o) ≡ None = sym (met_is_used g.world.ram root r.space page big k status bytes found same) ∙ e in
          let y : ⊥ = cc in y)
          ∙ sym (none_seen e)
      by_used (Some j) e =
          let (other, is) = used_is_quiet g.world.ram root r.space page big j bytes e in
          let same : k ≡ j = same_entry k j status other (sym found ∙ ap (λ (q : Searched). q.found) is) in
          ap (shows_by g r (by_found rule_k (record g.world { ram = s.ram }) r (Entry k status))) (displaced_is k kept here few)
          ∙ still_shows g r (through k r) (by_found rule_k (record g.world { ram = s.ram }) r (Entry k status)).1 full
          (ap (λ (q : Searched). q.ram) is) refl
          ∙ ap (λ (x : Kept). refills_seen g r (cond full None (through x r))) same
          ∙ sym (ap (λ (o : Option Kept). refills_seen g r (cond full None (seen_found r o))) e)
        where
          same_entry : (x y : Kept) (a b : ℕ) → Entry x a ≡ Entry y b → x ≡ y
          same_entry x y a b e = cc

  by_search_found : (f : Found) → s.found ≡ f → OnEntry f (λ k. (k.space ≡ r.space) × (k.page ≡ page)) → entry_in r.space page kept ≡ None
      → Shows (record { ram = s.ram; found = f }) ≡ Seen
  unfolding shows_by
  by_search_found (Entry k status) e names none = by_entry_found k status e names none
  by_search_found Invalid e names none = sym (none_seen (nothing_used (λ k status h. let z : Invalid ≡ Entry k status = sym e ∙ h in let y : ⊥ = cc in y)))
  by_search_found BusError e names none = sym (none_seen (nothing_used (λ k status h. let z : BusError ≡ Entry k status = sym e ∙ h in let y : ⊥ = cc in y)))

  by_state : (st : Settled) → settled rule_k g.world.mmu g.world.kept r ≡ st
      → shows_by g r (by_settled rule_k g.world r st) (is_none (gone_settled g.world r st)) ≡ refills_seen g r (seen_by g.world r st)
  unfolding shows_by
  by_state (To at) e = still_shows g r (Some at) g.world false refl refl
  by_state Refused e = refl
  by_state Unsettled e =
      ap (λ (w : Bool). Shows (search_of g.world.ram root r.space page w big)) reads
      ∙ by_search_found s.found refl (search_names r.space page g.world.ram root false big) (needs_none g.world.mmu g.world.kept r reads e)

  pub seen_is : can_refill g r ≡ refills_seen g r (seen g.world r)
  seen_is =
      let st = settled rule_k g.world.mmu g.world.kept r in
      ap (λ (b : Bool). not b && shows_nothing g r (translated rule_k r g.world)) reads
      ∙ ap (shows_nothing g r) (translated_by rule_k g.world r st refl)
      ∙ shows_is g r (by_settled rule_k g.world r st) ∙ by_state st refl

-- a write is none
pub writes_not : (g : Guest) (r : Reference) → r.write ≡ true → can_refill g r ≡ false
writes_not g r e = rw e refl
