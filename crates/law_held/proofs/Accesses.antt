-- Each access keeps the shadow truthful.
use Rattle.std.proofs.Common.{if◌then◌else◌, ◌≡◌, ◌⊎◌, ℕ, ◌+◌, ◌*◌, ◌/◌, ◌%◌, ◌&&◌, not, Bool, true, false, cond, List, [], ◌∷◌, length, refl, ap}
use Rattle.std.proofs.Common.{sym, ◌∙◌, subst}
use Rattle.std.proofs.Common.{arith, inl, inr, Option, Some, None, is_some}
use Rattle.std.proofs.lemmas.Bool.{cases_Bool}
use Rattle.std.proofs.lemmas.Option.{same_Some}
use Rattle.std.specs.Prelude.{IfSome}
use Rattle.mb_port.specs.declared.types.Space.{Space}
use Rattle.mb_port.specs.declared.types.Mmu.{Mmu}
use Rattle.mb_model.specs.declared.kept.Kept.{Kept}
use Rattle.mb_model.specs.Keeping.{KeptLists, rule_k, is_of, entry_in, list_of, displaced, filled_in, filled as kept_after, Apart}
use Rattle.mb_model.proofs.ApartLemmas.{filled_in-apart, is_of-same}
use Rattle.mb_walk.specs.Descriptors.{is_user}
use Rattle.mb_walk.specs.declared.found.Found.{Found}
use Rattle.mb_walk.specs.declared.found.Found.TheVariants.{Entry, Invalid, BusError}
use Rattle.mb_walk.specs.Memory.{AreBytes}
use Rattle.def_machine.specs.declared.reference.Reference.{Reference}
use Rattle.def_machine.specs.declared.reference.Settled.{Settled}
use Rattle.def_machine.specs.declared.reference.Settled.TheVariants.{To, Refused, Unsettled}
use Rattle.def_machine.specs.World.{World}
use Rattle.mb_model.specs.Pages.{page_of}
use Rattle.def_machine.specs.Access.{matched, or_off, untranslated, admits, marks, in_frame, through, known, by_entry, by_match, settled, by_found}
use Rattle.mb_walk.specs.Search.{OnEntry}
use Rattle.mb_model.proofs.Found.{filled_other, displaced_same}
use Rattle.def_runs.proofs.KeptLemmas.{found as found_there}
use Rattle.vm_shadow.specs.Shadows.{Shadowed}
use Rattle.def_guests.specs.Guests.{Guest, Truthful, ref, placed_at}
use Rattle.def_guests.specs.Bus.{gone_found, without_kept, differ, is_split, is_to, is_writable}
use Rattle.law_held.specs.Truth.{Fine}
use Rattle.law_held.proofs.Stages.{entry_used, entry_marked, no_entry}
use Rattle.law_held.proofs.Keys.{contradicts}

-- the entry that is kept of a page
abbrev pub entry_at_page : KeptLists → Space → ℕ → Option Kept
entry_at_page kept space page = entry_in space page (list_of 0 kept)

-- ---- what is settled

abbrev pub by_both : Reference → Option Bool → Option Kept → Settled
by_both r (Some protected) o = if protected && r.write then Refused else To r.at
by_both r None o = by_entry r o

both_match : (kept : KeptLists) (r : Reference) (u : Option Bool) → by_match rule_k kept r u ≡ by_both r u (entry_at_page kept r.space (page_of r.at))
both_match kept r (Some protected) = refl
both_match kept r None = refl

pub settled_at : (mmu : Mmu) (kept : KeptLists) (r : Reference) (u : Option Bool) (o : Option Kept) → untranslated mmu r ≡ u
    → entry_at_page kept r.space (page_of r.at) ≡ o
    → settled rule_k mmu kept r ≡ by_both r u o
settled_at mmu kept r u o h e = both_match kept r (untranslated mmu r) ∙ ap (λ v. by_both r v (entry_at_page kept r.space (page_of r.at))) h
    ∙ ap (by_both r u) e

settled_same : (mmu : Mmu) (kept held : KeptLists) (r : Reference) → entry_at_page held r.space (page_of r.at) ≡ entry_at_page kept r.space (page_of r.at)
    → settled rule_k mmu held r ≡ settled rule_k mmu kept r
settled_same mmu kept held r e =
    settled_at mmu held r (untranslated mmu r) (entry_at_page kept r.space (page_of r.at)) refl e
    ∙ sym (settled_at mmu kept r (untranslated mmu r) (entry_at_page kept r.space (page_of r.at)) refl refl)

-- a shadow that has fewer entries, and a kept list that has the same for their pages
pub truthful_less : (size : ℕ) (g h : Guest) → h.world.mmu ≡ g.world.mmu
    → ((space : Space) (page frame : ℕ) (writable : Bool) → h.shadow.entries space page ≡ Some (frame, writable)
    → (g.shadow.entries space page ≡ Some (frame, writable)) × (entry_at_page h.world.kept space page ≡ entry_at_page g.world.kept space page))
    → Truthful size g → Truthful size h
truthful_less size g h m less t = record {
  reads = λ code space at frame writable e. let (old, same) = less space (page_of at) frame writable e in
      ap (λ (m : Mmu). settled rule_k m h.world.kept (ref code space at false)) m
      ∙ settled_same g.world.mmu g.world.kept h.world.kept (ref code space at false) same
      ∙ t.reads code space at frame writable old;
  writes = λ space at frame e. let (old, same) = less space (page_of at) frame true e in
      ap (λ (m : Mmu). settled rule_k m h.world.kept (ref false space at true)) m
      ∙ settled_same g.world.mmu g.world.kept h.world.kept (ref false space at true) same
      ∙ t.writes space at frame old;
  inside = λ space page frame writable e. t.inside space page frame writable (less space page frame writable e).0;
}

-- ---- leaving

-- what is left in the shadow once a kept entry has gone
pub left_less : (o : Option Kept) (shadow : Shadowed) (space : Space) (page : ℕ) (e : ℕ × Bool) → (without_kept o shadow).entries space page ≡ Some e
    → (shadow.entries space page ≡ Some e) × IfSome o (λ k. is_of space page k ≡ false)
left_less None shadow space page e h = (h, tt)
left_less (Some k) shadow space page e h = elim (cases_Bool (is_of space page k)) [
  | inl is ↦ absurd (let z : None ≡ Some e = sym (ap (λ (b : Bool). cond b None (shadow.entries space page)) is) ∙ h in let y : ⊥ = cc in y)
  | inr other ↦ (sym (ap (λ (b : Bool). cond b None (shadow.entries space page)) other) ∙ h, other)
]

-- where a search is needed, the page is translated
none_match : (r : Reference) (u : Option Bool) (o : Option Kept) → by_both r u o ≡ Unsettled → u ≡ None
none_match r (Some true) o h = one r.write h
  where
    one : (b : Bool) → (if true && b then Refused else To r.at) ≡ Unsettled → Some true ≡ None
    one true h = cc
    one false h = cc
none_match r (Some false) o h = cc
none_match r None o h = refl

pub search_needed : (mmu : Mmu) (kept : KeptLists) (r : Reference) → settled rule_k mmu kept r ≡ Unsettled → untranslated mmu r ≡ None
search_needed mmu kept r n =
    none_match r (untranslated mmu r) (entry_at_page kept r.space (page_of r.at))
    (sym (settled_at mmu kept r (untranslated mmu r) (entry_at_page kept r.space (page_of r.at)) refl refl) ∙ n)

-- a translation without tables does not see whether it writes
unread : (mmu : Mmu) (r : Reference) → untranslated mmu r ≡ None → untranslated mmu (ref r.code r.space r.at false) ≡ None
unread mmu r h = h

-- after a search that found an entry, the page of the search has no shadow entry
left_by : (size : ℕ) (g : Guest) (r : Reference) (k : Kept) → Truthful size g → k.space ≡ r.space → k.page ≡ page_of r.at
    → settled rule_k g.world.mmu g.world.kept r ≡ Unsettled → (o : Option Kept) → entry_at_page g.world.kept r.space (page_of r.at) ≡ o
    → (frame : ℕ) (writable : Bool) → (without_kept (displaced 256 k (list_of 0 g.world.kept)) g.shadow).entries r.space (page_of r.at)
    ≡ Some (frame, writable) → ⊥
left_by size g r k t s p n (Some old) found frame writable e =
    let there : entry_at_page g.world.kept k.space k.page ≡ Some old =
    ap (λ (a : Space). entry_at_page g.world.kept a k.page) s ∙ ap (entry_at_page g.world.kept r.space) p ∙ found in
    let e' : (without_kept (Some old) g.shadow).entries r.space (page_of r.at) ≡ Some (frame, writable) =
    ap (λ (o : Option Kept). (without_kept o g.shadow).entries r.space (page_of r.at)) (sym (displaced_same 256 k old (list_of 0 g.world.kept) there)) ∙ e in
    let (entry, other) = left_less (Some old) g.shadow r.space (page_of r.at) (frame, writable) e' in
    contradicts (is_of r.space (page_of r.at) old) ((found_there (is_of r.space (page_of r.at)) (list_of 0 g.world.kept) old found).1) other
left_by size g r k t s p n None found frame writable e =
    let (entry, other) = left_less (displaced 256 k (list_of 0 g.world.kept)) g.shadow r.space (page_of r.at) (frame, writable) e in
    let u = search_needed g.world.mmu g.world.kept r n in
    let read : settled rule_k g.world.mmu g.world.kept (ref r.code r.space r.at false) ≡ To (placed_at frame r.at) =
    t.reads r.code r.space r.at frame writable entry in
    let none : settled rule_k g.world.mmu g.world.kept (ref r.code r.space r.at false) ≡ Unsettled =
    settled_at g.world.mmu g.world.kept (ref r.code r.space r.at false) None None (unread g.world.mmu r u) found ∙ no_entry (ref r.code r.space r.at false) in
    let z : To (placed_at frame r.at) ≡ Unsettled = sym read ∙ none in let y : ⊥ = cc in y

-- ---- a search

-- the kept list after a fill of the one list
pub one_filled : (code : Bool) (k : Kept) (kept : KeptLists) → kept ≡ list_of 0 kept ∷ []
    → kept_after rule_k code k kept ≡ filled_in 256 k (list_of 0 kept) ∷ []
one_filled code k kept e = ap (λ (l : KeptLists). kept_after rule_k code k l) e

-- the guest once a search that was needed has ended so
abbrev pub after_found : Guest → Reference → List ℕ → Found → Guest
after_found g r ram f = record {
  world = (by_found rule_k (record g.world { ram = ram }) r f).1;
  shadow = without_kept (gone_found g.world f) g.shadow;
}

pub found_fine : (size : ℕ) (g : Guest) (r : Reference) (ram : List ℕ) (f : Found) → Fine size g
    → settled rule_k g.world.mmu g.world.kept r ≡ Unsettled
    → OnEntry f (λ k. (k.space ≡ r.space) × (k.page ≡ page_of r.at)) → length ram ≡ length g.world.ram → AreBytes ram → Fine size (after_found g r ram f)
found_fine size g r ram (Entry k status) fine n (s, p) count bytes =
    let kept = list_of 0 g.world.kept in
    let one = one_filled r.code k g.world.kept fine.one in
    let list : list_of 0 (kept_after rule_k r.code k g.world.kept) ≡ filled_in 256 k kept = ap (λ (l : KeptLists). list_of 0 l) one in
    let h : Guest = after_found g r ram (Entry k status) in
    record {
      sound = record {
        truthful = truthful_less size g h refl (λ space page frame writable e.
            let (old, other) = left_less (displaced 256 k kept) g.shadow space page (frame, writable) e in
            let apart : is_of space page k ≡ false = elim (cases_Bool (is_of space page k)) [
              | inl so ↦ absurd (let (c, d) = is_of-same space page k so in
                  left_by size g r k fine.sound.truthful s p n (entry_at_page g.world.kept r.space (page_of r.at)) refl frame writable
                  (subst (λ (t : Space). (without_kept (displaced 256 k kept) g.shadow).entries t (page_of r.at) ≡ Some (frame, writable)) (sym c ∙ s)
                  (subst (λ (q : ℕ). (without_kept (displaced 256 k kept) g.shadow).entries space q ≡ Some (frame, writable)) (sym d ∙ p) e)))
              | inr not_so ↦ not_so
            ] in
            (old, ap (entry_in space page) list ∙ filled_other 256 space page k kept other apart))
            fine.sound.truthful;
        count = count ∙ fine.sound.count;
        bytes = bytes;
      };
      one = one ∙ ap (λ (l : List Kept). l ∷ []) (sym list);
      apart = subst Apart (sym list) (filled_in-apart 256 k kept fine.apart);
    }
found_fine size g r ram Invalid fine n names count bytes = record {
  sound = record {
    truthful = record { reads = fine.sound.truthful.reads; writes = fine.sound.truthful.writes; inside = fine.sound.truthful.inside };
    count = count ∙ fine.sound.count;
    bytes = bytes;
  };
  one = fine.one;
  apart = fine.apart;
}
found_fine size g r ram BusError fine n names count bytes = record {
  sound = record {
    truthful = record { reads = fine.sound.truthful.reads; writes = fine.sound.truthful.writes; inside = fine.sound.truthful.inside };
    count = count ∙ fine.sound.count;
    bytes = bytes;
  };
  one = fine.one;
  apart = fine.apart;
}

-- ---- how an access came to its place, as far as the page goes

abbrev pub Carried : World → Reference → ℕ → Type 0
Carried w r p = ((protected : Bool) × (untranslated w.mmu r ≡ Some protected) × (p ≡ r.at))
    ⊎ ((k : Kept) × (untranslated w.mmu r ≡ None) × (entry_at_page w.kept r.space (page_of r.at) ≡ Some k) × (admits k r ≡ true) × (p ≡ in_frame k r.at))

pub went_through : (k : Kept) (r : Reference) (p : ℕ) → through k r ≡ Some p → (admits k r ≡ true) × (p ≡ in_frame k r.at)
went_through k r p h = elim (cases_Bool (admits k r)) [
  | inl is ↦ (is, same_Some p (in_frame k r.at) (sym h ∙ ap (λ (b : Bool). cond b (Some (in_frame k r.at)) None) is))
  | inr not_so ↦ absurd (let e : None ≡ Some p = sym (ap (λ (b : Bool). cond b (Some (in_frame k r.at)) None) not_so) ∙ h in let z : ⊥ = cc in z)
]

known_to : (o : Option ℕ) (p : ℕ) → known o ≡ To p → o ≡ Some p
known_to (Some q) p h = let e : q ≡ p = cc in ap (λ (n : ℕ). Some n) e
known_to None p h = absurd (let z : ⊥ = cc in z)

pub carried_by : (w : World) (r : Reference) (p : ℕ) (u : Option Bool) (o : Option Kept) → untranslated w.mmu r ≡ u
    → entry_at_page w.kept r.space (page_of r.at) ≡ o
    → by_both r u o ≡ To p → Carried w r p
carried_by w r p (Some protected) o h e s = elim (cases_Bool (protected && r.write)) [
  | inl out ↦ absurd (let z : Refused ≡ To p = sym (ap (λ (b : Bool). cond b Refused (To r.at)) out) ∙ s in let y : ⊥ = cc in y)
  | inr goes ↦ inl (protected, h, let z : To r.at ≡ To p = sym (ap (λ (b : Bool). cond b Refused (To r.at)) goes) ∙ s in let y : p ≡ r.at = cc in y)
]
carried_by w r p None None h e s = absurd (let z : Unsettled ≡ To p = sym (no_entry r) ∙ s in let y : ⊥ = cc in y)
carried_by w r p None (Some k) h e s = elim (cases_Bool (marks k r)) [
  | inl again ↦ absurd (let z : Unsettled ≡ To p = sym (entry_marked k r again) ∙ s in let y : ⊥ = cc in y)
  | inr serves ↦
      let (may, is) = went_through k r p (known_to (through k r) p (sym (entry_used k r serves) ∙ s)) in
      inr (k, h, e, may, is)
]

-- a page that is not split is translated on both sides or on neither
other_none : (mmu : Mmu) (m n : Option Bool) → is_some m ≡ is_some n → or_off mmu m ≡ None → or_off mmu n ≡ None
other_none mmu (Some a) n e h = absurd (let z : ⊥ = cc in z)
other_none mmu None (Some b) e h = absurd (let z : ⊥ = cc in z)
other_none mmu None None e h = h

other_some : (mmu : Mmu) (m n : Option Bool) (protected : Bool) → is_some m ≡ is_some n → or_off mmu m ≡ Some protected
    → (also : Bool) × (or_off mmu n ≡ Some also)
other_some mmu (Some a) (Some b) protected e h = (b, refl)
other_some mmu (Some a) None protected e h = absurd (let z : ⊥ = cc in z)
other_some mmu None (Some b) protected e h = (b, refl)
other_some mmu None None protected e h = (protected, h)

both_same : (a b : Bool) → differ a b ≡ false → a ≡ b
both_same true true h = refl
both_same true false h = cc
both_same false true h = cc
both_same false false h = refl

sides : (mmu : Mmu) (space : Space) (page : ℕ) → is_split mmu space page ≡ false → (code other : Bool)
    → is_some (matched code mmu space page) ≡ is_some (matched other mmu space page)
sides mmu space page h true true = refl
sides mmu space page h true false = both_same (is_some (matched true mmu space page)) (is_some (matched false mmu space page)) h
sides mmu space page h false true = sym (both_same (is_some (matched true mmu space page)) (is_some (matched false mmu space page)) h)
sides mmu space page h false false = refl

pub side_none : (mmu : Mmu) (r : Reference) (other : Bool) (to : ℕ) (write : Bool) → page_of to ≡ page_of r.at → is_split mmu r.space (page_of r.at) ≡ false
    → untranslated mmu r ≡ None
    → untranslated mmu (ref other r.space to write) ≡ None
side_none mmu r other to write same h u =
    ap (λ (page : ℕ). or_off mmu (matched other mmu r.space page)) same
    ∙ other_none mmu (matched r.code mmu r.space (page_of r.at)) (matched other mmu r.space (page_of r.at)) (sides mmu r.space (page_of r.at) h r.code other) u

side_some : (mmu : Mmu) (r : Reference) (other : Bool) (to : ℕ) (write protected : Bool) → page_of to ≡ page_of r.at
    → is_split mmu r.space (page_of r.at) ≡ false
    → untranslated mmu r ≡ Some protected → (also : Bool) × (untranslated mmu (ref other r.space to write) ≡ Some also)
side_some mmu r other to write protected same h u =
    let (also, e) = other_some mmu (matched r.code mmu r.space (page_of r.at)) (matched other mmu r.space (page_of r.at)) protected
    (sides mmu r.space (page_of r.at) h r.code other) u in
    (also, ap (λ (page : ℕ). or_off mmu (matched other mmu r.space page)) same ∙ e)

-- what an entry admits, it admits for reading, at any place of its page
admits_reads : (k : Kept) (r : Reference) (code : Bool) (to : ℕ) → admits k r ≡ true → admits k (ref code r.space to false) ≡ true
admits_reads k r code to h = one k.w r.write (not (k.s && is_user r.space)) h
  where
    one : (w write c : Bool) → (not (w && write) && c) ≡ true → (not (w && false) && c) ≡ true
    one true true c h = cc
    one true false c h = h
    one false write c h = h

through_admitted : (k : Kept) (r : Reference) → admits k r ≡ true → through k r ≡ Some (in_frame k r.at)
through_admitted k r h = ap (λ (b : Bool). cond b (Some (in_frame k r.at)) None) h

read_unmarked : (k : Kept) (code : Bool) (space : Space) (to : ℕ) → marks k (ref code space to false) ≡ false
read_unmarked k code space to = refl

page_read : (frame to q p : ℕ) → p ≡ 4096 * frame + q % 4096 → 4096 * frame + to % 4096 ≡ 4096 * (p / 4096) + to % 4096
page_read frame to q p e = rw e (omega arith)

same_place : (to at p : ℕ) → to / 4096 ≡ at / 4096 → p ≡ at → to ≡ 4096 * (p / 4096) + to % 4096
same_place to at p e h = rw h (omega arith)

-- a page that was carried out is settled for reading
pub reads_settled : (w : World) (r : Reference) (p : ℕ) → Carried w r p → is_split w.mmu r.space (page_of r.at) ≡ false → (other : Bool) (to : ℕ)
    → page_of to ≡ page_of r.at
    → settled rule_k w.mmu w.kept (ref other r.space to false) ≡ To (placed_at (p / 4096) to)
reads_settled w r p (inl (protected, u, e)) h other to same =
    let (also, v) = side_some w.mmu r other to false protected same h u in
    settled_at w.mmu w.kept (ref other r.space to false) (Some also) (entry_at_page w.kept r.space (page_of to)) v refl
    ∙ ap (λ (b : Bool). cond b Refused (To to)) (never also) ∙ ap (λ (n : ℕ). To n) (same_place to r.at p same e)
  where
    never : (b : Bool) → (b && false) ≡ false
    never true = refl
    never false = refl
reads_settled w r p (inr (k, u, found, may, e)) h other to same =
    settled_at w.mmu w.kept (ref other r.space to false) None (Some k) (side_none w.mmu r other to false same h u) (ap (entry_at_page w.kept r.space) same
    ∙ found)
    ∙ entry_used k (ref other r.space to false) (read_unmarked k other r.space to)
    ∙ ap known (through_admitted k (ref other r.space to false) (admits_reads k r other to may))
    ∙ ap (λ (n : ℕ). To n) (page_read k.frame to r.at p e)

is_to_known : (o : Option ℕ) → is_to (known o) ≡ true → (p : ℕ) × (o ≡ Some p)
is_to_known (Some p) h = (p, refl)
is_to_known None h = absurd (let z : ⊥ = cc in z)

-- where a write goes through an entry somewhere in the page, it does at each place
writes_through : (k : Kept) (space : Space) (at to : ℕ) → is_to (by_entry (ref false space at true) (Some k)) ≡ true
    → by_entry (ref false space to true) (Some k) ≡ To (in_frame k to)
writes_through k space at to h = elim (cases_Bool (marks k (ref false space at true))) [
  | inl again ↦ absurd (let z : false ≡ true = sym (ap is_to (entry_marked k (ref false space at true) again)) ∙ h in let y : ⊥ = cc in y)
  | inr serves ↦
      let (q, e) = is_to_known (through k (ref false space at true)) (sym (ap is_to (entry_used k (ref false space at true) serves)) ∙ h) in
      let (may, is) = went_through k (ref false space at true) q e in
      entry_used k (ref false space to true) serves ∙ ap known (through_admitted k (ref false space to true) may)
]

whole_page : (page : ℕ) → page_of (4096 * page) ≡ page
whole_page page = omega arith

-- and for writing, where a write goes through at the page's first byte
pub writes_settled : (w : World) (r : Reference) (p : ℕ) → Carried w r p → is_split w.mmu r.space (page_of r.at) ≡ false
    → is_writable w r.space (page_of r.at) ≡ true
    → (to : ℕ) → page_of to ≡ page_of r.at → settled rule_k w.mmu w.kept (ref false r.space to true) ≡ To (placed_at (p / 4096) to)
writes_settled w r p (inl (protected, u, e)) h may to same =
    let base = 4096 * page_of r.at in
    let (also, v) = side_some w.mmu r false to true protected same h u in
    let (first, v') = side_some w.mmu r false base true protected (whole_page (page_of r.at)) h u in
    let open_at_base : is_to (cond (first && true) Refused (To base)) ≡ true =
    sym (ap is_to (settled_at w.mmu w.kept (ref false r.space base true) (Some first) (entry_at_page w.kept r.space (page_of base)) v' refl)) ∙ may in
    let both : also ≡ first = same_Some also first (sym v ∙ untranslated_same w.mmu r.space to base true (same ∙ sym (whole_page (page_of r.at))) ∙ v') in
    settled_at w.mmu w.kept (ref false r.space to true) (Some also) (entry_at_page w.kept r.space (page_of to)) v refl
    ∙ ap (λ (b : Bool). cond (b && true) Refused (To to)) (both ∙ open_is_clear first base open_at_base) ∙ ap (λ (n : ℕ). To n) (same_place to r.at p same e)
  where
    open_is_clear : (b : Bool) (base : ℕ) → is_to (cond (b && true) Refused (To base)) ≡ true → b ≡ false
    open_is_clear true base h = cc
    open_is_clear false base h = refl

    untranslated_same : (mmu : Mmu) (space : Space) (to base : ℕ) (write : Bool) → page_of to ≡ page_of base
        → untranslated mmu (ref false space to write) ≡ untranslated mmu (ref false space base write)
    untranslated_same mmu space to base write e = ap (λ (page : ℕ). or_off mmu (matched false mmu space page)) e
writes_settled w r p (inr (k, u, found, may_it, e)) h may to same =
    let base = 4096 * page_of r.at in
    let at_base : is_to (by_entry (ref false r.space base true) (Some k)) ≡ true =
    sym (ap is_to (settled_at w.mmu w.kept (ref false r.space base true) None (Some k) (side_none w.mmu r false base true (whole_page (page_of r.at)) h u)
    (ap (entry_at_page w.kept r.space) (whole_page (page_of r.at)) ∙ found))) ∙ may in
    settled_at w.mmu w.kept (ref false r.space to true) None (Some k) (side_none w.mmu r false to true same h u) (ap (entry_at_page w.kept r.space) same
    ∙ found)
    ∙ writes_through k r.space base to at_base
    ∙ ap (λ (n : ℕ). To n) (page_read k.frame to r.at p e)
