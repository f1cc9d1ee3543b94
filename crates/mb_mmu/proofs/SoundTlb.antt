-- A micro-TLB by whose entries accesses lead.
use Rattle.std.proofs.Common.{◌≡◌, ◌≢◌, ◌∙◌, ap, sym, refl, subst, ℕ, zero, suc, ◌+◌, ◌%◌, ◌^◌, ◌<◌, ◌⊎◌, inl, inr, arith}
use Rattle.std.proofs.Common.{Bool, true, false, List, [], ◌∷◌, get_or, set}
use Rattle.std.specs.Prelude.{Option, Some, None, IfSome, replicate, ◌&&◌, ◌==◌}
use Rattle.std.proofs.lemmas.List.{get_or-set_other}
use Rattle.std.proofs.lemmas.Bool.Decides.{nat_tests}
use Rattle.mb_port.specs.declared.types.Space.{Space}
use Rattle.mb_port.specs.declared.types.Space.TheVariants.{User, Super}
use Rattle.mb_model.specs.declared.kept.Kept.{Kept}
use Rattle.mb_model.specs.Keeping.{KeptLists, entry_for as kept_for, entry_in as kept_in, filled, filled_in, list_of, rule_a}
use Rattle.mb_model.specs.Pages.{page_of}
use Rattle.def_machine.specs.declared.reference.Reference.{Reference}
use Rattle.def_machine.specs.Access.{by_entry, by_match, untranslated}
use Rattle.mb_mmu.specs.declared.micro_tlb.Entry.{Entry}
use Rattle.mb_mmu.specs.declared.micro_tlb.Entries.{Entries}
use Rattle.mb_mmu.specs.declared.micro_tlb.MicroTlb.{MicroTlb}
use Rattle.mb_mmu.specs.State.{Translation, settled_by}
use Rattle.mb_mmu.specs.MicroTlb.{place_by, empty, none, nothing, entry_in, entries_for, entry_for, with_in, with_entries, with_entry}
use Rattle.mb_mmu.specs.MicroTlb.{without_class, without_class_in, without_class_of}
use Rattle.mb_mmu.specs.Sound.{LeadsIntoRam, IsAccess, IsSound}
use Rattle.mb_mmu.proofs.ByPage.{IsTrueFor}

-- ---- what stands in lists

-- an element of a list in which one was replaced
set_keeps : (P : Entry → Type 0) (xs : List Entry) (i j : ℕ) (e d : Entry) → P e → P (get_or xs j d) → P (get_or (set xs i e) j d)
set_keeps P [] i j e d new old = old
set_keeps P (x ∷ xs) zero zero e d new old = new
set_keeps P (x ∷ xs) zero (suc j) e d new old = old
set_keeps P (x ∷ xs) (suc i) zero e d new old = old
set_keeps P (x ∷ xs) (suc i) (suc j) e d new old = set_keeps P xs i j e d new old

is_cleared : (xs : List Entry) (i : ℕ) (d : Entry) → get_or (set xs i d) i d ≡ d
is_cleared [] i d = refl
is_cleared (x ∷ xs) zero d = refl
is_cleared (x ∷ xs) (suc i) d = is_cleared xs i d

of_copies : (n i : ℕ) (d : Entry) → get_or (replicate n d) i d ≡ d
of_copies zero i d = refl
of_copies (suc n) zero d = refl
of_copies (suc n) (suc i) d = of_copies n i d

-- ---- no entry

no_page : (at : ℕ) → at < 2 ^ 32 → (page_of at == 2 ^ 20) ≡ false
no_page at less = grind (arith, nat_tests)

-- an access by an entry
abbrev pub Leads : Translation → Reference → Entry → Type 0
Leads t r e = IfSome (place_by e r.at) (LeadsIntoRam t r)

empty_leads : (t : Translation) (r : Reference) (e : Entry) → r.at < 2 ^ 32 → e ≡ empty → Leads t r e
empty_leads t r e less is = subst (Leads t r) (sym is) (rw (no_page r.at less) tt)

none_found : (space : Space) (at : ℕ) → entry_in none space at ≡ empty
none_found User at = of_copies 64 (page_of at % 64) empty
none_found Super at = of_copies 64 (page_of at % 64) empty

nothing_found : (code write : Bool) (space : Space) (at : ℕ) → entry_in (entries_for code write nothing) space at ≡ empty
nothing_found true write space at = none_found space at
nothing_found false true space at = none_found space at
nothing_found false false space at = none_found space at

pub nothing_sound : (t : Translation) → IsSound t nothing
nothing_sound t = record { leads = λ r access less. empty_leads t r (entry_for nothing r) less (nothing_found r.code r.write r.space r.at) }

-- ---- one more

-- what is so of an entry that is set in a space, and of the one that stood there, is so of what is found
in_space : (P : Entry → Type 0) (e : Entries) (space s : Space) (entry : Entry) (at : ℕ) → (space ≡ s → P entry) → P (entry_in e s at)
    → P (entry_in (with_in e space entry) s at)
in_space P e User User entry at new old = set_keeps P e.user (entry.page % 64) (page_of at % 64) entry empty (new refl) old
in_space P e User Super entry at new old = old
in_space P e Super User entry at new old = old
in_space P e Super Super entry at new old = set_keeps P e.supervisor (entry.page % 64) (page_of at % 64) entry empty (new refl) old

abbrev pub an_access : (code write : Bool) → Space → ℕ → Reference
an_access code write space at = record { code = code; space = space; at = at; write = write }

-- an access of a kind, where an entry for accesses of the kind to a space is true
abbrev pub Found : Translation → MicroTlb → (code write : Bool) → Space → ℕ → Type 0
Found t m code write space at = Leads t (an_access code write space at) (entry_in (entries_for code write m) space at)

of_kind : (t : Translation) (code write : Bool) (e : Entries) (space s : Space) (entry : Entry) (at : ℕ) → at < 2 ^ 32
    → IsTrueFor t (an_access code write space 0) entry → Leads t (an_access code write s at) (entry_in e s at)
    → Leads t (an_access code write s at) (entry_in (with_in e space entry) s at)
of_kind t code write e space s entry at less is old =
    let new : space ≡ s → Leads t (an_access code write s at) entry =
    λ same. subst (λ (x : Space). Leads t (an_access code write x at) entry) same (is.leads at less) in
    in_space (Leads t (an_access code write s at)) e space s entry at new old

kind_keeps : (t : Translation) (m : MicroTlb) (code write : Bool) (space : Space) (entry : Entry) → (code && write) ≡ false → IsSound t m
    → IsTrueFor t (an_access code write space 0) entry → (c w : Bool) (s : Space) (at : ℕ) → (c && w) ≡ false → at < 2 ^ 32
    → Found t (with_entries code write space entry m) c w s at
kind_keeps t m true true space entry h sound is c w s at access less = absurd (cc)
kind_keeps t m true false space entry h sound is true true s at access less = absurd (cc)
kind_keeps t m true false space entry h sound is true false s at access less =
    of_kind t true false m.fetches space s entry at less is (sound.leads (an_access true false s at) refl less)
kind_keeps t m true false space entry h sound is false true s at access less = sound.leads (an_access false true s at) refl less
kind_keeps t m true false space entry h sound is false false s at access less = sound.leads (an_access false false s at) refl less
kind_keeps t m false true space entry h sound is true true s at access less = absurd (cc)
kind_keeps t m false true space entry h sound is true false s at access less = sound.leads (an_access true false s at) refl less
kind_keeps t m false true space entry h sound is false true s at access less =
    of_kind t false true m.writes space s entry at less is (sound.leads (an_access false true s at) refl less)
kind_keeps t m false true space entry h sound is false false s at access less = sound.leads (an_access false false s at) refl less
kind_keeps t m false false space entry h sound is true true s at access less = absurd (cc)
kind_keeps t m false false space entry h sound is true false s at access less = sound.leads (an_access true false s at) refl less
kind_keeps t m false false space entry h sound is false true s at access less = sound.leads (an_access false true s at) refl less
kind_keeps t m false false space entry h sound is false false s at access less =
    of_kind t false false m.reads space s entry at less is (sound.leads (an_access false false s at) refl less)

-- with a true entry more it is sound
pub with_entry-sound : (t : Translation) (m : MicroTlb) (r : Reference) (entry : Entry) → IsSound t m → IsAccess r → IsTrueFor t r entry
    → IsSound t (with_entry m r entry)
with_entry-sound t m r entry sound access is =
    let true_for : IsTrueFor t (an_access r.code r.write r.space 0) entry = record { leads = is.leads } in
    record { leads = λ q other less. kind_keeps t m r.code r.write r.space entry access sound true_for q.code q.write q.space q.at other less }

-- ---- a fill

-- once a side has kept an entry more
abbrev pub after_fill : Translation → Bool → Kept → Translation
after_fill t code k = record t { kept = filled rule_a code k t.kept }

abbrev pub class_for : Reference → ℕ
class_for r = rule_a.class_of r.code (page_of r.at)

match_same : (kept after : KeptLists) (r : Reference) (o : Option Bool)
    → kept_for rule_a r.code r.space (page_of r.at) after ≡ kept_for rule_a r.code r.space (page_of r.at) kept
    → by_match rule_a after r o ≡ by_match rule_a kept r o
match_same kept after r (Some protected) e = refl
match_same kept after r None e = ap (λ (k : Option Kept). by_entry r k) e

-- what is known of an access of another class stays
elsewhere : (t : Translation) (r : Reference) (code : Bool) (k : Kept) → class_for r ≢ rule_a.class_of code k.page
    → settled_by (after_fill t code k) r ≡ settled_by t r
elsewhere t r code k other =
    let class = rule_a.class_of code k.page in
    match_same t.kept (filled rule_a code k t.kept) r (untranslated t.mmu r)
    (ap (λ (l : List Kept). kept_in r.space (page_of r.at) l)
    (get_or-set_other t.kept class (class_for r) (filled_in rule_a.capacity k (list_of class t.kept)) [] other))

still_leads : (t after : Translation) (r : Reference) (o : Option ℕ) → settled_by after r ≡ settled_by t r → after.ram ≡ t.ram
    → IfSome o (LeadsIntoRam t r) → IfSome o (LeadsIntoRam after r)
still_leads t after r None e size h = tt
still_leads t after r (Some place) e size h =
    record { settled = e ∙ h.settled; offset = h.offset; inside = (let inside = h.inside in rw size inside) }

stays : (t : Translation) (m : MicroTlb) (code : Bool) (k : Kept) (r : Reference) (e : Entry) → IsSound t m → IsAccess r → r.at < 2 ^ 32
    → class_for r ≢ rule_a.class_of code k.page → e ≡ entry_for m r → Leads (after_fill t code k) r e
stays t m code k r e sound access less other is =
    subst (Leads (after_fill t code k) r) (sym is)
    (still_leads t (after_fill t code k) r (place_by (entry_for m r) r.at) (elsewhere t r code k other) refl (sound.leads r access less))

same_or_other : (i j : ℕ) → (i ≡ j) ⊎ (i ≢ j)
same_or_other i j = grind arith

-- an element that was emptied or was empty
emptied : (xs : List Entry) (i j : ℕ) → (j ≢ i → get_or xs j empty ≡ empty) → get_or (set xs i empty) j empty ≡ empty
emptied xs i j rest = elim (same_or_other j i) [
  | inl same ↦ ap (λ (n : ℕ). get_or (set xs i empty) n empty) same ∙ is_cleared xs i empty
  | inr other ↦ get_or-set_other xs i j empty empty other ∙ rest other
]

of_class : (class j : ℕ) → j < 64 → j % 16 ≡ class → j ≢ class → j ≢ class + 16 → j ≢ class + 32 → j ≢ class + 48 → ⊥
of_class class j less same a b c d = grind (arith, less, same, a, b, c, d)

-- where entries of the class would stand there is none, and all others stand as they did
class_cleared : (xs : List Entry) (page j : ℕ) → j < 64 → j % 16 ≡ page % 16 → get_or (without_class xs page) j empty ≡ empty
class_cleared xs page j less same =
    let class = page % 16 in
    emptied _ (class + 48) j (λ d. emptied _ (class + 32) j (λ c. emptied _ (class + 16) j (λ b. emptied xs class j
    (λ a. absurd (of_class class j less same a b c d)))))

class_kept : (xs : List Entry) (page j : ℕ) → j % 16 ≢ page % 16 → get_or (without_class xs page) j empty ≡ get_or xs j empty
class_kept xs page j other =
    let class = page % 16 in
    get_or-set_other _ (class + 48) j empty empty (λ e. other (omega (arith, e)))
    ∙ get_or-set_other _ (class + 32) j empty empty (λ e. other (omega (arith, e)))
    ∙ get_or-set_other _ (class + 16) j empty empty (λ e. other (omega (arith, e)))
    ∙ get_or-set_other xs class j empty empty (λ e. other (omega (arith, e)))

cleared_at : (e : Entries) (page : ℕ) (space : Space) (at : ℕ) → page_of at % 16 ≡ page % 16 → entry_in (without_class_in e page) space at ≡ empty
cleared_at e page User at same = class_cleared e.user page (page_of at % 64) (omega arith) (omega (arith, same))
cleared_at e page Super at same = class_cleared e.supervisor page (page_of at % 64) (omega arith) (omega (arith, same))

others_at : (e : Entries) (page : ℕ) (space : Space) (at : ℕ) → page_of at % 16 ≢ page % 16
    → entry_in (without_class_in e page) space at ≡ entry_in e space at
others_at e page User at other = class_kept e.user page (page_of at % 64) (λ e. other (omega (arith, e)))
others_at e page Super at other = class_kept e.supervisor page (page_of at % 64) (λ e. other (omega (arith, e)))

-- an access of the side
on_side : (t : Translation) (m : MicroTlb) (code write : Bool) (k : Kept) (space : Space) (at : ℕ) → IsSound t m
    → IsAccess (an_access code write space at) → at < 2 ^ 32
    → Leads (after_fill t code k) (an_access code write space at) (entry_in (without_class_in (entries_for code write m) k.page) space at)
on_side t m code write k space at sound access less = elim (same_or_other (page_of at % 16) (k.page % 16)) [
  | inl same ↦ empty_leads (after_fill t code k) (an_access code write space at) _ less
      (cleared_at (entries_for code write m) k.page space at same)
  | inr other ↦ stays t m code k (an_access code write space at) _ sound access less
      (λ e. other (omega (arith, e))) (others_at (entries_for code write m) k.page space at other)
]

side_keeps : (t : Translation) (m : MicroTlb) (code : Bool) (k : Kept) → IsSound t m → (c w : Bool) (s : Space) (at : ℕ) → (c && w) ≡ false
    → at < 2 ^ 32 → Found (after_fill t code k) (without_class_of code k.page m) c w s at
side_keeps t m true k sound true true s at access less = absurd (cc)
side_keeps t m true k sound true false s at access less = on_side t m true false k s at sound access less
side_keeps t m true k sound false true s at access less =
    stays t m true k (an_access false true s at) _ sound access less (λ e. let z : ⊥ = omega (arith, e) in z) refl
side_keeps t m true k sound false false s at access less =
    stays t m true k (an_access false false s at) _ sound access less (λ e. let z : ⊥ = omega (arith, e) in z) refl
side_keeps t m false k sound true true s at access less = absurd (cc)
side_keeps t m false k sound true false s at access less =
    stays t m false k (an_access true false s at) _ sound access less (λ e. let z : ⊥ = omega (arith, e) in z) refl
side_keeps t m false k sound false true s at access less = on_side t m false true k s at sound access less
side_keeps t m false k sound false false s at access less = on_side t m false false k s at sound access less

-- without what stands where entries of its class would, it is sound once that is kept
pub without_class-sound : (t : Translation) (m : MicroTlb) (code : Bool) (k : Kept) → IsSound t m
    → IsSound (after_fill t code k) (without_class_of code k.page m)
without_class-sound t m code k sound =
    record { leads = λ q access less. side_keeps t m code k sound q.code q.write q.space q.at access less }
