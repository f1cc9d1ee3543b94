-- A search that changes no byte is one whose descriptors are all marked as used.
use Rattle.std.proofs.Common.{◌≡◌, ◌∙◌, ℕ, ◌+◌, ◌/◌, ◌%◌, ◌^◌, ◌≤◌, ◌==◌, ◌&&◌, ◌||◌, Bool, true, false, cond, List, length, refl, ap, sym, subst, arith}
use Rattle.std.proofs.Common.{inl, inr, Option, Some, None}
use Rattle.std.proofs.lemmas.Bool.{cases_Bool, cases_eq}
use Rattle.std.proofs.lemmas.Bool.Decides.{nat_tests}
use Rattle.std.proofs.lemmas.Option.{same_Some}
use Rattle.mb_port.specs.declared.types.Space.{Space}
use Rattle.mb_model.specs.declared.kept.Kept.{Kept}
use Rattle.mb_model.proofs.ApartLemmas.{both}
use Rattle.mb_walk.specs.declared.found.Found.{Found}
use Rattle.mb_walk.specs.declared.found.Found.TheVariants.{Entry, Invalid, BusError}
use Rattle.mb_walk.specs.Memory.{number_at, with_number, AreBytes}
use Rattle.mb_walk.specs.Descriptors.{table_descriptor, page_descriptor, with_used, marked, entry_at, indirection, kept_of, resident_status}
use Rattle.mb_walk.specs.Descriptors.{root_index, pointer_index, page_index, page_table_bytes}
use Rattle.mb_walk.specs.Search.{Searched, and_below, is_inside, descended, paged, ended, search_of}
use Rattle.mb_walk.proofs.MemoryLemmas.{length-with_number}
use Rattle.mb_walk.proofs.LongLemmas.{long_same, long_other, long_back, long_small, written_bytes}
use Rattle.mb_walk.proofs.Marks.{Marks, used_marks, used_before, marked_marks, page_entry_aligned}
use Rattle.mb_walk.proofs.Again.{inside_so, outside, stops, goes, left, paged_left, pointed_outside, pointed_invalid, pointed_page, ended_outside, ended_page}
use Rattle.mb_walk.proofs.Again.{ended_indirect, ended_invalid, leaves, pointers}
use Rattle.mb_walk.specs.Quiet.{used_table, below_used, used_page, used_entry, found_used}

-- ---- what a search leaves is marked

abbrev IsUsed : List ℕ → ℕ → Type 0
IsUsed ram at = number_at ram at 4 / 2 ^ 3 % 2 ≡ 1

record StaysUsed (ram after : List ℕ) : Type 0 where
  bytes : AreBytes after
  size : length after ≡ length ram
  used : (at : ℕ) → at % 4 ≡ 0 → IsUsed ram at → IsUsed after at

same_used : (ram : List ℕ) → AreBytes ram → StaysUsed ram ram
same_used ram b = record { bytes = b; size = refl; used = λ at a u. u }

both_used : (a b c : List ℕ) → StaysUsed a b → StaysUsed b c → StaysUsed a c
both_used a b c x y = record { bytes = y.bytes; size = y.size ∙ x.size; used = λ at z u. y.used at z (x.used at z u) }

written_used : (ram : List ℕ) (p v : ℕ) → p + 4 ≤ length ram → p % 4 ≡ 0 → AreBytes ram → Marks (number_at ram p 4) v
    → StaysUsed ram (with_number ram p 4 v) × IsUsed (with_number ram p 4 v) p
written_used ram p v h a b marks =
    let stands : number_at (with_number ram p 4 v) p 4 ≡ v = long_same ram p v h (marks.small (long_small ram p b)) in (
      record {
        bytes = written_bytes ram p 4 v b;
        size = length-with_number ram p 4 v h;
        used = λ q c u. elim (cases_eq q p) [
          | inl e ↦ rw (e, stands) marks.used
          | inr differ ↦ rw (long_other ram p v q h a c differ) u
        ];
      },
      rw stands marks.used,
    )

-- a level: it ends the search, or goes on behind its mark
data Descends (ram : List ℕ) (p : ℕ) (next : List ℕ → ℕ → Searched) : Type 0 where
  ends : (f : Found) → ((k : Kept) (status : ℕ) → f ≡ Entry k status → ⊥) → and_below (descended ram p) next ≡ record { ram = ram; found = f }
      → used_table ram p ≡ None → Descends ram p next
  goes_on : is_inside ram p ≡ true → (table_descriptor (number_at ram p 4)).resident ≡ true
      → and_below (descended ram p) next ≡ next (with_number ram p 4 (with_used (number_at ram p 4))) (number_at ram p 4) → Descends ram p next

not_inside : (ram : List ℕ) (p : ℕ) → is_inside ram p ≡ false → used_table ram p ≡ None
unfolding used_table
not_inside ram p h = rw h refl

not_resident : (ram : List ℕ) (p : ℕ) → (table_descriptor (number_at ram p 4)).resident ≡ false → used_table ram p ≡ None
unfolding used_table
not_resident ram p h = by_inside (is_inside ram p) (table_descriptor (number_at ram p 4)).resident (table_descriptor (number_at ram p 4)).used h
  where
    by_inside : (a b c : Bool) → b ≡ false → cond (a && (b && c)) (let o : Option ℕ = Some (number_at ram p 4) in o) None ≡ None
    by_inside true true c h = absurd (let z : ⊥ = cc in z)
    by_inside true false c h = refl
    by_inside false b c h = refl

descends : (ram : List ℕ) (p : ℕ) (next : List ℕ → ℕ → Searched) → Descends ram p next
descends ram p next = elim (cases_Bool (is_inside ram p)) [
  | inr h ↦ ends BusError (λ k status e. let z : ⊥ = cc in z) (ap (λ l. and_below l next) (outside ram p h)) (not_inside ram p h)
  | inl h ↦ elim (cases_Bool (table_descriptor (number_at ram p 4)).resident) [
    | inr k ↦ ends Invalid (λ k status e. let z : ⊥ = cc in z) (ap (λ l. and_below l next) (stops ram p h k)) (not_resident ram p k)
    | inl k ↦ goes_on h k (ap (λ l. and_below l next) (goes ram p h k))
  ]
]

table_is_used : (ram : List ℕ) (p : ℕ) → is_inside ram p ≡ true → (table_descriptor (number_at ram p 4)).resident ≡ true → IsUsed ram p
    → used_table ram p ≡ Some (number_at ram p 4)
unfolding used_table
table_is_used ram p h k u = rw (h, k, u) refl

-- one that is used already leaves memory
used_leaves : (ram : List ℕ) (p : ℕ) → AreBytes ram → is_inside ram p ≡ true → IsUsed ram p
    → with_number ram p 4 (with_used (number_at ram p 4)) ≡ ram
used_leaves ram p b h u = ap (with_number ram p 4) (used_before (number_at ram p 4) u) ∙ long_back ram p (inside_so ram p h) b

used_is : (n : ℕ) → (n / 2 ^ 3 % 2 == 1) ≡ true → n / 2 ^ 3 % 2 ≡ 1
used_is n h = grind (arith, nat_tests)

-- the tables of a level, read from its answer
used_table_is : (ram : List ℕ) (p d : ℕ) → used_table ram p ≡ Some d
    → (is_inside ram p ≡ true) × ((table_descriptor (number_at ram p 4)).resident ≡ true) × IsUsed ram p × (d ≡ number_at ram p 4)
unfolding used_table
used_table_is ram p d e =
    let long = number_at ram p 4 in
    let resident = (table_descriptor long).resident in
    let used = (table_descriptor long).used in
    elim (cases_Bool (is_inside ram p && (resident && used))) [
      | inl h ↦
          let (a, h1) = both (is_inside ram p) (resident && used) h in
          let (b, c) = both resident used h1 in
          (a, b, used_is long c, same_Some d long (sym e ∙ ap (λ (x : Bool). cond x (let o : Option ℕ = Some long in o) None) h))
      | inr h ↦ absurd (let z : None ≡ Some d = sym (ap (λ (x : Bool). cond x (let o : Option ℕ = Some long in o) None) h) ∙ e in let y : ⊥ = cc in y)
    ]

-- ---- a page

abbrev Leaf : List ℕ → ℕ → Space → ℕ → Bool → Bool → Searched
Leaf ram q space page protected big = ended ram q space page protected false big

paged_used : (ram : List ℕ) (q : ℕ) (space : Space) (page : ℕ) (protected big : Bool) → q + 4 ≤ length ram → q % 4 ≡ 0 → AreBytes ram
    → StaysUsed ram (paged ram q space page protected false big).ram × IsUsed (paged ram q space page protected false big).ram q
paged_used ram q space page protected big h a b =
    subst (λ (s : Searched). StaysUsed ram s.ram × IsUsed s.ram q) (sym (paged_left ram q space page protected false big))
    (written_used ram q (marked (number_at ram q 4) protected space false) h a b (marked_marks (number_at ram q 4) protected space false))

-- a page's long that is marked already
page_is_used : (ram : List ℕ) (q : ℕ) (space : Space) (page : ℕ) (protected big : Bool) → q + 4 ≤ length ram → AreBytes ram → IsUsed ram q
    → paged ram q space page protected false big
    ≡ record {
      ram = ram;
      found =
          let long = number_at ram q 4 in
          let kept = kept_of (page_descriptor long) protected space page big in Entry kept (resident_status long kept.w big);
    }
page_is_used ram q space page protected big h b u =
    paged_left ram q space page protected false big ∙ ap (left ram q space page protected big) (used_before (number_at ram q 4) u)
    ∙ ap (λ (r : List ℕ). (let s : Searched = record {
      ram = r;
      found =
          let long = number_at ram q 4 in
          let kept = kept_of (page_descriptor long) protected space page big in Entry kept (resident_status long kept.w big);
    } in s)) (long_back ram q h b)

page_resident : (ram : List ℕ) (q : ℕ) (space : Space) (page : ℕ) (protected big : Bool) → (page_descriptor (number_at ram q 4)).resident ≡ true → IsUsed ram q
    → used_page (number_at ram q 4) space page protected big ≡ Some (kept_of (page_descriptor (number_at ram q 4)) protected space page big)
page_resident ram q space page protected big h u = rw (h, u) refl

-- a resident page is not indirect
direct : (n : ℕ) → (n % 2 == 1) ≡ true → (n % 4 == 2) ≡ false
direct n h = grind (arith, nat_tests)

abbrev IsNoEntry : Found → Type 0
IsNoEntry f = (k : Kept) (status : ℕ) → f ≡ Entry k status → ⊥

bus_error : IsNoEntry BusError
bus_error k status e = let z : ⊥ = cc in z

invalid : IsNoEntry Invalid
invalid k status e = let z : ⊥ = cc in z

-- how the entry of a page's table ends a search for a read: with no page, or at the page's descriptor
data Ends_ (ram : List ℕ) (q : ℕ) (space : Space) (page : ℕ) (protected big : Bool) : Type 0 where
  nowhere : (f : Found) → IsNoEntry f → Leaf ram q space page protected big ≡ record { ram = ram; found = f } → used_entry ram q space page protected big ≡ None
      → Ends_ ram q space page protected big
  at : (p : ℕ) → is_inside ram p ≡ true → p % 4 ≡ 0 → (page_descriptor (number_at ram p 4)).resident ≡ true
      → Leaf ram q space page protected big ≡ paged ram p space page protected false big
      → used_entry ram q space page protected big ≡ used_page (number_at ram p 4) space page protected big → Ends_ ram q space page protected big

leaf_ends : (ram : List ℕ) (q : ℕ) (space : Space) (page : ℕ) (protected big : Bool) → q % 4 ≡ 0 → Ends_ ram q space page protected big
unfolding used_entry
leaf_ends ram q space page protected big a = elim (cases_Bool (is_inside ram q)) [
  | inr h ↦ nowhere BusError bus_error (ended_outside ram q space page protected false big h) (rw h refl)
  | inl h ↦ elim (cases_Bool (page_descriptor (number_at ram q 4)).resident) [
    | inl k ↦ at q h a k (ended_page ram q space page protected false big h k) (rw (h, direct (number_at ram q 4) k) refl)
    | inr k ↦ elim (cases_Bool (page_descriptor (number_at ram q 4)).indirect) [
      | inr l ↦ nowhere Invalid invalid (ended_invalid ram q space page protected false big h k l) (rw (h, l, k) refl)
      | inl l ↦
          let p = indirection (number_at ram q 4) in
          let e = ended_indirect ram q space page protected false big h k l in
          let aligned : p % 4 ≡ 0 = omega arith in
          elim (cases_Bool (is_inside ram p)) [
            | inr o ↦ nowhere BusError bus_error (e ∙ pointed_outside ram p space page protected false big o) (rw (h, l, o) refl)
            | inl i ↦ elim (cases_Bool (page_descriptor (number_at ram p 4)).resident) [
              | inr n ↦ nowhere Invalid invalid (e ∙ pointed_invalid ram p space page protected false big i n) (rw (h, l, i, n) refl)
              | inl y ↦ at p i aligned y (e ∙ pointed_page ram p space page protected false big i y) (rw (h, l, i) refl)
            ]
          ]
    ]
  ]
]

leaf_used : (ram : List ℕ) (q : ℕ) (space : Space) (page : ℕ) (protected big : Bool) → q % 4 ≡ 0 → AreBytes ram
    → StaysUsed ram (Leaf ram q space page protected big).ram
leaf_used ram q space page protected big a b = by_end (leaf_ends ram q space page protected big a)
  where
    by_end : Ends_ ram q space page protected big → StaysUsed ram (Leaf ram q space page protected big).ram
    by_end (nowhere f none e other) = subst (λ (s : Searched). StaysUsed ram s.ram) (sym e) (same_used ram b)
    by_end (at p i c y e other) =
        subst (λ (s : Searched). StaysUsed ram s.ram) (sym e) (paged_used ram p space page protected big (inside_so ram p i) c b).0

-- a level with what is below it
level_used : (ram : List ℕ) (p : ℕ) (next : List ℕ → ℕ → Searched) → p % 4 ≡ 0 → AreBytes ram
    → ((r : List ℕ) (d : ℕ) → AreBytes r → StaysUsed r (next r d).ram) → StaysUsed ram (and_below (descended ram p) next).ram
level_used ram p next a b below = by_level (descends ram p next)
  where
    by_level : Descends ram p next → StaysUsed ram (and_below (descended ram p) next).ram
    by_level (ends f none e other) = subst (λ (s : Searched). StaysUsed ram s.ram) (sym e) (same_used ram b)
    by_level (goes_on h k e) =
        let d = number_at ram p 4 in
        let first = with_number ram p 4 (with_used d) in
        let w = written_used ram p (with_used d) (inside_so ram p h) a b (used_marks d) in
        subst (λ (s : Searched). StaysUsed ram s.ram) (sym e) (both_used ram first (next first d).ram w.0 (below first d w.0.bytes))

-- ---- both directions, of a level

-- A search that found a page and left memory met a table that was marked, and went on from there.
level_met : (ram : List ℕ) (p : ℕ) (next : List ℕ → ℕ → Searched) (k : Kept) (status : ℕ) → p % 4 ≡ 0 → AreBytes ram
    → ((r : List ℕ) (d : ℕ) → AreBytes r → StaysUsed r (next r d).ram)
    → (and_below (descended ram p) next).found ≡ Entry k status → (and_below (descended ram p) next).ram ≡ ram
    → (used_table ram p ≡ Some (number_at ram p 4)) × (and_below (descended ram p) next ≡ next ram (number_at ram p 4))
level_met ram p next k status a b below found still = by_level (descends ram p next)
  where
    by_level : Descends ram p next → (used_table ram p ≡ Some (number_at ram p 4)) × (and_below (descended ram p) next ≡ next ram (number_at ram p 4))
    by_level (ends f none e other) = absurd (none k status (sym (ap (λ (s : Searched). s.found) e) ∙ found))
    by_level (goes_on h r e) =
        let d = number_at ram p 4 in
        let first = with_number ram p 4 (with_used d) in
        let w = written_used ram p (with_used d) (inside_so ram p h) a b (used_marks d) in
        let last : IsUsed (next first d).ram p = (below first d w.0.bytes).used p a w.1 in
        let u : IsUsed ram p = subst (λ (m : List ℕ). IsUsed m p) (sym (ap (λ (s : Searched). s.ram) e) ∙ still) last in
        (table_is_used ram p h r u, e ∙ ap (λ (m : List ℕ). next m d) (used_leaves ram p b h u))

-- And a table that is marked is met so.
level_quiet : (ram : List ℕ) (p d : ℕ) (next : List ℕ → ℕ → Searched) → AreBytes ram → used_table ram p ≡ Some d
    → and_below (descended ram p) next ≡ next ram d
level_quiet ram p d next b e =
    let (h, k, u, is) = used_table_is ram p d e in
    ap (λ l. and_below l next) (goes ram p h k) ∙ ap (λ (m : List ℕ). next m (number_at ram p 4)) (used_leaves ram p b h u) ∙ ap (next ram) (sym is)

-- ---- the page

leaf_met : (ram : List ℕ) (q : ℕ) (space : Space) (page : ℕ) (protected big : Bool) (k : Kept) (status : ℕ) → q % 4 ≡ 0 → AreBytes ram
    → (Leaf ram q space page protected big).found ≡ Entry k status → (Leaf ram q space page protected big).ram ≡ ram
    → used_entry ram q space page protected big ≡ Some k
leaf_met ram q space page protected big k status a b found still = by_end (leaf_ends ram q space page protected big a)
  where
    same_kept : (x y : Kept) (s t : ℕ) → Entry x s ≡ Entry y t → x ≡ y
    same_kept x y s t e = cc

    by_end : Ends_ ram q space page protected big → used_entry ram q space page protected big ≡ Some k
    by_end (nowhere f none e other) = absurd (none k status (sym (ap (λ (s : Searched). s.found) e) ∙ found))
    by_end (at p i c y e other) =
        let u : IsUsed ram p = subst (λ (m : List ℕ). IsUsed m p) (sym (ap (λ (s : Searched). s.ram) e) ∙ still)
        (paged_used ram p space page protected big (inside_so ram p i) c b).1 in
        let kept = kept_of (page_descriptor (number_at ram p 4)) protected space page big in
        let same : kept ≡ k = same_kept kept k _ status
        (sym (ap (λ (s : Searched). s.found) (page_is_used ram p space page protected big (inside_so ram p i) b u))
        ∙ sym (ap (λ (s : Searched). s.found) e) ∙ found) in
        other ∙ page_resident ram p space page protected big y u ∙ ap (λ (x : Kept). (let o : Option Kept = Some x in o)) same

leaf_quiet : (ram : List ℕ) (q : ℕ) (space : Space) (page : ℕ) (protected big : Bool) (k : Kept) → q % 4 ≡ 0 → AreBytes ram
    → used_entry ram q space page protected big ≡ Some k
    → (status : ℕ) × (Leaf ram q space page protected big ≡ record { ram = ram; found = Entry k status })
leaf_quiet ram q space page protected big k a b used = by_end (leaf_ends ram q space page protected big a)
  where
    by_end : Ends_ ram q space page protected big → (status : ℕ) × (Leaf ram q space page protected big ≡ record { ram = ram; found = Entry k status })
    by_end (nowhere f none e other) = absurd (let z : None ≡ Some k = sym other ∙ used in let y : ⊥ = cc in y)
    by_end (at p i c y e other) =
        let long = number_at ram p 4 in
        let kept = kept_of (page_descriptor long) protected space page big in
        let resident = (page_descriptor long).resident in
        let marked_ = (page_descriptor long).used in
        let here : used_page long space page protected big ≡ Some k = sym other ∙ used in
        elim (cases_Bool (resident && marked_)) [
          | inr h ↦ absurd (let z : None ≡ Some k = sym (ap (λ (x : Bool). cond x (let o : Option Kept = Some kept in o) None) h) ∙ here in let w : ⊥ = cc in w)
          | inl h ↦
              let u : IsUsed ram p = used_is long (both resident marked_ h).1 in
              let same : kept ≡ k = same_Some kept k (sym (ap (λ (x : Bool). cond x (let o : Option Kept = Some kept in o) None) h) ∙ here) in (
                resident_status long kept.w big,
                e ∙ page_is_used ram p space page protected big (inside_so ram p i) b u
                    ∙ ap (λ (x : Kept). (let s : Searched = record { ram = ram; found = Entry x (resident_status long kept.w big) } in s)) same,
              )
        ]

-- ---- the whole search

-- the place of a page's entry
abbrev of_page : ℕ → Bool → ℕ → ℕ
of_page leaf big page = entry_at leaf (page_table_bytes big) (page_index big page)

abbrev Leaves : Space → ℕ → Bool → Bool → List ℕ → ℕ → Searched
Leaves space page protected big = leaves space page protected false big

leaves_used : (space : Space) (page : ℕ) (protected big : Bool) (r : List ℕ) (d : ℕ) → AreBytes r → StaysUsed r (Leaves space page protected big r d).ram
leaves_used space page protected big r d b =
    leaf_used r (of_page d big page) space page (protected || (table_descriptor d).protected) big
    (page_entry_aligned big d (page_index big page)) b

pointers_used : (space : Space) (page : ℕ) (big : Bool) (r : List ℕ) (d : ℕ) → AreBytes r → StaysUsed r (pointers space page false big r d).ram
pointers_used space page big r d b =
    level_used r (entry_at d 512 (pointer_index page)) (Leaves space page (table_descriptor d).protected big) (omega arith) b
    (leaves_used space page (table_descriptor d).protected big)

-- Where a search for a read found a page and changed no byte, all on its way was marked.
pub met_is_used : (ram : List ℕ) (root : ℕ) (space : Space) (page : ℕ) (big : Bool) (k : Kept) (status : ℕ) → AreBytes ram
    → (search_of ram root space page false big).found ≡ Entry k status → (search_of ram root space page false big).ram ≡ ram
    → found_used ram root space page big ≡ Some k
met_is_used ram root space page big k status b found still =
    let p = entry_at root 512 (root_index page) in
    let (first, e) = level_met ram p (pointers space page false big) k status (omega arith) b (pointers_used space page big) found still in
    let d = number_at ram p 4 in
    let q = entry_at d 512 (pointer_index page) in
    let next = Leaves space page (table_descriptor d).protected big in
    let (second, f) = level_met ram q next k status (omega arith) b (leaves_used space page (table_descriptor d).protected big)
    (sym (ap (λ (s : Searched). s.found) e) ∙ found) (sym (ap (λ (s : Searched). s.ram) e) ∙ still) in
    let l = number_at ram q 4 in
    let whole = e ∙ f in
    let last = leaf_met ram (of_page l big page) space page ((table_descriptor d).protected || (table_descriptor l).protected) big k
    status (page_entry_aligned big l (page_index big page)) b (sym (ap (λ (s : Searched). s.found) whole) ∙ found)
    (sym (ap (λ (s : Searched). s.ram) whole) ∙ still) in
    ap (λ (o : Option ℕ). below_used o (λ pointer.
    below_used (used_table ram (entry_at pointer 512 (pointer_index page))) (λ leaf.
    used_entry ram (of_page leaf big page) space page ((table_descriptor pointer).protected || (table_descriptor leaf).protected) big))) first
    ∙ ap (λ (o : Option ℕ). below_used o (λ leaf.
    used_entry ram (of_page leaf big page) space page ((table_descriptor d).protected || (table_descriptor leaf).protected) big)) second
    ∙ last

below_some : (o : Option ℕ) (next : ℕ → Option Kept) (k : Kept) → below_used o next ≡ Some k → (d : ℕ) × (o ≡ Some d) × (next d ≡ Some k)
below_some None next k e = absurd (let z : ⊥ = cc in z)
below_some (Some d) next k e = (d, refl, e)

-- And where all on the way is marked, the search finds that and changes no byte.
pub used_is_quiet : (ram : List ℕ) (root : ℕ) (space : Space) (page : ℕ) (big : Bool) (k : Kept) → AreBytes ram → found_used ram root space page big ≡ Some k
    → (status : ℕ) × (search_of ram root space page false big ≡ record { ram = ram; found = Entry k status })
used_is_quiet ram root space page big k b e =
    let p = entry_at root 512 (root_index page) in
    let (d, first, e1) = below_some (used_table ram p) (λ pointer.
    below_used (used_table ram (entry_at pointer 512 (pointer_index page))) (λ leaf.
    used_entry ram (of_page leaf big page) space page ((table_descriptor pointer).protected || (table_descriptor leaf).protected) big)) k e in
    let q = entry_at d 512 (pointer_index page) in
    let (l, second, e2) = below_some (used_table ram q) (λ leaf.
    used_entry ram (of_page leaf big page) space page ((table_descriptor d).protected || (table_descriptor leaf).protected) big) k e1 in
    let (status, last) = leaf_quiet ram (of_page l big page) space page ((table_descriptor d).protected || (table_descriptor l).protected) big k
    (page_entry_aligned big l (page_index big page)) b e2 in (
      status,
      level_quiet ram p d (pointers space page false big) b first ∙ level_quiet ram q l (Leaves space page (table_descriptor d).protected big) b second ∙ last,
    )
