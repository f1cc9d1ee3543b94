-- The tables that stand are those that the entries need.
use Rattle.std.proofs.Common.{◌≡◌, ◌≢◌, ◌∙◌, ℕ, zero, suc, ◌+◌, ◌*◌, ◌/◌, ◌%◌, ◌^◌, ◌≤◌, ◌<◌, ◌||◌, Bool, true, false, List, length, filter}
use Rattle.std.proofs.Common.{refl, ap, sym, subst, arith, inl, inr}
use Rattle.std.specs.Prelude.{Option, None, is_some}
use Rattle.std.proofs.lemmas.Bool.{cases_lt, false≢true}
use Rattle.mb_port.specs.declared.types.Space.{Space}
use Rattle.vm_shadow.specs.declared.table.Table.{Table}
use Rattle.vm_shadow.specs.declared.table.Table.TheVariants.{Pointers, Pages}
use Rattle.vm_shadow.specs.Slots.{Placed, placed, number_of, pages_of, pointers_of, Has}
use Rattle.vm_shadow.specs.Shadows.{EntryMap, Shadowed, has_entry, is_needed, with_entry, dropped, Needs}
use Rattle.vm_shadow.specs.Mapped.{entries_in}
use Rattle.vm_shadow.specs.Area.{longs, in_slot, entry_of, IsTable, MapsPlaced, OnlyGo}
use Rattle.vm_shadow.specs.Laws.{TablesAreNeeded}
use Rattle.vm_shadow.proofs.PageLongs.{PageCases, page_cases}
use Rattle.vm_shadow.proofs.Positions.{link_no}
use Rattle.vm_shadow.proofs.Uses.{some_used}
use Rattle.vm_shadow.proofs.Kept.{has, has_yes, has_no, gone_is}
use Rattle.vm_shadow.proofs.Changes.{held_yes, held_no}
use Rattle.vm_shadow.proofs.Walks.{mapped_is, has_above}
use Rattle.vm_shadow.proofs.Held.{find_is, entries_past}
use Rattle.vm_shadow.proofs.Maps.{laid, held_by}

-- ---- entries among pages
pub entry_among : (entries : EntryMap) (space : Space) (first n k : ℕ) → k < n → is_some (entries space (first + k)) ≡ true
    → has_entry entries space first n ≡ true
unfolding has_entry
entry_among entries space first zero k h e = absurd (omega (arith, h))
entry_among entries space first (suc n) k h e = elim (cases_lt k n) [
  | inl l ↦ rw (entry_among entries space first n k l e) (or_true (is_some (entries space (first + n))))
  | inr g ↦ let is : k ≡ n = omega (arith, h, g) in rw (ap (λ (m : ℕ). is_some (entries space (first + m))) (sym is) ∙ e) refl
]
  where
    or_true : (b : Bool) → (b || true) ≡ true
    or_true true = refl
    or_true false = refl

pub none_among : (entries : EntryMap) (space : Space) (first n : ℕ) → ((k : ℕ) → k < n → entries space (first + k) ≡ None)
    → has_entry entries space first n ≡ false
unfolding has_entry
none_among entries space first zero z = refl
none_among entries space first (suc n) z =
    let r = none_among entries space first n (λ k h. z k (omega (arith, h))) in
    rw (ap (λ (o : Option (ℕ × Bool)). is_some o) (z n (omega arith)), r) refl

some_by : (long : ℕ) → PageCases long → long ≢ 0 → is_some (entry_of long) ≡ true
some_by long (inl e) d = absurd (d e)
some_by long (inr (inl e)) d = let f : long % 2 ≡ 1 = omega arith in rw f refl
some_by long (inr (inr e)) d = let f : long % 2 ≡ 1 = omega arith in rw f refl

module _ (s : Placed) (ram : List ℕ) (m : MapsPlaced s ram) where
  abbrev t : ℕ → ℕ
  t = longs ram s.area

  abbrev entries : EntryMap
  entries = entries_in ram s.area

  -- the entry of a page
  entry_yes : (space : Space) (page : ℕ) → page < 2 ^ 20 → Has s.tables (pages_of space page)
      → entries space page ≡ entry_of (t (in_slot (s.slot (pages_of space page)) (page % 2 ^ 6)))
  entry_yes space page h there =
      find_is s ram space page h ∙ mapped_is s ram (laid s ram m) space page h ∙ held_yes s.tables s.slot t space page there

  entry_no : (space : Space) (page : ℕ) → length s.tables ≤ number_of (pages_of space page) s.tables → entries space page ≡ None
  entry_no space page k = elim (cases_lt page (2 ^ 20)) [
    | inl h ↦ find_is s ram space page h ∙ mapped_is s ram (laid s ram m) space page h ∙ held_no s.tables s.slot t space page k
    | inr h ↦ entries_past s ram space page h
  ]

  -- a page table that stands has an entry
  in_pages : (space : Space) (index : ℕ) → index < 2 ^ 14 → Has s.tables (Pages space index)
      → (k : ℕ) × ((k < 64) × (is_some (entries space (64 * index + k)) ≡ true))
  in_pages space index h there =
      let a = Pages space index in
      let f = some_used t (s.slot a) 128 (omega arith) (m.full a there) in
      let k = f.0 in
      elim (cases_lt k 64) [
        | inl l ↦
            let page = 64 * index + k in
            let at : page / 2 ^ 6 ≡ index = omega (arith, l) in
            let rest : page % 2 ^ 6 ≡ k = omega (arith, l) in
            let here : Has s.tables (pages_of space page) = subst (λ (n : ℕ). Has s.tables (Pages space n)) (sym at) there in
            let long : t (in_slot (s.slot (pages_of space page)) (page % 2 ^ 6)) ≡ t (in_slot (s.slot a) k) =
            ap (λ (n : ℕ). t (in_slot (s.slot (Pages space n)) (page % 2 ^ 6))) at ∙ ap (λ (n : ℕ). t (in_slot (s.slot a) n)) rest in
            let lawful = m.tables.pages space index k h l there in (
              k,
              (
                l,
                ap (λ (o : Option (ℕ × Bool)). is_some o) (entry_yes space page (omega (arith, l, h)) here ∙ ap entry_of long)
                    ∙ some_by (t (in_slot (s.slot a) k)) (page_cases (t (in_slot (s.slot a) k)) lawful) f.1.1,
              ),
            )
        | inr g ↦ absurd (f.1.1 (m.tables.half space index k h g f.1.0 there))
      ]

  -- and so has a pointer table
  in_pointers : (space : Space) (r : ℕ) → r < 128 → Has s.tables (Pointers space r)
      → (k : ℕ) × ((k < 8192) × (is_some (entries space (8192 * r + k)) ≡ true))
  in_pointers space r h there =
      let f = some_used t (s.slot (Pointers space r)) 128 (omega arith) (m.full (Pointers space r) there) in
      let i = 128 * r + f.0 in
      let low = f.1.0 in
      let up : i / 128 ≡ r = omega (arith, low) in
      let rest : i % 128 ≡ f.0 = omega (arith, low) in
      let long = m.tables.pointers space i (omega (arith, low, h)) (subst (λ (n : ℕ). Has s.tables (Pointers space n)) (sym up) there) in
      let same : t (in_slot (s.slot (Pointers space (i / 128))) (i % 128)) ≡ t (in_slot (s.slot (Pointers space r)) f.0) =
      ap (λ (n : ℕ). t (in_slot (s.slot (Pointers space n)) (i % 128))) up ∙ ap (λ (n : ℕ). t (in_slot (s.slot (Pointers space r)) n)) rest in
      elim (cases_lt (number_of (Pages space i) s.tables) (length s.tables)) [
        | inl below ↦
            let p = in_pages space i (omega (arith, low, h)) below in
            let small = p.1.0 in
            let page : 64 * i + p.0 ≡ 8192 * r + (64 * f.0 + p.0) = omega arith in
            (64 * f.0 + p.0, (omega (arith, low, small), ap (λ (n : ℕ). is_some (entries space n)) (sym page) ∙ p.1.1))
        | inr k ↦ absurd (f.1.1 (sym same ∙ long ∙ link_no s.area s.slot (Pages space i) s.tables k))
      ]

  -- an entry's tables stand
  stand_below : (space : Space) (page : ℕ) → is_some (entries space page) ≡ true → Has s.tables (pages_of space page)
  stand_below space page e = elim (cases_lt (number_of (pages_of space page) s.tables) (length s.tables)) [
    | inl h ↦ h
    | inr k ↦ absurd (false≢true (sym (ap (λ (o : Option (ℕ × Bool)). is_some o) (entry_no space page k)) ∙ e))
  ]

  stand_above : (space : Space) (page : ℕ) → is_some (entries space page) ≡ true → Has s.tables (pointers_of space page)
  stand_above space page e = elim (cases_lt page (2 ^ 20)) [
    | inl h ↦ has_above s ram (laid s ram m) space page h (stand_below space page e)
    | inr g ↦ absurd (false≢true (sym (ap (λ (o : Option (ℕ × Bool)). is_some o) (entries_past s ram space page g)) ∙ e))
  ]

  -- where a table does not stand, its pages have no entry
  pages_none : (space : Space) (index k : ℕ) → k < 64 → length s.tables ≤ number_of (Pages space index) s.tables → entries space (64 * index + k) ≡ None
  pages_none space index k l h =
      let at : (64 * index + k) / 2 ^ 6 ≡ index = omega (arith, l) in
      entry_no space (64 * index + k) (subst (λ (n : ℕ). length s.tables ≤ number_of (Pages space n) s.tables) (sym at) h)

  pointers_none : (space : Space) (r k : ℕ) → r < 128 → k < 8192 → length s.tables ≤ number_of (Pointers space r) s.tables → entries space (8192 * r + k) ≡ None
  pointers_none space r k low l h =
      let page = 8192 * r + k in
      let small : page < 2 ^ 20 = omega (arith, low, l) in
      let up : page / 2 ^ 13 ≡ r = omega (arith, l) in
      entry_no space page (elim (cases_lt (number_of (pages_of space page) s.tables) (length s.tables)) [
        | inl there ↦
            let above : Has s.tables (Pointers space r) =
            subst (λ (n : ℕ). Has s.tables (Pointers space n)) up (has_above s ram (laid s ram m) space page small there) in
            absurd (omega (arith, above, h))
        | inr g ↦ g
      ])

  pub needed_is : (a : Table) → IsTable a → is_needed entries a ≡ has s.tables a
  needed_is (Pointers space r) low = elim (cases_lt (number_of (Pointers space r) s.tables) (length s.tables)) [
    | inl h ↦ let p = in_pointers space r low h in entry_among entries space (8192 * r) 8192 p.0 p.1.0 p.1.1 ∙ sym (has_yes s.tables (Pointers space r) h)
    | inr h ↦ none_among entries space (8192 * r) 8192 (λ k l. pointers_none space r k low l h) ∙ sym (has_no s.tables (Pointers space r) h)
  ]
  needed_is (Pages space index) low = elim (cases_lt (number_of (Pages space index) s.tables) (length s.tables)) [
    | inl h ↦ let p = in_pages space index low h in entry_among entries space (64 * index) 64 p.0 p.1.0 p.1.1 ∙ sym (has_yes s.tables (Pages space index) h)
    | inr h ↦ none_among entries space (64 * index) 64 (λ k l. pages_none space index k l h) ∙ sym (has_no s.tables (Pages space index) h)
  ]

  standing : (a : Table) → IsTable a → Has s.tables a → Needs entries a
  standing (Pointers space r) low h =
      let p = in_pointers space r low h in
      let small = p.1.0 in
      let up : r ≡ (8192 * r + p.0) / 2 ^ 13 = omega (arith, small) in
      record { space = space; page = 8192 * r + p.0; entry = p.1.1; two = inl (ap (Pointers space) up) }
  standing (Pages space index) low h =
      let p = in_pages space index low h in
      let small = p.1.0 in
      let up : index ≡ (64 * index + p.0) / 2 ^ 6 = omega (arith, small) in
      record { space = space; page = 64 * index + p.0; entry = p.1.1; two = inr (ap (Pages space) up) }

  needed_stands : (a : Table) → Needs entries a → Has s.tables a
  needed_stands a n = elim n.two [
    | inl e ↦ subst (Has s.tables) (sym e) (stand_above n.space n.page n.entry)
    | inr e ↦ subst (Has s.tables) (sym e) (stand_below n.space n.page n.entry)
  ]

pub tables_are_needed : TablesAreNeeded
tables_are_needed s ram m = record {
  standing = λ a h. standing (placed s) ram m a (m.tables.named a h) h;
  needed = needed_stands (placed s) ram m;
  once = m.tables.once;
}

-- ---- after an entry is dropped
pub shadow_dropped : (s s' : Placed) (ram ram' : List ℕ) (space : Space) (page : ℕ) → MapsPlaced s ram → MapsPlaced s' ram' → OnlyGo s.tables s'.tables
    → entries_in ram' s'.area ≡ with_entry space page None (entries_in ram s.area) → held_by s' ram' ≡ dropped space page (held_by s ram)
shadow_dropped s s' ram ram' space page m m' go e =
    let e' = entries_in ram' s'.area in
    let kept : s'.tables ≡ filter (is_needed e') s.tables =
    gone_is s.tables s'.tables go (is_needed e') (λ a h. needed_is s' ram' m' a (m.tables.named a h)) in
    ap (λ (ts : List Table). let r : Shadowed = record { entries = e'; tables = ts } in r) kept
    ∙ ap (λ (f : EntryMap). let r : Shadowed = record { entries = f; tables = filter (is_needed f) s.tables } in r) e
