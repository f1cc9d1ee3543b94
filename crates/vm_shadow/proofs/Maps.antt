-- What a shadow holds once a call has written a long of its area.
use Rattle.std.proofs.Common.{◌≡◌, ◌≢◌, ◌∙◌, ℕ, ◌+◌, ◌/◌, ◌%◌, ◌^◌, ◌≤◌, ◌<◌, ◌==◌, nat_lt, Bool, true, false, cond, List, [], ◌∷◌, ◌++◌, length}
use Rattle.std.proofs.Common.{refl, ap, sym, subst, arith, inl, inr}
use Rattle.std.specs.Prelude.{None}
use Rattle.std.proofs.lemmas.Bool.{cases_eq, cases_lt, false≢true}
use Rattle.std.proofs.lemmas.Bool.Decides.{nat_tests}
use Rattle.mb_port.specs.declared.types.Space.{Space}
use Rattle.vm_shadow.specs.declared.table.Table.{Table}
use Rattle.vm_shadow.specs.declared.table.Table.TheVariants.{Pointers, Pages}
use Rattle.vm_shadow.specs.Slots.{Placed, number_of, with_table, pages_of, Has}
use Rattle.vm_shadow.specs.Shadows.{EntryMap, Shadowed, with_entry, nothing}
use Rattle.vm_shadow.specs.Mapped.{entries_in}
use Rattle.vm_shadow.specs.Area.{longs, in_root, in_slot, link, entry_of, one, used, IsPageLong, IsUsed}
use Rattle.law_links.specs.Paths.{updated}
use Rattle.vm_shadow.specs.Area.{Counted, Laid, MapsPlaced, UsedBut, Pushed, Removed}
use Rattle.law_links.proofs.Paths.{updated_same, updated_other}
use Rattle.vm_shadow.proofs.Positions.{same_cases, pushed_length, had, has_new, link_yes}
use Rattle.vm_shadow.proofs.Kept.{gone_had}
use Rattle.vm_shadow.proofs.Uses.{used_same, used_set, used_apart, used_empty, none_used, used_by, used_moved}
use Rattle.vm_shadow.proofs.Changes.{slot_not_root, slots_differ, tables_put, with_pointers, held_with_pointers, with_pages, held_with_pages, held}
use Rattle.vm_shadow.proofs.Frees.{without, without_pages, held_without_pages, without_pointers, held_without_pointers}
use Rattle.vm_shadow.proofs.Held.{entries_put, entries_stay, entries_empty, tables_empty}

pub laid : (s : Placed) (ram : List ℕ) → MapsPlaced s ram → Laid s ram
laid s ram m = record { aligned = m.aligned; inside = m.inside; tables = m.tables; counted = m.counted }

pub full_but : (s : Placed) (ram : List ℕ) (but : Table) → MapsPlaced s ram → UsedBut but s ram
full_but s ram but m = λ a d has. m.full a has

pub maps_of : (s : Placed) (ram : List ℕ) (but : Table) → Laid s ram → UsedBut but s ram
    → (Has s.tables but → IsUsed (longs ram s.area) (s.slot but)) → MapsPlaced s ram
maps_of s ram but l full last = record {
  aligned = l.aligned;
  inside = l.inside;
  tables = l.tables;
  counted = l.counted;
  full = λ a has. elim (same_cases a but) [
    | inl e ↦ subst (λ (b : Table). IsUsed (longs ram s.area) (s.slot b)) (sym e) (last (subst (Has s.tables) e has))
    | inr d ↦ full a d has
  ];
}

-- a table whose slot was counted: it is used, or its count is 0
pub used_of : (s : Placed) (ram : List ℕ) (a : Table) (slot : ℕ) (empty : Bool) → Laid s ram → Has s.tables a → slot ≡ s.slot a
    → empty ≡ (s.count slot == 0) → empty ≡ false → IsUsed (longs ram s.area) (s.slot a)
used_of s ram a slot empty m has is test some = λ e.
    let zero : s.count slot ≡ 0 = ap s.count is ∙ m.counted (s.slot a) (m.tables.inside a has) ∙ e in
    let b : (s.count slot == 0) ≡ true = grind (arith, nat_tests) in
    false≢true (sym some ∙ test ∙ b)

pub zero_of : (s : Placed) (a : Table) (slot : ℕ) (empty : Bool) → slot ≡ s.slot a → empty ≡ (s.count slot == 0) → empty ≡ true → s.count (s.slot a) ≡ 0
zero_of s a slot empty is test none =
    let b : (s.count slot == 0) ≡ true = sym test ∙ none in
    let zero : s.count slot ≡ 0 = grind (arith, nat_tests) in
    ap s.count (sym is) ∙ zero

-- a pointer table that leads to a page's table
pub above_used : (s : Placed) (ram : List ℕ) (space : Space) (index : ℕ) → Laid s ram → index < 2 ^ 14 → Has s.tables (Pages space index)
    → IsUsed (longs ram s.area) (s.slot (Pointers space (index / 128)))
above_used s ram space index m h has =
    let up = m.tables.reached space index h has in
    let long = m.tables.pointers space index h up ∙ link_yes s.area s.slot (Pages space index) s.tables has in
    used_by (longs ram s.area) (s.slot (Pointers space (index / 128))) (index % 128) (omega arith) (λ z. absurd (omega (arith, z, long)))

-- ---- tables that come to stand
pub with_old : (a : Table) (xs : List Table) → Has xs a → with_table a xs ≡ xs
with_old a xs h = let b : nat_lt (number_of a xs) (length xs) ≡ true = grind (arith, nat_tests) in ap (λ (b : Bool). cond b xs (xs ++ a ∷ [])) b

pub with_new : (a : Table) (xs : List Table) → length xs ≤ number_of a xs → with_table a xs ≡ xs ++ a ∷ []
with_new a xs h = let b : nat_lt (number_of a xs) (length xs) ≡ false = grind (arith, nat_tests) in ap (λ (b : Bool). cond b xs (xs ++ a ∷ [])) b

pub with_has : (a : Table) (xs : List Table) → Has (with_table a xs) a
with_has a xs = elim (cases_lt (number_of a xs) (length xs)) [
  | inl h ↦ subst (λ ys. Has ys a) (sym (with_old a xs h)) h
  | inr h ↦ subst (λ ys. Has ys a) (sym (with_new a xs h)) (has_new a xs h)
]

pub room_new : (a : Table) (xs : List Table) → length xs ≤ number_of a xs → length (with_table a xs) ≤ 126 → length xs < 126
room_new a xs h room = let e = ap length (with_new a xs h) in let l = pushed_length xs a in omega arith

-- ---- a long that is written, and slots that are in use
pub used_stays : (t u : ℕ → ℕ) (number other : ℕ) → ((i : ℕ) → i < 128 → u (in_slot other i) ≡ t (in_slot number i)) → IsUsed t number → IsUsed u other
used_stays t u number other same is = λ e. is (sym (used_moved t u number other 128 same) ∙ e)

-- a long of a slot is written, and counted
module _ (s : Placed) (count : ℕ → ℕ) (ram ram' : List ℕ) (number index long : ℕ) (low : number < 126) (h : index < 128)
    (counted : Counted s ram) (written : longs ram' s.area ≡ updated (longs ram s.area) (in_slot number index) long)
    (is : count ≡ updated s.count number (count number))
    (counts : count number + one (longs ram s.area (in_slot number index)) ≡ s.count number + one long) where
  pub counted_set : Counted (record s { count = count }) ram'
  counted_set n l =
      let t = longs ram s.area in
      ap (λ (f : ℕ → ℕ). f n) is ∙ elim (cases_eq n number) [
        | inl e ↦
            let c = counted number low in
            let k = used_set t number index long 128 h in
            let now : count number ≡ used (updated t (in_slot number index) long) number 128 = omega (arith, c, k, counts) in
            ap (updated s.count number (count number)) e ∙ updated_same s.count number (count number) ∙ now
            ∙ ap (λ (m : ℕ). used (updated t (in_slot number index) long) m 128) (sym e)
            ∙ ap (λ (f : ℕ → ℕ). used f n 128) (sym written)
        | inr d ↦
            updated_other s.count number (count number) n d ∙ counted n l ∙ sym (used_apart t n number index long d h)
            ∙ ap (λ (f : ℕ → ℕ). used f n 128) (sym written)
      ]

-- ---- an entry is written
module _ (s : Placed) (count : ℕ → ℕ) (ram ram' : List ℕ) (space : Space) (page number long : ℕ) (m : Laid s ram) (h : page < 2 ^ 20)
    (has : Has s.tables (pages_of space page)) (is : number ≡ s.slot (pages_of space page))
    (lawful : IsPageLong long) (size : length ram' ≡ length ram)
    (written : longs ram' s.area ≡ updated (longs ram s.area) (in_slot number (page % 64)) long) (counted : Counted (record s { count = count }) ram')
  where
    place_written : longs ram' s.area ≡ updated (longs ram s.area) (in_slot (s.slot (pages_of space page)) (page % 2 ^ 6)) long
    place_written = written ∙ ap (λ (n : ℕ). updated (longs ram s.area) (in_slot n (page % 64)) long) is

    pub laid_put : Laid (record s { count = count }) ram'
    laid_put = record {
      aligned = m.aligned;
      inside = let i : s.area + 65536 ≤ length ram = m.inside in omega arith;
      tables = rw place_written
          (tables_put s.area s.tables s.slot (longs ram s.area) m.tables space (page / 2 ^ 6) (page % 2 ^ 6) long (omega arith) (omega arith) has lawful);
      counted = counted;
    }

    pub entries_written : entries_in ram' s.area ≡ with_entry space page (entry_of long) (entries_in ram s.area)
    entries_written = entries_put s count ram ram' space page long m laid_put h has place_written

    pub full_put : UsedBut (pages_of space page) s ram → UsedBut (pages_of space page) (record s { count = count }) ram'
    full_put full = λ a d there.
        let apart : s.slot a ≢ s.slot (pages_of space page) = λ e. d (m.tables.apart a (pages_of space page) there has e) in
        used_stays (longs ram s.area) (longs ram' s.area) (s.slot a) (s.slot a)
        (λ i l. ap (λ (f : ℕ → ℕ). f (in_slot (s.slot a) i)) place_written
        ∙ updated_other (longs ram s.area) (in_slot (s.slot (pages_of space page)) (page % 2 ^ 6)) long (in_slot (s.slot a) i)
        (slots_differ (s.slot a) (s.slot (pages_of space page)) i (page % 2 ^ 6) l (omega arith) apart))
        (full a d there)

    pub long_put : longs ram' s.area (in_slot number (page % 64)) ≡ long
    long_put = ap (λ (f : ℕ → ℕ). f (in_slot number (page % 64))) written ∙ updated_same (longs ram s.area) (in_slot number (page % 64)) long

-- ---- a table comes to stand
abbrev pushed_is : (s s' : Placed) (a : Table) → Placed
pushed_is s s' a = record { area = s.area; tables = s.tables ++ a ∷ []; slot = s'.slot; count = s.count }

same_pushed : (s s' : Placed) (a : Table) (number : ℕ) → Pushed s s' a number → s' ≡ pushed_is s s' a
same_pushed s s' a number p =
    ap (λ (area : ℕ). let q : Placed = record { area = area; tables = s'.tables; slot = s'.slot; count = s'.count } in q) p.area
    ∙ ap (λ (tables : List Table). let q : Placed = record { area = s.area; tables = tables; slot = s'.slot; count = s'.count } in q) p.tables
    ∙ ap (λ (count : ℕ → ℕ). let q : Placed = record { area = s.area; tables = s.tables ++ a ∷ []; slot = s'.slot; count = count } in q) p.count

pub pushed_counted : (s s' : Placed) (ram : List ℕ) (a : Table) (number : ℕ) → Pushed s s' a number → Counted s ram → Counted s' ram
pushed_counted s s' ram a number p c = λ n h.
    ap (λ (f : ℕ → ℕ). f n) p.count ∙ c n h ∙ ap (λ (area : ℕ). used (longs ram area) n 128) (sym p.area)

-- a pointer table
module _ (s s' : Placed) (ram ram' : List ℕ) (space : Space) (r number long : ℕ) (m : Laid s ram) (h : r < 128)
    (new : length s.tables ≤ number_of (Pointers space r) s.tables) (low : number < 126) (p : Pushed s s' (Pointers space r) number)
    (size : length ram' ≡ length ram) (is : long ≡ link s'.area number)
    (written : longs ram' s'.area ≡ updated (longs ram s'.area) (in_root space r) long) where
  abbrev y_upper : Table
  y_upper = Pointers space r

  placed_upper : longs ram' s.area ≡ updated (longs ram s.area) (in_root space r) (link s.area number)
  placed_upper = subst (λ (a : ℕ). longs ram' a ≡ updated (longs ram a) (in_root space r) (link a number)) p.area
      (written ∙ ap (updated (longs ram s'.area) (in_root space r)) is)

  in_slots_upper : (n i : ℕ) → longs ram' s.area (in_slot n i) ≡ longs ram s.area (in_slot n i)
  in_slots_upper n i =
      ap (λ (f : ℕ → ℕ). f (in_slot n i)) placed_upper
      ∙ updated_other (longs ram s.area) (in_root space r) (link s.area number) (in_slot n i) (slot_not_root space r n i h)

  laid_is_upper : Laid (pushed_is s s' y_upper) ram'
  laid_is_upper = record {
    aligned = m.aligned;
    inside = let i : s.area + 65536 ≤ length ram = m.inside in omega arith;
    tables = rw placed_upper (with_pointers s.area s.tables s.slot (longs ram s.area) m.tables space r s'.slot number h new p.slot p.others low p.was_free);
    counted = λ n l. m.counted n l ∙ sym (used_same (longs ram s.area) (longs ram' s.area) n 128 (λ i k. in_slots_upper n i));
  }

  pub laid_pointers : Laid s' ram'
  laid_pointers = subst (λ (q : Placed). Laid q ram') (sym (same_pushed s s' y_upper number p)) laid_is_upper

  pub entries_pointers : entries_in ram' s'.area ≡ entries_in ram s.area
  entries_pointers =
      ap (entries_in ram') p.area
      ∙ entries_stay s (pushed_is s s' y_upper) ram ram' m laid_is_upper refl
      (λ of page. ap (λ (t : ℕ → ℕ). held (s.tables ++ y_upper ∷ []) s'.slot t of page) placed_upper
      ∙ held_with_pointers s.area s.tables s.slot (longs ram s.area) m.tables space r s'.slot number h new p.slot p.others low p.was_free of page)

  full_is_upper : UsedBut y_upper s ram → UsedBut y_upper (pushed_is s s' y_upper) ram'
  full_is_upper full = λ a d there.
      let was = had a y_upper s.tables there d in
      used_stays (longs ram s.area) (longs ram' s.area) (s.slot a) (s'.slot a)
      (λ i l. ap (λ (n : ℕ). longs ram' s.area (in_slot n i)) (p.others a was) ∙ in_slots_upper (s.slot a) i) (full a d was)

  pub full_pointers : UsedBut y_upper s ram → UsedBut y_upper s' ram'
  full_pointers full = subst (λ (q : Placed). UsedBut y_upper q ram') (sym (same_pushed s s' y_upper number p)) (full_is_upper full)

-- a page's table: it is pushed, and then the long that leads to it is counted
module _ (s s' : Placed) (count : ℕ → ℕ) (ram ram' : List ℕ) (space : Space) (index above number long : ℕ) (m : Laid s ram) (h : index < 2 ^ 14)
    (up : Has s.tables (Pointers space (index / 128))) (which : above ≡ s.slot (Pointers space (index / 128)))
    (new : length s.tables ≤ number_of (Pages space index) s.tables) (low : number < 126) (p : Pushed s s' (Pages space index) number)
    (size : length ram' ≡ length ram) (is : long ≡ link s'.area number)
    (written : longs ram' s'.area ≡ updated (longs ram s'.area) (in_slot above (index % 128)) long)
    (counted : Counted (record s' { count = count }) ram') where
  abbrev y_lower : Table
  y_lower = Pages space index

  abbrev q_lower : Placed
  q_lower = record { area = s.area; tables = s.tables ++ y_lower ∷ []; slot = s'.slot; count = count }

  same_lower : record s' { count = count } ≡ q_lower
  same_lower = ap (λ (r : Placed). record r { count = count }) (same_pushed s s' y_lower number p)

  abbrev place_lower : ℕ
  place_lower = in_slot (s.slot (Pointers space (index / 128))) (index % 128)

  placed_lower : longs ram' s.area ≡ updated (longs ram s.area) place_lower (link s.area number)
  placed_lower = subst (λ (a : ℕ). longs ram' a ≡ updated (longs ram a) place_lower (link a number)) p.area
      (written ∙ ap (λ (n : ℕ). updated (longs ram s'.area) (in_slot n (index % 128)) long) which
      ∙ ap (updated (longs ram s'.area) place_lower) is)

  laid_is_lower : Laid q_lower ram'
  laid_is_lower = record {
    aligned = m.aligned;
    inside = let i : s.area + 65536 ≤ length ram = m.inside in omega arith;
    tables = rw placed_lower (with_pages s.area s.tables s.slot (longs ram s.area) m.tables space index s'.slot number h up new p.slot p.others low p.was_free);
    counted = subst (λ (r : Placed). Counted r ram') same_lower counted;
  }

  pub laid_pages : Laid (record s' { count = count }) ram'
  laid_pages = subst (λ (r : Placed). Laid r ram') (sym same_lower) laid_is_lower

  pub entries_pages : entries_in ram' s'.area ≡ entries_in ram s.area
  entries_pages =
      ap (entries_in ram') p.area
      ∙ entries_stay s q_lower ram ram' m laid_is_lower refl
      (λ of page. ap (λ (t : ℕ → ℕ). held (s.tables ++ y_lower ∷ []) s'.slot t of page) placed_lower
      ∙ held_with_pages s.area s.tables s.slot (longs ram s.area) m.tables space index s'.slot number h up new p.slot p.others low p.was_free of page)

  full_is_lower : UsedBut (Pointers space (index / 128)) s ram → UsedBut y_lower q_lower ram'
  full_is_lower full = λ a d there.
      let was = had a y_lower s.tables there d in
      let b = Pointers space (index / 128) in
      elim (same_cases a b) [
        | inl e ↦
            let slot : s'.slot a ≡ s.slot b = p.others a was ∙ ap s.slot e in
            subst (λ (n : ℕ). IsUsed (longs ram' s.area) n) (sym slot)
            (used_by (longs ram' s.area) (s.slot b) (index % 128) (omega arith) (λ z.
            let long : longs ram' s.area place_lower ≡ link s.area number =
            ap (λ (f : ℕ → ℕ). f place_lower) placed_lower ∙ updated_same (longs ram s.area) place_lower (link s.area number) in
            absurd (omega (arith, z, long))))
        | inr c ↦
            let apart : s.slot a ≢ s.slot b = λ e. c (m.tables.apart a b was up e) in
            used_stays (longs ram s.area) (longs ram' s.area) (s.slot a) (s'.slot a)
            (λ i l. ap (λ (n : ℕ). longs ram' s.area (in_slot n i)) (p.others a was)
            ∙ ap (λ (f : ℕ → ℕ). f (in_slot (s.slot a) i)) placed_lower
            ∙ updated_other (longs ram s.area) place_lower (link s.area number) (in_slot (s.slot a) i)
            (slots_differ (s.slot a) (s.slot b) i (index % 128) l (omega arith) apart))
            (full a c was)
      ]

  pub full_pages : UsedBut (Pointers space (index / 128)) s ram → UsedBut y_lower (record s' { count = count }) ram'
  full_pages full = subst (λ (r : Placed). UsedBut y_lower r ram') (sym same_lower) (full_is_lower full)

-- ---- a table goes
abbrev removed_is : (s s' : Placed) (a : Table) → Placed
removed_is s s' a = record { area = s.area; tables = without a s.tables; slot = s'.slot; count = s.count }

same_removed : (s s' : Placed) (a : Table) → Removed s s' a → s' ≡ removed_is s s' a
same_removed s s' a p =
    ap (λ (area : ℕ). let q : Placed = record { area = area; tables = s'.tables; slot = s'.slot; count = s'.count } in q) p.area
    ∙ ap (λ (tables : List Table). let q : Placed = record { area = s.area; tables = tables; slot = s'.slot; count = s'.count } in q) p.tables
    ∙ ap (λ (count : ℕ → ℕ). let q : Placed = record { area = s.area; tables = without a s.tables; slot = s'.slot; count = count } in q) p.count

others_less : (s s' : Placed) (a : Table) → Removed s s' a → (b : Table) → Has (without a s.tables) b → s'.slot b ≡ s.slot b
others_less s s' a p b h = p.others b (subst (λ (tables : List Table). Has tables b) (sym p.tables) h)

-- the longs of a slot that is counted as empty
pub empty_slot : (s : Placed) (ram : List ℕ) (n : ℕ) → Laid s ram → n < 126 → s.count n ≡ 0 → (i : ℕ) → i < 128 → longs ram s.area (in_slot n i) ≡ 0
empty_slot s ram n m low z i l = none_used (longs ram s.area) n 128 (sym (m.counted n low) ∙ z) i l

-- a page's table: the long that leads to it is counted, and then it is removed
module _ (s s' : Placed) (count : ℕ → ℕ) (ram ram' : List ℕ) (space : Space) (index above : ℕ) (m : Laid s ram) (h : index < 2 ^ 14)
    (has : Has s.tables (Pages space index)) (which : above ≡ s.slot (Pointers space (index / 128)))
    (zero : s.count (s.slot (Pages space index)) ≡ 0) (size : length ram' ≡ length ram)
    (written : longs ram' s.area ≡ updated (longs ram s.area) (in_slot above (index % 128)) 0)
    (counted : Counted (record s { count = count }) ram') (p : Removed (record s { count = count }) s' (Pages space index)) where
  abbrev y_gone : Table
  y_gone = Pages space index

  abbrev q_gone : Placed
  q_gone = record { area = s.area; tables = without y_gone s.tables; slot = s'.slot; count = count }

  same_gone : s' ≡ q_gone
  same_gone = same_removed (record s { count = count }) s' y_gone p

  abbrev place_gone : ℕ
  place_gone = in_slot (s.slot (Pointers space (index / 128))) (index % 128)

  up_gone : Has s.tables (Pointers space (index / 128))
  up_gone = m.tables.reached space index h has

  empty_gone : (i : ℕ) → i < 128 → longs ram s.area (in_slot (s.slot y_gone) i) ≡ 0
  empty_gone = empty_slot s ram (s.slot y_gone) m (m.tables.inside y_gone has) zero

  placed_gone : longs ram' s.area ≡ updated (longs ram s.area) place_gone 0
  placed_gone = written ∙ ap (λ (n : ℕ). updated (longs ram s.area) (in_slot n (index % 128)) 0) which

  others_gone : (b : Table) → Has (without y_gone s.tables) b → s'.slot b ≡ s.slot b
  others_gone = others_less (record s { count = count }) s' y_gone p

  laid_is_gone : Laid q_gone ram'
  laid_is_gone = record {
    aligned = m.aligned;
    inside = let i : s.area + 65536 ≤ length ram = m.inside in omega arith;
    tables = rw placed_gone (without_pages s.area s.tables s.slot (longs ram s.area) m.tables space index s'.slot h has others_gone empty_gone);
    counted = counted;
  }

  pub laid_freed : Laid s' ram'
  laid_freed = subst (λ (r : Placed). Laid r ram') (sym same_gone) laid_is_gone

  pub entries_freed : entries_in ram' s'.area ≡ entries_in ram s.area
  entries_freed =
      ap (entries_in ram') p.area
      ∙ entries_stay s q_gone ram ram' m laid_is_gone refl
      (λ of page. ap (λ (t : ℕ → ℕ). held (without y_gone s.tables) s'.slot t of page) placed_gone
      ∙ held_without_pages s.area s.tables s.slot (longs ram s.area) m.tables space index s'.slot h has others_gone empty_gone of page)

  full_is_gone : UsedBut y_gone s ram → UsedBut (Pointers space (index / 128)) q_gone ram'
  full_is_gone full = λ a d there.
      let was = gone_had y_gone a s.tables there in
      let b = Pointers space (index / 128) in
      let apart : s.slot a ≢ s.slot b = λ e. d (m.tables.apart a b was.0 up_gone e) in
      used_stays (longs ram s.area) (longs ram' s.area) (s.slot a) (s'.slot a)
      (λ i l. ap (λ (n : ℕ). longs ram' s.area (in_slot n i)) (others_gone a there)
      ∙ ap (λ (f : ℕ → ℕ). f (in_slot (s.slot a) i)) placed_gone
      ∙ updated_other (longs ram s.area) place_gone 0 (in_slot (s.slot a) i)
      (slots_differ (s.slot a) (s.slot b) i (index % 128) l (omega arith) apart))
      (full a was.1 was.0)

  pub full_freed : UsedBut y_gone s ram → UsedBut (Pointers space (index / 128)) s' ram'
  full_freed full = subst (λ (r : Placed). UsedBut (Pointers space (index / 128)) r ram') (sym same_gone) (full_is_gone full)

-- a pointer table: its root's entry is written, and then it is removed
module _ (s s' : Placed) (ram ram' : List ℕ) (space : Space) (r : ℕ) (m : Laid s ram) (h : r < 128) (has : Has s.tables (Pointers space r))
    (zero : s.count (s.slot (Pointers space r)) ≡ 0) (size : length ram' ≡ length ram)
    (written : longs ram' s.area ≡ updated (longs ram s.area) (in_root space r) 0) (p : Removed s s' (Pointers space r)) where
  abbrev y_left : Table
  y_left = Pointers space r

  empty_left : (i : ℕ) → i < 128 → longs ram s.area (in_slot (s.slot y_left) i) ≡ 0
  empty_left = empty_slot s ram (s.slot y_left) m (m.tables.inside y_left has) zero

  others_left : (b : Table) → Has (without y_left s.tables) b → s'.slot b ≡ s.slot b
  others_left = others_less s s' y_left p

  in_slots_left : (n i : ℕ) → longs ram' s.area (in_slot n i) ≡ longs ram s.area (in_slot n i)
  in_slots_left n i =
      ap (λ (f : ℕ → ℕ). f (in_slot n i)) written
      ∙ updated_other (longs ram s.area) (in_root space r) 0 (in_slot n i) (slot_not_root space r n i h)

  laid_is_left : Laid (removed_is s s' y_left) ram'
  laid_is_left = record {
    aligned = m.aligned;
    inside = let i : s.area + 65536 ≤ length ram = m.inside in omega arith;
    tables = rw written (without_pointers s.area s.tables s.slot (longs ram s.area) m.tables space r s'.slot h has others_left empty_left);
    counted = λ n l. m.counted n l ∙ sym (used_same (longs ram s.area) (longs ram' s.area) n 128 (λ i k. in_slots_left n i));
  }

  full_is_left : UsedBut y_left s ram → (a : Table) → Has (without y_left s.tables) a → IsUsed (longs ram' s.area) (s'.slot a)
  full_is_left full = λ a there.
      let was = gone_had y_left a s.tables there in
      used_stays (longs ram s.area) (longs ram' s.area) (s.slot a) (s'.slot a)
      (λ i l. ap (λ (n : ℕ). longs ram' s.area (in_slot n i)) (others_left a there) ∙ in_slots_left (s.slot a) i)
      (full a was.1 was.0)

  maps_is_left : UsedBut y_left s ram → MapsPlaced (removed_is s s' y_left) ram'
  maps_is_left full = record {
    aligned = laid_is_left.aligned;
    inside = laid_is_left.inside;
    tables = laid_is_left.tables;
    counted = laid_is_left.counted;
    full = full_is_left full;
  }

  pub maps_freed : UsedBut y_left s ram → MapsPlaced s' ram'
  maps_freed full = subst (λ (q : Placed). MapsPlaced q ram') (sym (same_removed s s' y_left p)) (maps_is_left full)

  pub entries_gone : entries_in ram' s'.area ≡ entries_in ram s.area
  entries_gone =
      ap (entries_in ram') p.area
      ∙ entries_stay s (removed_is s s' y_left) ram ram' m laid_is_left refl
      (λ of page. ap (λ (t : ℕ → ℕ). held (without y_left s.tables) s'.slot t of page) written
      ∙ held_without_pointers s.area s.tables s.slot (longs ram s.area) m.tables space r s'.slot h has others_left empty_left of page)

-- ---- no table stands
abbrev pub held_by : Placed → List ℕ → Shadowed
held_by s ram = record { entries = entries_in ram s.area; tables = s.tables }

pub shadow_empty : (s : Placed) (ram : List ℕ) → Laid s ram → s.tables ≡ [] → held_by s ram ≡ nothing
shadow_empty s ram m e =
    ap (λ (f : EntryMap). let r : Shadowed = record { entries = f; tables = s.tables } in r) (entries_empty s ram m e)
    ∙ ap (λ (tables : List Table). let r : Shadowed = record { entries = λ space page. None; tables = tables } in r) e

pub maps_empty : (s s' : Placed) (ram : List ℕ) → s.area % 65536 ≡ 0 → s.area + 65536 ≤ length ram → s'.area ≡ s.area → s'.tables ≡ []
    → ((n : ℕ) → n < 126 → s'.count n ≡ 0) → ((at : ℕ) → at < 16384 → longs ram s.area at ≡ 0) → MapsPlaced s' ram
maps_empty s s' ram aligned inside area tables counts zero =
    let is : s' ≡ record { area = s.area; tables = []; slot = s'.slot; count = s'.count } =
    ap (λ (a : ℕ). let q : Placed = record { area = a; tables = s'.tables; slot = s'.slot; count = s'.count } in q) area
    ∙ ap (λ (ts : List Table). let q : Placed = record { area = s.area; tables = ts; slot = s'.slot; count = s'.count } in q) tables in
    subst (λ (q : Placed). MapsPlaced q ram) (sym is) (record {
      aligned = aligned;
      inside = inside;
      tables = tables_empty s.area s'.slot (longs ram s.area) zero;
      counted = λ n h. counts n h ∙ sym (used_empty (longs ram s.area) n 128 (λ i l. zero (in_slot n i) (omega arith)));
      full = λ a has. absurd (omega (arith, has));
    })
