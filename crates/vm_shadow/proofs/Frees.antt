-- What an empty table that goes leaves of the tables, and of the entries that they hold.
use Rattle.std.proofs.Common.{◌≡◌, ◌≢◌, ◌∙◌, ℕ, ◌/◌, ◌%◌, ◌^◌, ◌≤◌, ◌<◌, not, List, length, filter}
use Rattle.std.proofs.Common.{refl, ap, sym, subst, arith, inl, inr}
use Rattle.std.proofs.lemmas.Bool.{cases_eq, cases_lt}
use Rattle.mb_port.specs.declared.types.Space.{Space}
use Rattle.vm_shadow.specs.declared.table.Table.{Table}
use Rattle.vm_shadow.specs.declared.table.Table.TheVariants.{Pointers, Pages}
use Rattle.vm_shadow.specs.Slots.{same_table, number_of, pages_of, Has}
use Rattle.vm_shadow.specs.Area.{in_root, in_slot, link, link_to, entry_of, IsPageLong, IsFree, AreTables}
use Rattle.law_links.specs.Paths.{updated}
use Rattle.vm_shadow.proofs.Positions.{same_cases, link_yes, link_no, link_same}
use Rattle.vm_shadow.proofs.Kept.{once_kept, gone_other, gone_had}
use Rattle.law_links.proofs.Paths.{updated_same, updated_other}
use Rattle.vm_shadow.proofs.Changes.{root_not_slot, slot_not_root, roots_apart, root_place, slots_differ, crossed, crossed_back}
use Rattle.vm_shadow.proofs.Changes.{pointers_same, led_to, held, held_yes, held_no}

abbrev pub without : Table → List Table → List Table
without y tables = filter (λ a. not (same_table y a)) tables

-- ---- an empty table goes
module _ (area : ℕ) (tables : List Table) (slot : Table → ℕ) (t : ℕ → ℕ) (w : AreTables area tables slot t) (y : Table) (after : Table → ℕ)
    (has : Has tables y) (others : (a : Table) → Has (without y tables) a → after a ≡ slot a) where
  less_inside : (a : Table) → Has (without y tables) a → after a < 126
  less_inside a h = let f = others a h in let l = w.inside a (gone_had y a tables h).0 in omega (arith, f, l)

  less_apart : (a b : Table) → Has (without y tables) a → Has (without y tables) b → after a ≡ after b → a ≡ b
  less_apart a b h k e = w.apart a b (gone_had y a tables h).0 (gone_had y b tables k).0 (sym (others a h) ∙ e ∙ others b k)

  link_old : (a : Table) → a ≢ y → link_to area (without y tables) after a ≡ link_to area tables slot a
  link_old a d = link_same area slot after a tables (without y tables) (λ h. (gone_had y a tables h).0) (λ h. gone_other y a tables d h) (others a)

  pub not_there : length (without y tables) ≤ number_of y (without y tables)
  not_there = elim (cases_lt (number_of y (without y tables)) (length (without y tables))) [
    | inl h ↦ absurd ((gone_had y y tables h).1 refl)
    | inr k ↦ k
  ]

  link_gone : link_to area (without y tables) after y ≡ 0
  link_gone = link_no area after y (without y tables) not_there

  free_before : (n : ℕ) → n ≢ slot y → IsFree (without y tables) after n → IsFree tables slot n
  free_before n d f = λ a h e. elim (same_cases a y) [
    | inl g ↦ d (sym e ∙ ap slot g)
    | inr c ↦ let k = gone_other y a tables c h in f a k (others a k ∙ e)
  ]

-- ---- a page's table
module _ (area : ℕ) (tables : List Table) (slot : Table → ℕ) (t : ℕ → ℕ) (w : AreTables area tables slot t) (space : Space) (index : ℕ)
    (after : Table → ℕ) (h : index < 2 ^ 14) (has : Has tables (Pages space index))
    (others : (a : Table) → Has (without (Pages space index) tables) a → after a ≡ slot a)
    (empty : (i : ℕ) → i < 128 → t (in_slot (slot (Pages space index)) i) ≡ 0) where
  abbrev y_lower : Table
  y_lower = Pages space index

  abbrev less_lower : List Table
  less_lower = without y_lower tables

  abbrev above_lower : ℕ
  above_lower = slot (Pointers space (index / 128))

  abbrev place_lower : ℕ
  place_lower = in_slot above_lower (index % 128)

  abbrev u_lower : ℕ → ℕ
  u_lower = updated t place_lower 0

  up_lower : Has tables (Pointers space (index / 128))
  up_lower = w.reached space index h has

  other_lower : (p i : ℕ) → i < 128 → p ≢ above_lower → u_lower (in_slot p i) ≡ t (in_slot p i)
  other_lower p i l d = updated_other t place_lower 0 (in_slot p i) (slots_differ p above_lower i (index % 128) l (omega arith) d)

  pages_apart_lower : (s : Space) (i : ℕ) → Has tables (Pages s i) → slot (Pages s i) ≢ above_lower
  pages_apart_lower s i there = λ e. crossed_back s space i (index / 128) (w.apart (Pages s i) (Pointers space (index / 128)) there up_lower e)

  in_pages_lower : (s : Space) (i a : ℕ) → a < 128 → Has less_lower (Pages s i) → u_lower (in_slot (after (Pages s i)) a) ≡ t (in_slot (slot (Pages s i)) a)
  in_pages_lower s i a l there =
      ap (λ (n : ℕ). u_lower (in_slot n a)) (others (Pages s i) there)
      ∙ other_lower (slot (Pages s i)) a l (pages_apart_lower s i (gone_had y_lower (Pages s i) tables there).0)

  pub without_pages : AreTables area (without (Pages space index) tables) after (updated t (in_slot (slot (Pointers space (index / 128))) (index % 128)) 0)
  without_pages = record {
    once = once_kept (λ a. not (same_table y_lower a)) tables w.once;
    named = λ a k. w.named a (gone_had y_lower a tables k).0;
    inside = less_inside area tables slot t w y_lower after has others;
    apart = less_apart area tables slot t w y_lower after has others;
    roots = λ s i l. updated_other t place_lower 0 (in_root s i) (root_not_slot s i above_lower (index % 128) l) ∙ w.roots s i l
        ∙ sym (link_old area tables slot t w y_lower after has others (Pointers s i) (crossed s space i index));
    pointers = λ s i l there.
        let was = (gone_had y_lower (Pointers s (i / 128)) tables there).0 in
        let here = slot (Pointers s (i / 128)) in
        ap (λ (n : ℕ). u_lower (in_slot n (i % 128))) (others (Pointers s (i / 128)) there) ∙ elim (same_cases (Pages s i) y_lower) [
          | inl e ↦
              ap u_lower (led_to slot s space i index e) ∙ updated_same t place_lower 0
              ∙ sym (link_gone area tables slot t w y_lower after has others) ∙ ap (link_to area less_lower after) (sym e)
          | inr differ ↦
              let apart : in_slot here (i % 128) ≢ place_lower = λ e.
              let slots : here ≡ above_lower = omega arith in
              let parts = pointers_same s space (i / 128) (index / 128) (w.apart (Pointers s (i / 128)) (Pointers space (index / 128)) was up_lower slots) in
              let numbers : i ≡ index = let q = parts.1 in omega arith in
              differ (ap (λ (r : Space). Pages r i) parts.0 ∙ ap (Pages space) numbers) in
              updated_other t place_lower 0 (in_slot here (i % 128)) apart ∙ w.pointers s i l was
              ∙ sym (link_old area tables slot t w y_lower after has others (Pages s i) differ)
        ];
    pages = λ s i a l m there.
        subst (λ (n : ℕ). IsPageLong n) (sym (in_pages_lower s i a (omega arith) there)) (w.pages s i a l m (gone_had y_lower (Pages s i) tables there).0);
    half = λ s i a l m b there. in_pages_lower s i a b there ∙ w.half s i a l m b (gone_had y_lower (Pages s i) tables there).0;
    reached = λ s i l there.
        gone_other y_lower (Pointers s (i / 128)) tables (crossed s space (i / 128) index) (w.reached s i l (gone_had y_lower (Pages s i) tables there).0);
    free = λ p i l f b. elim (cases_eq p (slot y_lower)) [
      | inl e ↦
          other_lower p i b (λ g. pages_apart_lower space index has (sym e ∙ g)) ∙ ap (λ (n : ℕ). t (in_slot n i)) e ∙ empty i b
      | inr d ↦
          let was = free_before area tables slot t w y_lower after has others p d f in
          other_lower p i b (λ g. was (Pointers space (index / 128)) up_lower (sym g)) ∙ w.free p i l was b
    ];
  }

  pub held_without_pages : (of : Space) (page : ℕ)
      → held (without (Pages space index) tables) after (updated t (in_slot (slot (Pointers space (index / 128))) (index % 128)) 0) of page
      ≡ held tables slot t of page
  held_without_pages of page =
      let a = pages_of of page in
      let at = page % 2 ^ 6 in
      elim (cases_lt (number_of a less_lower) (length less_lower)) [
        | inl there ↦
            held_yes less_lower after u_lower of page there
            ∙ ap entry_of (in_pages_lower of (page / 2 ^ 6) at (omega arith) there)
            ∙ sym (held_yes tables slot t of page (gone_had y_lower a tables there).0)
        | inr k ↦ held_no less_lower after u_lower of page k ∙ sym (elim (cases_lt (number_of a tables) (length tables)) [
          | inl was ↦ elim (same_cases a y_lower) [
            | inl e ↦
                held_yes tables slot t of page was
                ∙ ap (λ (b : Table). entry_of (t (in_slot (slot b) at))) e
                ∙ ap entry_of (empty at (omega arith))
            | inr d ↦ let there = gone_other y_lower a tables d was in absurd (omega arith)
          ]
          | inr l ↦ held_no tables slot t of page l
        ])
      ]

-- ---- a pointer table
module _ (area : ℕ) (tables : List Table) (slot : Table → ℕ) (t : ℕ → ℕ) (w : AreTables area tables slot t) (space : Space) (r : ℕ)
    (after : Table → ℕ) (h : r < 128) (has : Has tables (Pointers space r))
    (others : (a : Table) → Has (without (Pointers space r) tables) a → after a ≡ slot a)
    (empty : (i : ℕ) → i < 128 → t (in_slot (slot (Pointers space r)) i) ≡ 0) where
  abbrev y_upper : Table
  y_upper = Pointers space r

  abbrev less_upper : List Table
  less_upper = without y_upper tables

  abbrev u_upper : ℕ → ℕ
  u_upper = updated t (in_root space r) 0

  same_upper : (p i : ℕ) → u_upper (in_slot p i) ≡ t (in_slot p i)
  same_upper p i = updated_other t (in_root space r) 0 (in_slot p i) (slot_not_root space r p i h)

  in_less_upper : (a : Table) (i : ℕ) → Has less_upper a → u_upper (in_slot (after a) i) ≡ t (in_slot (slot a) i)
  in_less_upper a i there = ap (λ (n : ℕ). u_upper (in_slot n i)) (others a there) ∙ same_upper (slot a) i

  -- it leads to no page table
  leads_nowhere_upper : (s : Space) (i : ℕ) → i < 2 ^ 14 → Has tables (Pages s i) → Pointers s (i / 128) ≢ y_upper
  leads_nowhere_upper s i l there = λ e.
      let up = w.reached s i l there in
      let long : t (in_slot (slot (Pointers s (i / 128))) (i % 128)) ≡ link area (slot (Pages s i)) =
      w.pointers s i l up ∙ link_yes area slot (Pages s i) tables there in
      let zero : t (in_slot (slot (Pointers s (i / 128))) (i % 128)) ≡ 0 =
      ap (λ (a : Table). t (in_slot (slot a) (i % 128))) e ∙ empty (i % 128) (omega arith) in
      absurd (omega (arith, long, zero))

  pub without_pointers : AreTables area (without (Pointers space r) tables) after (updated t (in_root space r) 0)
  without_pointers = record {
    once = once_kept (λ a. not (same_table y_upper a)) tables w.once;
    named = λ a k. w.named a (gone_had y_upper a tables k).0;
    inside = less_inside area tables slot t w y_upper after has others;
    apart = less_apart area tables slot t w y_upper after has others;
    roots = λ s i l. elim (same_cases (Pointers s i) y_upper) [
      | inl e ↦ ap u_upper (ap root_place e) ∙ updated_same t (in_root space r) 0
          ∙ sym (link_gone area tables slot t w y_upper after has others) ∙ ap (link_to area less_upper after) (sym e)
      | inr d ↦ updated_other t (in_root space r) 0 (in_root s i) (λ e. d (roots_apart s space i r l h e)) ∙ w.roots s i l
          ∙ sym (link_old area tables slot t w y_upper after has others (Pointers s i) d)
    ];
    pointers = λ s i l there.
        in_less_upper (Pointers s (i / 128)) (i % 128) there ∙ w.pointers s i l (gone_had y_upper (Pointers s (i / 128)) tables there).0
        ∙ sym (link_old area tables slot t w y_upper after has others (Pages s i) (crossed_back s space i r));
    pages = λ s i a l m there.
        subst (λ (n : ℕ). IsPageLong n) (sym (in_less_upper (Pages s i) a there)) (w.pages s i a l m (gone_had y_upper (Pages s i) tables there).0);
    half = λ s i a l m b there. in_less_upper (Pages s i) a there ∙ w.half s i a l m b (gone_had y_upper (Pages s i) tables there).0;
    reached = λ s i l there.
        let was = (gone_had y_upper (Pages s i) tables there).0 in
        gone_other y_upper (Pointers s (i / 128)) tables (leads_nowhere_upper s i l was) (w.reached s i l was);
    free = λ p i l f b. elim (cases_eq p (slot y_upper)) [
      | inl e ↦ same_upper p i ∙ ap (λ (n : ℕ). t (in_slot n i)) e ∙ empty i b
      | inr d ↦ same_upper p i ∙ w.free p i l (free_before area tables slot t w y_upper after has others p d f) b
    ];
  }

  pub held_without_pointers : (of : Space) (page : ℕ)
      → held (without (Pointers space r) tables) after (updated t (in_root space r) 0) of page ≡ held tables slot t of page
  held_without_pointers of page =
      let a = pages_of of page in
      elim (cases_lt (number_of a less_upper) (length less_upper)) [
        | inl there ↦
            held_yes less_upper after u_upper of page there
            ∙ ap entry_of (in_less_upper a (page % 2 ^ 6) there)
            ∙ sym (held_yes tables slot t of page (gone_had y_upper a tables there).0)
        | inr k ↦ held_no less_upper after u_upper of page k ∙ sym (held_no tables slot t of page (elim (cases_lt (number_of a tables) (length tables)) [
          | inl was ↦ let there = gone_other y_upper a tables (crossed_back of space (page / 2 ^ 6) r) was in absurd (omega arith)
          | inr l ↦ l
        ]))
      ]
