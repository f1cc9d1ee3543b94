-- What a long that is written leaves of the tables, and of the entries that they hold.
use Rattle.std.proofs.Common.{◌≡◌, ◌≢◌, ◌∙◌, ℕ, ◌/◌, ◌%◌, ◌^◌, ◌≤◌, ◌<◌, nat_lt, Bool, true, false, cond, if◌then◌else◌, List, [], ◌∷◌, ◌++◌, length}
use Rattle.std.proofs.Common.{ap, sym, subst, arith, inl, inr}
use Rattle.std.specs.Prelude.{Option, None}
use Rattle.std.proofs.lemmas.Bool.{cases_eq, cases_lt}
use Rattle.std.proofs.lemmas.Bool.Decides.{nat_tests}
use Rattle.mb_port.specs.declared.types.Space.{Space}
use Rattle.mb_port.specs.declared.types.Space.TheVariants.{User, Super}
use Rattle.vm_shadow.specs.declared.table.Table.{Table}
use Rattle.vm_shadow.specs.declared.table.Table.TheVariants.{Pointers, Pages}
use Rattle.vm_shadow.specs.Slots.{number_of, pages_of, Has}
use Rattle.vm_shadow.specs.Area.{in_root, in_slot, link, link_to, entry_of, IsPageLong, IsTable, IsFree, AreTables}
use Rattle.law_links.specs.Paths.{updated}
use Rattle.vm_shadow.proofs.Positions.{same_cases, has_more, has_new, had, link_yes, link_no, link_same}
use Rattle.vm_shadow.proofs.Kept.{once_pushed}
use Rattle.vm_shadow.proofs.PageLongs.{page_none}
use Rattle.law_links.proofs.Paths.{updated_same, updated_other}

pub root_low : (space : Space) (index : ℕ) → index < 128 → in_root space index < 256
root_low User i h = omega arith
root_low Super i h = omega arith

-- a root's entry is no slot's
pub root_not_slot : (space : Space) (index slot at : ℕ) → index < 128 → in_root space index ≢ in_slot slot at
root_not_slot space index slot at h = let l = root_low space index h in omega arith

pub slot_not_root : (space : Space) (index slot at : ℕ) → index < 128 → in_slot slot at ≢ in_root space index
slot_not_root space index slot at h = let l = root_low space index h in omega arith

pub roots_apart : (s r : Space) (i j : ℕ) → i < 128 → j < 128 → in_root s i ≡ in_root r j → Pointers s i ≡ Pointers r j
roots_apart User User i j h k e = ap (Pointers User) e
roots_apart User Super i j h k e = absurd (omega arith)
roots_apart Super User i j h k e = absurd (omega arith)
roots_apart Super Super i j h k e = let same : i ≡ j = omega arith in ap (Pointers Super) same

abbrev pub root_place : Table → ℕ
root_place (Pointers s i) = in_root s i
root_place (Pages s i) = 0

pub slots_differ : (p q i j : ℕ) → i < 128 → j < 128 → p ≢ q → in_slot p i ≢ in_slot q j
slots_differ p q i j h k n = λ e. n (omega arith)

pub indices_differ : (p q i j : ℕ) → i < 128 → j < 128 → i ≢ j → in_slot p i ≢ in_slot q j
indices_differ p q i j h k n = λ e. n (omega arith)

pub crossed : (s r : Space) (i j : ℕ) → Pointers s i ≢ Pages r j
crossed s r i j = λ e. cc

pub crossed_back : (s r : Space) (i j : ℕ) → Pages s i ≢ Pointers r j
crossed_back s r i j = λ e. cc

pub pointers_same : (s r : Space) (i j : ℕ) → Pointers s i ≡ Pointers r j → (s ≡ r) × (i ≡ j)
pointers_same s r i j e = (cc, cc)

pub pages_same : (s r : Space) (i j : ℕ) → Pages s i ≡ Pages r j → (s ≡ r) × (i ≡ j)
pages_same s r i j e = (cc, cc)

-- a page table is led to by one long
pub led_to : (slot : Table → ℕ) (s r : Space) (i j : ℕ) → Pages s i ≡ Pages r j
    → in_slot (slot (Pointers s (i / 128))) (i % 128) ≡ in_slot (slot (Pointers r (j / 128))) (j % 128)
led_to slot s r i j e =
    let parts = pages_same s r i j e in
    ap (λ (q : Space). in_slot (slot (Pointers q (i / 128))) (i % 128)) parts.0
    ∙ ap (λ (n : ℕ). in_slot (slot (Pointers r (n / 128))) (n % 128)) parts.1

-- the entry of a page, as the slot of its table has it
abbrev pub held : List Table → (Table → ℕ) → (ℕ → ℕ) → Space → ℕ → Option (ℕ × Bool)
held tables slot t space page =
    if nat_lt (number_of (pages_of space page) tables) (length tables) then entry_of (t (in_slot (slot (pages_of space page)) (page % 2 ^ 6))) else None

pub held_yes : (tables : List Table) (slot : Table → ℕ) (t : ℕ → ℕ) (space : Space) (page : ℕ) → Has tables (pages_of space page)
    → held tables slot t space page ≡ entry_of (t (in_slot (slot (pages_of space page)) (page % 2 ^ 6)))
held_yes tables slot t space page h =
    let b : nat_lt (number_of (pages_of space page) tables) (length tables) ≡ true = grind (arith, nat_tests) in
    ap (λ (b : Bool). cond b (entry_of (t (in_slot (slot (pages_of space page)) (page % 2 ^ 6)))) None) b

pub held_no : (tables : List Table) (slot : Table → ℕ) (t : ℕ → ℕ) (space : Space) (page : ℕ) → length tables ≤ number_of (pages_of space page) tables
    → held tables slot t space page ≡ None
held_no tables slot t space page h =
    let b : nat_lt (number_of (pages_of space page) tables) (length tables) ≡ false = grind (arith, nat_tests) in
    ap (λ (b : Bool). cond b (entry_of (t (in_slot (slot (pages_of space page)) (page % 2 ^ 6)))) None) b

-- ---- an entry of a page's table is written
module _ (area : ℕ) (tables : List Table) (slot : Table → ℕ) (t : ℕ → ℕ) (w : AreTables area tables slot t) where
  pub tables_put : (space : Space) (index at long : ℕ) → index < 2 ^ 14 → at < 64 → Has tables (Pages space index) → IsPageLong long
      → AreTables area tables slot (updated t (in_slot (slot (Pages space index)) at) long)
  tables_put space index at long h k has is =
      let here = slot (Pages space index) in
      let place = in_slot here at in
      let other : (p i : ℕ) → i < 128 → p ≢ here → updated t place long (in_slot p i) ≡ t (in_slot p i) =
      λ p i l n. updated_other t place long (in_slot p i) (slots_differ p here i at l (omega arith) n) in
      record {
        once = w.once;
        named = w.named;
        inside = w.inside;
        apart = w.apart;
        roots = λ s i l. updated_other t place long (in_root s i) (root_not_slot s i here at l) ∙ w.roots s i l;
        pointers = λ s i l there. other (slot (Pointers s (i / 128))) (i % 128) (omega arith)
            (λ e. crossed s space (i / 128) index (w.apart (Pointers s (i / 128)) (Pages space index) there has e)) ∙ w.pointers s i l there;
        pages = λ s i a l m there. elim (cases_eq (in_slot (slot (Pages s i)) a) place) [
          | inl e ↦ subst (λ (n : ℕ). IsPageLong n) (sym (ap (updated t place long) e ∙ updated_same t place long)) is
          | inr n ↦ subst (λ (n : ℕ). IsPageLong n) (sym (updated_other t place long (in_slot (slot (Pages s i)) a) n)) (w.pages s i a l m there)
        ];
        half = λ s i a l m b there.
            updated_other t place long (in_slot (slot (Pages s i)) a) (indices_differ (slot (Pages s i)) here a at b (omega arith) (λ e. absurd (omega arith)))
            ∙ w.half s i a l m b there;
        reached = w.reached;
        free = λ p i l f b. other p i b (λ e. f (Pages space index) has (sym e)) ∙ w.free p i l f b;
      }

-- ---- a table comes to stand in a slot
module _ (area : ℕ) (tables : List Table) (slot : Table → ℕ) (t : ℕ → ℕ) (w : AreTables area tables slot t) (y : Table) (after : Table → ℕ) (number : ℕ)
    (lawful : IsTable y) (new : length tables ≤ number_of y tables) (at : after y ≡ number) (others : (a : Table) → Has tables a → after a ≡ slot a)
    (low : number < 126) (vacant : IsFree tables slot number) where
  more_named : (a : Table) → Has (tables ++ y ∷ []) a → IsTable a
  more_named a h = elim (same_cases a y) [
    | inl e ↦ subst IsTable (sym e) lawful
    | inr d ↦ w.named a (had a y tables h d)
  ]

  more_inside : (a : Table) → Has (tables ++ y ∷ []) a → after a < 126
  more_inside a h = elim (same_cases a y) [
    | inl e ↦ let f = ap after e in omega (arith, f, at, low)
    | inr d ↦ let k = had a y tables h d in let f = others a k in let l = w.inside a k in omega (arith, f, l)
  ]

  more_apart : (a b : Table) → Has (tables ++ y ∷ []) a → Has (tables ++ y ∷ []) b → after a ≡ after b → a ≡ b
  more_apart a b h k e = elim (same_cases a y) [
    | inl f ↦ elim (same_cases b y) [
      | inl g ↦ f ∙ sym g
      | inr d ↦ let l = had b y tables k d in absurd (vacant b l (sym (others b l) ∙ sym e ∙ ap after f ∙ at))
    ]
    | inr d ↦ let l = had a y tables h d in elim (same_cases b y) [
      | inl g ↦ absurd (vacant a l (sym (others a l) ∙ e ∙ ap after g ∙ at))
      | inr c ↦ let m = had b y tables k c in w.apart a b l m (sym (others a l) ∙ e ∙ others b m)
    ]
  ]

  link_old : (a : Table) → a ≢ y → link_to area (tables ++ y ∷ []) after a ≡ link_to area tables slot a
  link_old a d =
      link_same area slot after a tables (tables ++ y ∷ []) (λ h. had a y tables h d) (λ h. has_more a y tables h) (λ h. others a (had a y tables h d))

  link_new : link_to area (tables ++ y ∷ []) after y ≡ link area number
  link_new = link_yes area after y (tables ++ y ∷ []) (has_new y tables new) ∙ ap (link area) at

  free_before : (n : ℕ) → IsFree (tables ++ y ∷ []) after n → IsFree tables slot n
  free_before n f = λ a h e. f a (has_more a y tables h) (others a h ∙ e)

-- ---- a pointer table comes to stand
module _ (area : ℕ) (tables : List Table) (slot : Table → ℕ) (t : ℕ → ℕ) (w : AreTables area tables slot t) (space : Space) (r : ℕ)
    (after : Table → ℕ) (number : ℕ) (h : r < 128) (new : length tables ≤ number_of (Pointers space r) tables) (at : after (Pointers space r) ≡ number)
    (others : (a : Table) → Has tables a → after a ≡ slot a) (low : number < 126) (vacant : IsFree tables slot number) where
  abbrev y_upper : Table
  y_upper = Pointers space r

  abbrev more_upper : List Table
  more_upper = tables ++ y_upper ∷ []

  abbrev u_upper : ℕ → ℕ
  u_upper = updated t (in_root space r) (link area number)

  same_upper : (p i : ℕ) → u_upper (in_slot p i) ≡ t (in_slot p i)
  same_upper p i = updated_other t (in_root space r) (link area number) (in_slot p i) (slot_not_root space r p i h)

  old_upper : (a : Table) → a ≢ y_upper → link_to area more_upper after a ≡ link_to area tables slot a
  old_upper = link_old area tables slot t w y_upper after number h new at others low vacant

  has_pages_upper : (s : Space) (i : ℕ) → Has more_upper (Pages s i) → Has tables (Pages s i)
  has_pages_upper s i there = had (Pages s i) y_upper tables there (crossed_back s space i r)

  in_pages_upper : (s : Space) (i a : ℕ) → Has tables (Pages s i) → u_upper (in_slot (after (Pages s i)) a) ≡ t (in_slot (slot (Pages s i)) a)
  in_pages_upper s i a has = ap (λ (n : ℕ). u_upper (in_slot n a)) (others (Pages s i) has) ∙ same_upper (slot (Pages s i)) a

  pub with_pointers : AreTables area (tables ++ Pointers space r ∷ []) after (updated t (in_root space r) (link area number))
  with_pointers = record {
    once = once_pushed y_upper tables new w.once;
    named = more_named area tables slot t w y_upper after number h new at others low vacant;
    inside = more_inside area tables slot t w y_upper after number h new at others low vacant;
    apart = more_apart area tables slot t w y_upper after number h new at others low vacant;
    roots = λ s i l. elim (same_cases (Pointers s i) y_upper) [
      | inl e ↦ ap u_upper (ap root_place e) ∙ updated_same t (in_root space r) (link area number)
          ∙ sym (link_new area tables slot t w y_upper after number h new at others low vacant) ∙ ap (link_to area more_upper after) (sym e)
      | inr n ↦ updated_other t (in_root space r) (link area number) (in_root s i) (λ e. n (roots_apart s space i r l h e)) ∙ w.roots s i l
          ∙ sym (old_upper (Pointers s i) n)
    ];
    pointers = λ s i l there. elim (same_cases (Pointers s (i / 128)) y_upper) [
      | inl e ↦
          let none : length tables ≤ number_of (Pages s i) tables = elim (cases_lt (number_of (Pages s i) tables) (length tables)) [
            | inl k ↦ let up : Has tables y_upper = subst (Has tables) e (w.reached s i l k) in absurd (omega arith)
            | inr k ↦ k
          ] in
          ap (λ (n : ℕ). u_upper (in_slot n (i % 128))) (ap after e ∙ at) ∙ same_upper number (i % 128)
          ∙ w.free number (i % 128) low vacant (omega arith)
          ∙ sym (link_no area slot (Pages s i) tables none) ∙ sym (old_upper (Pages s i) (crossed_back s space i r))
      | inr n ↦
          let has : Has tables (Pointers s (i / 128)) = had (Pointers s (i / 128)) y_upper tables there n in
          ap (λ (n : ℕ). u_upper (in_slot n (i % 128))) (others (Pointers s (i / 128)) has)
          ∙ same_upper (slot (Pointers s (i / 128))) (i % 128) ∙ w.pointers s i l has
          ∙ sym (old_upper (Pages s i) (crossed_back s space i r))
    ];
    pages = λ s i a l m there. let has = has_pages_upper s i there in
        subst (λ (n : ℕ). IsPageLong n) (sym (in_pages_upper s i a has)) (w.pages s i a l m has);
    half = λ s i a l m b there. let has = has_pages_upper s i there in in_pages_upper s i a has ∙ w.half s i a l m b has;
    reached = λ s i l there. has_more (Pointers s (i / 128)) y_upper tables (w.reached s i l (has_pages_upper s i there));
    free = λ p i l f b. same_upper p i ∙ w.free p i l (free_before area tables slot t w y_upper after number h new at others low vacant p f) b;
  }

  pub held_with_pointers : (of : Space) (page : ℕ)
      → held (tables ++ Pointers space r ∷ []) after (updated t (in_root space r) (link area number)) of page ≡ held tables slot t of page
  held_with_pointers of page = elim (cases_lt (number_of (pages_of of page) tables) (length tables)) [
    | inl has ↦
        held_yes more_upper after u_upper of page (has_more (pages_of of page) y_upper tables has)
        ∙ ap entry_of (in_pages_upper of (page / 2 ^ 6) (page % 2 ^ 6) has)
        ∙ sym (held_yes tables slot t of page has)
    | inr k ↦ held_no more_upper after u_upper of page (elim (cases_lt (number_of (pages_of of page) more_upper) (length more_upper)) [
      | inl has ↦ let was = has_pages_upper of (page / 2 ^ 6) has in absurd (omega arith)
      | inr l ↦ l
    ]) ∙ sym (held_no tables slot t of page k)
  ]

-- ---- a page's table comes to stand
module _ (area : ℕ) (tables : List Table) (slot : Table → ℕ) (t : ℕ → ℕ) (w : AreTables area tables slot t) (space : Space) (index : ℕ)
    (after : Table → ℕ) (number : ℕ) (h : index < 2 ^ 14) (up : Has tables (Pointers space (index / 128)))
    (new : length tables ≤ number_of (Pages space index) tables) (at : after (Pages space index) ≡ number)
    (others : (a : Table) → Has tables a → after a ≡ slot a) (low : number < 126) (vacant : IsFree tables slot number) where
  abbrev y_lower : Table
  y_lower = Pages space index

  abbrev more_lower : List Table
  more_lower = tables ++ y_lower ∷ []

  abbrev above_lower : ℕ
  above_lower = slot (Pointers space (index / 128))

  abbrev place_lower : ℕ
  place_lower = in_slot above_lower (index % 128)

  abbrev u_lower : ℕ → ℕ
  u_lower = updated t place_lower (link area number)

  other_lower : (p i : ℕ) → i < 128 → p ≢ above_lower → u_lower (in_slot p i) ≡ t (in_slot p i)
  other_lower p i l d = updated_other t place_lower (link area number) (in_slot p i) (slots_differ p above_lower i (index % 128) l (omega arith) d)

  vacant_apart_lower : number ≢ above_lower
  vacant_apart_lower = λ e. vacant (Pointers space (index / 128)) up (sym e)

  old_lower : (a : Table) → a ≢ y_lower → link_to area more_lower after a ≡ link_to area tables slot a
  old_lower = link_old area tables slot t w y_lower after number h new at others low vacant

  -- the new table is empty
  in_new_lower : (a : ℕ) → a < 128 → u_lower (in_slot (after y_lower) a) ≡ 0
  in_new_lower a l = ap (λ (n : ℕ). u_lower (in_slot n a)) at ∙ other_lower number a l vacant_apart_lower ∙ w.free number a low vacant l

  in_old_lower : (s : Space) (i a : ℕ) → a < 128 → Has tables (Pages s i) → u_lower (in_slot (after (Pages s i)) a) ≡ t (in_slot (slot (Pages s i)) a)
  in_old_lower s i a l has =
      ap (λ (n : ℕ). u_lower (in_slot n a)) (others (Pages s i) has)
      ∙ other_lower (slot (Pages s i)) a l (λ e. crossed_back s space i (index / 128) (w.apart (Pages s i) (Pointers space (index / 128)) has up e))

  pub with_pages : AreTables area (tables ++ Pages space index ∷ []) after
      (updated t (in_slot (slot (Pointers space (index / 128))) (index % 128)) (link area number))
  with_pages = record {
    once = once_pushed y_lower tables new w.once;
    named = more_named area tables slot t w y_lower after number h new at others low vacant;
    inside = more_inside area tables slot t w y_lower after number h new at others low vacant;
    apart = more_apart area tables slot t w y_lower after number h new at others low vacant;
    roots = λ s i l.
        updated_other t place_lower (link area number) (in_root s i) (root_not_slot s i above_lower (index % 128) l) ∙ w.roots s i l
        ∙ sym (old_lower (Pointers s i) (crossed s space i index));
    pointers = λ s i l there.
        let has : Has tables (Pointers s (i / 128)) = had (Pointers s (i / 128)) y_lower tables there (crossed s space (i / 128) index) in
        let here = slot (Pointers s (i / 128)) in
        ap (λ (n : ℕ). u_lower (in_slot n (i % 128))) (others (Pointers s (i / 128)) has) ∙ elim (same_cases (Pages s i) y_lower) [
          | inl e ↦
              ap u_lower (led_to slot s space i index e) ∙ updated_same t place_lower (link area number)
              ∙ sym (link_new area tables slot t w y_lower after number h new at others low vacant) ∙ ap (link_to area more_lower after) (sym e)
          | inr differ ↦
              let apart : in_slot here (i % 128) ≢ place_lower = λ e.
              let slots : here ≡ above_lower = omega arith in
              let parts = pointers_same s space (i / 128) (index / 128) (w.apart (Pointers s (i / 128)) (Pointers space (index / 128)) has up slots) in
              let numbers : i ≡ index = let q = parts.1 in omega arith in
              differ (ap (λ (r : Space). Pages r i) parts.0 ∙ ap (Pages space) numbers) in
              updated_other t place_lower (link area number) (in_slot here (i % 128)) apart ∙ w.pointers s i l has ∙ sym (old_lower (Pages s i) differ)
        ];
    pages = λ s i a l m there. elim (same_cases (Pages s i) y_lower) [
      | inl e ↦ page_none (u_lower (in_slot (after (Pages s i)) a)) (ap (λ (b : Table). u_lower (in_slot (after b) a)) e ∙ in_new_lower a (omega arith))
      | inr differ ↦
          let has : Has tables (Pages s i) = had (Pages s i) y_lower tables there differ in
          subst (λ (n : ℕ). IsPageLong n) (sym (in_old_lower s i a (omega arith) has)) (w.pages s i a l m has)
    ];
    half = λ s i a l m b there. elim (same_cases (Pages s i) y_lower) [
      | inl e ↦ ap (λ (c : Table). u_lower (in_slot (after c) a)) e ∙ in_new_lower a b
      | inr differ ↦
          let has : Has tables (Pages s i) = had (Pages s i) y_lower tables there differ in
          in_old_lower s i a b has ∙ w.half s i a l m b has
    ];
    reached = λ s i l there. elim (same_cases (Pages s i) y_lower) [
      | inl e ↦
          let parts = pages_same s space i index e in
          let is : Pointers s (i / 128) ≡ Pointers space (index / 128) =
          ap (λ (r : Space). Pointers r (i / 128)) parts.0 ∙ ap (λ (n : ℕ). Pointers space (n / 128)) parts.1 in
          subst (Has more_lower) (sym is) (has_more (Pointers space (index / 128)) y_lower tables up)
      | inr differ ↦ has_more (Pointers s (i / 128)) y_lower tables (w.reached s i l (had (Pages s i) y_lower tables there differ))
    ];
    free = λ p i l f b.
        let was = free_before area tables slot t w y_lower after number h new at others low vacant p f in
        other_lower p i b (λ e. was (Pointers space (index / 128)) up (sym e)) ∙ w.free p i l was b;
  }

  pub held_with_pages : (of : Space) (page : ℕ)
      → held (tables ++ Pages space index ∷ []) after (updated t (in_slot (slot (Pointers space (index / 128))) (index % 128)) (link area number)) of page
      ≡ held tables slot t of page
  held_with_pages of page =
      let a = pages_of of page in
      let at = page % 2 ^ 6 in
      elim (cases_lt (number_of a tables) (length tables)) [
        | inl has ↦
            held_yes more_lower after u_lower of page (has_more a y_lower tables has)
            ∙ ap entry_of (in_old_lower of (page / 2 ^ 6) at (omega arith) has)
            ∙ sym (held_yes tables slot t of page has)
        | inr k ↦ elim (same_cases a y_lower) [
          | inl e ↦
              let there : Has more_lower a = subst (Has more_lower) (sym e) (has_new y_lower tables new) in
              held_yes more_lower after u_lower of page there
              ∙ ap (λ (b : Table). entry_of (u_lower (in_slot (after b) at))) e
              ∙ ap entry_of (in_new_lower at (omega arith))
              ∙ sym (held_no tables slot t of page k)
          | inr differ ↦ held_no more_lower after u_lower of page (elim (cases_lt (number_of a more_lower) (length more_lower)) [
            | inl has ↦ let was : Has tables a = had a y_lower tables has differ in absurd (omega arith)
            | inr l ↦ l
          ]) ∙ sym (held_no tables slot t of page k)
        ]
      ]
