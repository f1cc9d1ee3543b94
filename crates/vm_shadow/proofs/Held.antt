-- What a shadow holds once a long of its area is written.
use Rattle.std.proofs.Common.{◌≡◌, ◌≢◌, ◌∙◌, ℕ, ◌+◌, ◌/◌, ◌%◌, ◌^◌, ◌≤◌, ◌<◌, nat_lt, Bool, true, false, cond, if◌then◌else◌, List, [], length}
use Rattle.std.proofs.Common.{refl, ap, sym, arith, inl, inr}
use Rattle.std.specs.Prelude.{Option, None}
use Rattle.std.proofs.Math.Path.{fun_ext}
use Rattle.std.proofs.lemmas.Bool.{cases_Bool, cases_lt, false≢true}
use Rattle.std.proofs.lemmas.Bool.Decides.{nat_tests}
use Rattle.mb_port.specs.declared.types.Space.{Space}
use Rattle.mb_port.specs.declared.types.Space.TheVariants.{User, Super}
use Rattle.vm_shadow.specs.declared.table.Table.{Table}
use Rattle.vm_shadow.specs.declared.table.Table.TheVariants.{Pages}
use Rattle.vm_shadow.specs.Slots.{Placed, number_of, pages_of, Has}
use Rattle.vm_shadow.specs.Shadows.{EntryMap, is_at, with_entry}
use Rattle.vm_shadow.specs.Mapped.{mapped, root_of, entries_in}
use Rattle.vm_shadow.specs.Area.{longs, in_root, in_slot, entry_of, AreTables, Laid}
use Rattle.law_links.specs.Paths.{updated}
use Rattle.law_links.proofs.Paths.{updated_same, updated_other}
use Rattle.vm_shadow.proofs.Changes.{held, held_yes, held_no}
use Rattle.vm_shadow.proofs.Walks.{mapped_is}

pub at_is : (space : Space) (page : ℕ) (of : Space) (number : ℕ) → is_at space page of number ≡ true → (of ≡ space) × (number ≡ page)
at_is User page User number h = let e : number ≡ page = grind (arith, nat_tests) in (refl, e)
at_is User page Super number h = absurd (false≢true h)
at_is Super page User number h = absurd (false≢true h)
at_is Super page Super number h = let e : number ≡ page = grind (arith, nat_tests) in (refl, e)

pub at_self : (space : Space) (page : ℕ) → is_at space page space page ≡ true
at_self User page = grind (arith, nat_tests)
at_self Super page = grind (arith, nat_tests)

tables_same : (s r : Space) (i j : ℕ) → Pages s i ≡ Pages r j → (s ≡ r) × (i ≡ j)
tables_same s r i j e = (cc, cc)

-- ---- of pages of 20 bits
abbrev below : Space → ℕ → (Space → ℕ → Option (ℕ × Bool)) → Option (ℕ × Bool)
below space page f = if nat_lt page (2 ^ 20) then f space page else None

below_same : (space : Space) (page : ℕ) (f g : Space → ℕ → Option (ℕ × Bool)) → (page < 2 ^ 20 → f space page ≡ g space page)
    → below space page f ≡ below space page g
below_same space page f g e = elim (cases_lt page (2 ^ 20)) [
  | inl h ↦
      let b : nat_lt page (2 ^ 20) ≡ true = grind (arith, nat_tests) in
      ap (λ (b : Bool). cond b (f space page) None) b ∙ e h ∙ sym (ap (λ (b : Bool). cond b (g space page) None) b)
  | inr h ↦
      let b : nat_lt page (2 ^ 20) ≡ false = grind (arith, nat_tests) in
      ap (λ (b : Bool). cond b (f space page) None) b ∙ sym (ap (λ (b : Bool). cond b (g space page) None) b)
]

below_yes : (space : Space) (page : ℕ) (f : Space → ℕ → Option (ℕ × Bool)) → page < 2 ^ 20 → below space page f ≡ f space page
below_yes space page f h = let b : nat_lt page (2 ^ 20) ≡ true = grind (arith, nat_tests) in ap (λ (b : Bool). cond b (f space page) None) b

-- a shadow's entries are what its slots hold
pub entries_held : (s : Placed) (ram : List ℕ) → Laid s ram → (space : Space) (page : ℕ)
    → entries_in ram s.area space page ≡ below space page (held s.tables s.slot (longs ram s.area))
entries_held s ram m space page =
    below_same space page (λ space page. mapped ram (root_of s.area space) page) (held s.tables s.slot (longs ram s.area)) (λ h. mapped_is s ram m space page h)

pub find_is : (s : Placed) (ram : List ℕ) (space : Space) (page : ℕ) → page < 2 ^ 20
    → entries_in ram s.area space page ≡ mapped ram (root_of s.area space) page
find_is s ram space page h = below_yes space page (λ space page. mapped ram (root_of s.area space) page) h

pub entries_past : (s : Placed) (ram : List ℕ) (space : Space) (page : ℕ) → 2 ^ 20 ≤ page → entries_in ram s.area space page ≡ None
entries_past s ram space page h =
    let b : nat_lt page (2 ^ 20) ≡ false = grind (arith, nat_tests) in ap (λ (b : Bool). cond b (mapped ram (root_of s.area space) page) None) b

-- the same entries in other tables
pub entries_stay : (s s' : Placed) (ram ram' : List ℕ) → Laid s ram → Laid s' ram' → s'.area ≡ s.area
    → ((space : Space) (page : ℕ) → held s'.tables s'.slot (longs ram' s'.area) space page ≡ held s.tables s.slot (longs ram s.area) space page)
    → entries_in ram' s'.area ≡ entries_in ram s.area
entries_stay s s' ram ram' m m' a same = fun_ext (λ space. fun_ext (λ page.
    entries_held s' ram' m' space page
    ∙ below_same space page (held s'.tables s'.slot (longs ram' s'.area)) (held s.tables s.slot (longs ram s.area)) (λ h. same space page)
    ∙ sym (entries_held s ram m space page)))

-- ---- an entry of a slot is written
pub is_yes : (space : Space) (page : ℕ) (of : Space) (number : ℕ) (e : Option (ℕ × Bool)) (entries : EntryMap)
    → is_at space page of number ≡ true → with_entry space page e entries of number ≡ e
is_yes space page of number e entries h = ap (λ (b : Bool). cond b e (entries of number)) h

pub is_no : (space : Space) (page : ℕ) (of : Space) (number : ℕ) (e : Option (ℕ × Bool)) (entries : EntryMap)
    → is_at space page of number ≡ false → with_entry space page e entries of number ≡ entries of number
is_no space page of number e entries h = ap (λ (b : Bool). cond b e (entries of number)) h

module _ (area : ℕ) (tables : List Table) (slot : Table → ℕ) (t : ℕ → ℕ) (w : AreTables area tables slot t) (space : Space) (page long : ℕ)
    (has : Has tables (pages_of space page)) where
  abbrev place : ℕ
  place = in_slot (slot (pages_of space page)) (page % 2 ^ 6)

  held_put_same : held tables slot (updated t place long) space page ≡ entry_of long
  held_put_same = held_yes tables slot (updated t place long) space page has ∙ ap entry_of (updated_same t place long)

  held_put_other : (of : Space) (number : ℕ) → is_at space page of number ≡ false
      → held tables slot (updated t place long) of number ≡ held tables slot t of number
  held_put_other of number not_it = elim (cases_lt (number_of (pages_of of number) tables) (length tables)) [
    | inl there ↦
        let there_slot = slot (pages_of of number) in
        let apart : in_slot there_slot (number % 2 ^ 6) ≢ place = λ e.
        let slots : there_slot ≡ slot (pages_of space page) = omega arith in
        let parts = tables_same of space (number / 2 ^ 6) (page / 2 ^ 6) (w.apart (pages_of of number) (pages_of space page) there has slots) in
        let q = parts.1 in
        let same : number ≡ page = omega arith in
        false≢true (sym not_it ∙ ap (λ (r : Space). is_at space page r number) parts.0 ∙ ap (is_at space page space) same ∙ at_self space page) in
        held_yes tables slot (updated t place long) of number there
        ∙ ap entry_of (updated_other t place long (in_slot there_slot (number % 2 ^ 6)) apart)
        ∙ sym (held_yes tables slot t of number there)
    | inr k ↦ held_no tables slot (updated t place long) of number k ∙ sym (held_no tables slot t of number k)
  ]

pub entries_put : (s : Placed) (count : ℕ → ℕ) (ram ram' : List ℕ) (space : Space) (page long : ℕ) → Laid s ram → Laid (record s { count = count }) ram'
    → page < 2 ^ 20
    → Has s.tables (pages_of space page)
    → longs ram' s.area ≡ updated (longs ram s.area) (in_slot (s.slot (pages_of space page)) (page % 2 ^ 6)) long
    → entries_in ram' s.area ≡ with_entry space page (entry_of long) (entries_in ram s.area)
entries_put s count ram ram' space page long m m' h has written = fun_ext (λ of. fun_ext (λ number.
    let t = longs ram s.area in
    entries_held (record s { count = count }) ram' m' of number
    ∙ ap (λ (t : ℕ → ℕ). below of number (held s.tables s.slot t)) written
    ∙ elim (cases_Bool (is_at space page of number)) [
      | inl it ↦
          let parts = at_is space page of number it in
          ap (λ (r : Space). below r number (held s.tables s.slot (updated t (in_slot (s.slot (pages_of space page)) (page % 2 ^ 6)) long))) parts.0
          ∙ ap (λ (n : ℕ). below space n (held s.tables s.slot (updated t (in_slot (s.slot (pages_of space page)) (page % 2 ^ 6)) long))) parts.1
          ∙ below_yes space page (held s.tables s.slot (updated t (in_slot (s.slot (pages_of space page)) (page % 2 ^ 6)) long)) h
          ∙ held_put_same s.area s.tables s.slot t m.tables space page long has
          ∙ sym (is_yes space page of number (entry_of long) (entries_in ram s.area) it)
      | inr not_it ↦
          below_same of number (held s.tables s.slot (updated t (in_slot (s.slot (pages_of space page)) (page % 2 ^ 6)) long)) (held s.tables s.slot t)
          (λ l. held_put_other s.area s.tables s.slot t m.tables space page long has of number not_it)
          ∙ sym (entries_held s ram m of number)
          ∙ sym (is_no space page of number (entry_of long) (entries_in ram s.area) not_it)
    ]))

-- where the page has no table, it has no entry
pub entries_without : (s : Placed) (ram : List ℕ) (space : Space) (page : ℕ) → Laid s ram → length s.tables ≤ number_of (pages_of space page) s.tables
    → entries_in ram s.area ≡ with_entry space page None (entries_in ram s.area)
entries_without s ram space page m k = fun_ext (λ of. fun_ext (λ number. elim (cases_Bool (is_at space page of number)) [
  | inl it ↦
      let parts = at_is space page of number it in
      ap (λ (r : Space). entries_in ram s.area r number) parts.0 ∙ ap (entries_in ram s.area space) parts.1
      ∙ entries_held s ram m space page
      ∙ below_same space page (held s.tables s.slot (longs ram s.area)) (λ of number. None) (λ l. held_no s.tables s.slot (longs ram s.area) space page k)
      ∙ (let none : below space page (λ of number. None) ≡ None = none_below space page in none)
      ∙ sym (is_yes space page of number None (entries_in ram s.area) it)
  | inr not_it ↦ sym (is_no space page of number None (entries_in ram s.area) not_it)
]))
  where
    none_below : (space : Space) (page : ℕ) → below space page (λ of number. None) ≡ None
    none_below space page = elim (cases_Bool (nat_lt page (2 ^ 20))) [
      | inl b ↦ ap (λ (b : Bool). cond b None None) b
      | inr b ↦ ap (λ (b : Bool). cond b None None) b
    ]

-- ---- all is empty
module _ (area : ℕ) (slot : Table → ℕ) (t : ℕ → ℕ) (z : (at : ℕ) → at < 16384 → t at ≡ 0) where
  zero_root : (space : Space) (index : ℕ) → index < 128 → t (in_root space index) ≡ 0
  zero_root User index h = z index (omega arith)
  zero_root Super index h = z (128 + index) (omega arith)

  pub tables_empty : AreTables area [] slot t
  tables_empty = record {
    once = refl;
    named = λ a has. absurd (omega (arith, has));
    inside = λ a has. absurd (omega (arith, has));
    apart = λ a b has there e. absurd (omega (arith, has));
    roots = λ space index h. zero_root space index h;
    pointers = λ space index h has. absurd (omega (arith, has));
    pages = λ space index at h k has. absurd (omega (arith, has));
    half = λ space index at h k l has. absurd (omega (arith, has));
    reached = λ space index h has. absurd (omega (arith, has));
    free = λ number index h f l. z (in_slot number index) (omega arith);
  }

pub entries_empty : (s : Placed) (ram : List ℕ) → Laid s ram → s.tables ≡ [] → entries_in ram s.area ≡ (λ space page. None)
entries_empty s ram m e = fun_ext (λ space. fun_ext (λ page.
    entries_held s ram m space page
    ∙ ap (λ (tables : List Table). below space page (held tables s.slot (longs ram s.area))) e
    ∙ elim (cases_Bool (nat_lt page (2 ^ 20))) [
      | inl b ↦ ap (λ (b : Bool). cond b None None) b
      | inr b ↦ ap (λ (b : Bool). cond b None None) b
    ]))
