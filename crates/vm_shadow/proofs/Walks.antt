-- What a walk through the tables meets, and what they map.
use Rattle.std.proofs.Common.{◌≡◌, ◌∙◌, ℕ, ◌+◌, ◌*◌, ◌/◌, ◌%◌, ◌^◌, ◌≤◌, ◌<◌, ◌==◌, ◌||◌, not, Bool, true, false, if◌then◌else◌, List, length}
use Rattle.std.proofs.Common.{refl, ap, sym, subst, arith, inl, inr}
use Rattle.std.specs.Prelude.{Option, Some, None}
use Rattle.std.proofs.lemmas.Bool.{cases_lt, false≢true}
use Rattle.mb_port.specs.declared.types.Space.{Space}
use Rattle.mb_port.specs.declared.types.Space.TheVariants.{User, Super}
use Rattle.mb_walk.specs.Memory.{number_at}
use Rattle.mb_walk.specs.Descriptors.{table_descriptor, page_descriptor, entry_at, pointer_index, page_index}
use Rattle.vm_shadow.specs.declared.table.Table.{Table}
use Rattle.vm_shadow.specs.declared.table.Table.TheVariants.{Pointers}
use Rattle.vm_shadow.specs.Slots.{Placed, number_of, pages_of, pointers_of, Has}
use Rattle.vm_shadow.specs.Mapped.{first, second, third, mapped, root_of, Path, BothStand}
use Rattle.vm_shadow.specs.Area.{longs, in_root, in_slot, link, link_to, entry_of, IsPageLong, Laid}
use Rattle.vm_shadow.proofs.PageLongs.{PageCases, page_cases}
use Rattle.vm_shadow.proofs.Positions.{link_yes, link_no}
use Rattle.vm_shadow.proofs.Changes.{held, held_yes, held_no}

-- the places of entries
pub root_at : (space : Space) (area index : ℕ) → area % 65536 ≡ 0 → entry_at (root_of area space) 512 index ≡ area + 4 * in_root space index
root_at User area index a = omega arith
root_at Super area index a = omega arith

pub table_at : (area slot index : ℕ) → area % 65536 ≡ 0 → entry_at (link area slot) 512 index ≡ area + 4 * in_slot slot index
table_at area slot index a = omega arith

pub page_at : (area slot index : ℕ) → area % 65536 ≡ 0 → entry_at (link area slot) 256 index ≡ area + 4 * in_slot slot index
page_at area slot index a = omega arith

-- the bits of the descriptors
pub link_resident : (area slot : ℕ) → area % 65536 ≡ 0 → (table_descriptor (link area slot)).resident ≡ true
link_resident area slot a = ap (λ (n : ℕ). n == 1) (let e : link area slot / 2 % 2 ≡ 1 = omega arith in e)

pub link_open : (area slot : ℕ) → area % 65536 ≡ 0 → (table_descriptor (link area slot)).protected ≡ false
link_open area slot a = ap (λ (n : ℕ). n == 1) (let e : link area slot / 4 % 2 ≡ 0 = omega arith in e)

direct_by : (long : ℕ) → PageCases long → (page_descriptor long).indirect ≡ false
direct_by long (inl e) = ap (λ (n : ℕ). n % 4 == 2) e
direct_by long (inr (inl e)) = ap (λ (n : ℕ). n == 2) (let f : long % 4 ≡ 1 = omega arith in f)
direct_by long (inr (inr e)) = ap (λ (n : ℕ). n == 2) (let f : long % 4 ≡ 1 = omega arith in f)

pub page_direct : (long : ℕ) → IsPageLong long → (page_descriptor long).indirect ≡ false
page_direct long h = direct_by long (page_cases long h)

both_by : (long : ℕ) → PageCases long → (page_descriptor long).supervisor ≡ false
both_by long (inl e) = ap (λ (n : ℕ). n / 128 % 2 == 1) e
both_by long (inr (inl e)) = ap (λ (n : ℕ). n == 1) (let f : long / 128 % 2 ≡ 0 = omega arith in f)
both_by long (inr (inr e)) = ap (λ (n : ℕ). n == 1) (let f : long / 128 % 2 ≡ 0 = omega arith in f)

pub page_both : (long : ℕ) → IsPageLong long → (page_descriptor long).supervisor ≡ false
page_both long h = both_by long (page_cases long h)

-- a walk by its three descriptors
abbrev walk : ℕ → ℕ → ℕ → Option (ℕ × Bool)
walk a b c =
    if (table_descriptor a).resident then (if (table_descriptor b).resident then (if (page_descriptor c).resident
    then Some ((page_descriptor c).frame, not (((table_descriptor a).protected || (table_descriptor b).protected) || (page_descriptor c).protected))
    else None) else None) else None

mapped_walk : (ram : List ℕ) (root page : ℕ) → mapped ram root page ≡ walk (first ram root page) (second ram root page) (third ram root page)
mapped_walk ram root page = refl

walk_whole : (a b c : ℕ) → (table_descriptor a).resident ≡ true → (table_descriptor b).resident ≡ true → (table_descriptor a).protected ≡ false
    → (table_descriptor b).protected ≡ false → walk a b c ≡ entry_of c
walk_whole a b c h k l m = rw (h, k, l, m) refl

walk_first : (a b c : ℕ) → (table_descriptor a).resident ≡ false → walk a b c ≡ None
walk_first a b c h = rw h refl

walk_second : (a b c : ℕ) → (table_descriptor a).resident ≡ true → (table_descriptor b).resident ≡ false → walk a b c ≡ None
walk_second a b c h k = rw (h, k) refl

module _ (s : Placed) (ram : List ℕ) (m : Laid s ram) (space : Space) (page : ℕ) (h : page < 2 ^ 20) where
  abbrev root : ℕ
  root = root_of s.area space

  abbrev pointers : Table
  pointers = pointers_of space page

  abbrev pages : Table
  pages = pages_of space page

  aligned : s.area % 65536 ≡ 0
  aligned = m.aligned

  pub first_at : entry_at root 512 (page / 2 ^ 13) ≡ s.area + 4 * in_root space (page / 2 ^ 13)
  first_at = root_at space s.area (page / 2 ^ 13) aligned

  pub first_is : first ram root page ≡ link_to s.area s.tables s.slot pointers
  first_is = ap (λ (n : ℕ). number_at ram n 4) first_at ∙ m.tables.roots space (page / 2 ^ 13) (omega arith)

  pub first_link : Has s.tables pointers → first ram root page ≡ link s.area (s.slot pointers)
  first_link has = first_is ∙ link_yes s.area s.slot pointers s.tables has

  pub first_none : length s.tables ≤ number_of pointers s.tables → first ram root page ≡ 0
  first_none k = first_is ∙ link_no s.area s.slot pointers s.tables k

  up : Pointers space (page / 2 ^ 6 / 128) ≡ pointers
  up = ap (Pointers space) (let e : page / 2 ^ 6 / 128 ≡ page / 2 ^ 13 = omega arith in e)

  pub has_above : Has s.tables pages → Has s.tables pointers
  has_above has = subst (Has s.tables) up (m.tables.reached space (page / 2 ^ 6) (omega arith) has)

  pub second_at : Has s.tables pointers
      → entry_at (first ram root page) 512 (pointer_index page) ≡ s.area + 4 * in_slot (s.slot pointers) (pointer_index page)
  second_at has =
      ap (λ (d : ℕ). entry_at d 512 (pointer_index page)) (first_link has)
      ∙ table_at s.area (s.slot pointers) (pointer_index page) aligned

  pub second_is : Has s.tables pointers → second ram root page ≡ link_to s.area s.tables s.slot pages
  second_is has =
      ap (λ (n : ℕ). number_at ram n 4) (second_at has)
      ∙ ap (λ (a : Table). longs ram s.area (in_slot (s.slot a) (pointer_index page))) (sym up)
      ∙ m.tables.pointers space (page / 2 ^ 6) (omega arith) (subst (Has s.tables) (sym up) has)

  pub second_link : Has s.tables pages → second ram root page ≡ link s.area (s.slot pages)
  second_link has = second_is (has_above has) ∙ link_yes s.area s.slot pages s.tables has

  pub second_none : Has s.tables pointers → length s.tables ≤ number_of pages s.tables → second ram root page ≡ 0
  second_none has k = second_is has ∙ link_no s.area s.slot pages s.tables k

  pub third_at : Has s.tables pages
      → entry_at (second ram root page) 256 (page_index false page) ≡ s.area + 4 * in_slot (s.slot pages) (page_index false page)
  third_at has = ap (λ (d : ℕ). entry_at d 256 (page_index false page)) (second_link has) ∙ page_at s.area (s.slot pages) (page_index false page) aligned

  pub third_is : Has s.tables pages → third ram root page ≡ longs ram s.area (in_slot (s.slot pages) (page_index false page))
  third_is has = ap (λ (n : ℕ). number_at ram n 4) (third_at has)

  pub third_long : Has s.tables pages → IsPageLong (third ram root page)
  third_long has = subst (λ (n : ℕ). IsPageLong n) (sym (third_is has)) (m.tables.pages space (page / 2 ^ 6) (page % 2 ^ 6) (omega arith) (omega arith) has)

  -- what is resident
  pub first_resident : Has s.tables pointers → (table_descriptor (first ram root page)).resident ≡ true
  first_resident has = ap (λ (d : ℕ). (table_descriptor d).resident) (first_link has) ∙ link_resident s.area (s.slot pointers) aligned

  pub first_open : Has s.tables pointers → (table_descriptor (first ram root page)).protected ≡ false
  first_open has = ap (λ (d : ℕ). (table_descriptor d).protected) (first_link has) ∙ link_open s.area (s.slot pointers) aligned

  pub first_absent : length s.tables ≤ number_of pointers s.tables → (table_descriptor (first ram root page)).resident ≡ false
  first_absent k = ap (λ (d : ℕ). (table_descriptor d).resident) (first_none k)

  pub second_resident : Has s.tables pages → (table_descriptor (second ram root page)).resident ≡ true
  second_resident has = ap (λ (d : ℕ). (table_descriptor d).resident) (second_link has) ∙ link_resident s.area (s.slot pages) aligned

  pub second_open : Has s.tables pages → (table_descriptor (second ram root page)).protected ≡ false
  second_open has = ap (λ (d : ℕ). (table_descriptor d).protected) (second_link has) ∙ link_open s.area (s.slot pages) aligned

  pub second_absent : Has s.tables pointers → length s.tables ≤ number_of pages s.tables → (table_descriptor (second ram root page)).resident ≡ false
  second_absent has k = ap (λ (d : ℕ). (table_descriptor d).resident) (second_none has k)

  pub has_pointers : (table_descriptor (first ram root page)).resident ≡ true → Has s.tables pointers
  has_pointers r = elim (cases_lt (number_of pointers s.tables) (length s.tables)) [
    | inl has ↦ has
    | inr k ↦ absurd (false≢true (sym (first_absent k) ∙ r))
  ]

  pub has_pages : (table_descriptor (first ram root page)).resident ≡ true → (table_descriptor (second ram root page)).resident ≡ true → Has s.tables pages
  has_pages r q = elim (cases_lt (number_of pages s.tables) (length s.tables)) [
    | inl has ↦ has
    | inr k ↦ absurd (false≢true (sym (second_absent (has_pointers r) k) ∙ q))
  ]

  -- the tables map what the slots hold
  pub mapped_is : mapped ram root page ≡ held s.tables s.slot (longs ram s.area) space page
  mapped_is = mapped_walk ram root page ∙ elim (cases_lt (number_of pages s.tables) (length s.tables)) [
    | inl has ↦
        let above = has_above has in
        walk_whole (first ram root page) (second ram root page) (third ram root page)
        (first_resident above) (second_resident has) (first_open above) (second_open has)
        ∙ ap entry_of (third_is has) ∙ sym (held_yes s.tables s.slot (longs ram s.area) space page has)
    | inr k ↦ elim (cases_lt (number_of pointers s.tables) (length s.tables)) [
      | inl above ↦ walk_second (first ram root page) (second ram root page) (third ram root page) (first_resident above) (second_absent above k)
      | inr l ↦ walk_first (first ram root page) (second ram root page) (third ram root page) (first_absent l)
    ] ∙ sym (held_no s.tables s.slot (longs ram s.area) space page k)
  ]

  -- and lie in the area
  link_here : (slot : ℕ) → slot < 126 → link s.area slot / 65536 ≡ s.area / 65536
  link_here slot k = let a = aligned in omega arith

  pub path_is : Path ram s.area root page
  path_is = record {
    pointers = λ r. let has = has_pointers r in
        ap (λ (d : ℕ). d / 65536) (first_link has) ∙ link_here (s.slot pointers) (m.tables.inside pointers has);
    pages = λ r q. let has = has_pages r q in
        ap (λ (d : ℕ). d / 65536) (second_link has) ∙ link_here (s.slot pages) (m.tables.inside pages has);
    direct = λ r q. page_direct (third ram root page) (third_long (has_pages r q));
    for_both = λ r q. page_both (third ram root page) (third_long (has_pages r q));
  }

root_here : (area : ℕ) (space : Space) → area % 65536 ≡ 0 → root_of area space / 65536 ≡ area / 65536
root_here area User a = refl
root_here area Super a = omega arith

pub root_whole : (area : ℕ) (space : Space) → area % 65536 ≡ 0 → root_of area space % 512 ≡ 0
root_whole area User a = omega arith
root_whole area Super a = omega arith

pub both_stand : (s : Placed) (ram : List ℕ) → Laid s ram → BothStand ram s.area
both_stand s ram m space = record {
  here = root_here s.area space m.aligned;
  whole = root_whole s.area space m.aligned;
  path = λ page h. path_is s ram m space page h;
}
