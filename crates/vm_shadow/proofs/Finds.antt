-- What the search finds, and the walk of `find`.
use Rattle.std.proofs.Common.{◌≡◌, ◌∙◌, ℕ, ◌+◌, ◌*◌, ◌/◌, ◌%◌, ◌^◌, ◌≤◌, ◌<◌, not, Bool, true, false, cond, List, length}
use Rattle.std.proofs.Common.{ap, sym, arith, inl, inr}
use Rattle.std.specs.Prelude.{Option, Some, None}
use Rattle.std.proofs.lemmas.Bool.{cases_Bool, cases_lt, false≢true}
use Rattle.mb_port.specs.declared.types.Space.{Space}
use Rattle.mb_walk.specs.declared.descriptors.TableDescriptor.{TableDescriptor}
use Rattle.mb_walk.specs.declared.descriptors.PageDescriptor.{PageDescriptor}
use Rattle.mb_walk.specs.Memory.{number_at}
use Rattle.mb_walk.specs.Descriptors.{table_descriptor, page_descriptor, entry_at, pointer_index, page_index}
use Rattle.vm_shadow.specs.Slots.{Placed, number_of, pages_of, pointers_of}
use Rattle.vm_shadow.specs.Mapped.{first, second, mapped, root_of, entries_in}
use Rattle.vm_shadow.specs.Area.{longs, in_slot, entry_of, Laid}
use Rattle.vm_shadow.proofs.Changes.{held_yes, held_no}
use Rattle.vm_shadow.proofs.Walks.{mapped_is, second_at, second_resident}
use Rattle.vm_shadow.proofs.Walks.{third_at, third_is, has_pointers, has_pages, root_whole}
use Rattle.vm_shadow.proofs.Held.{find_is}

-- ---- the walk of find
module _ (s : Placed) (ram : List ℕ) (space : Space) (page : ℕ) (m : Laid s ram) (h : page < 2 ^ 20) where
  abbrev root : ℕ
  root = root_of s.area space

  pub meets_first : (r a : ℕ) → r ≡ root → a ≡ number_at ram (r + 4 * (page / 8192)) 4 → a ≡ first ram root page
  meets_first r a e f =
      let w = root_whole s.area space m.aligned in
      let at : r + 4 * (page / 8192) ≡ entry_at root 512 (page / 8192) = omega arith in
      f ∙ ap (λ (n : ℕ). number_at ram n 4) at

  pub second_inside : (a : ℕ) → a ≡ first ram root page → (table_descriptor a).resident ≡ true → a / 512 * 512 + 4 * (page / 64 % 128) + 4 ≤ length ram
  second_inside a e r =
      let has = has_pointers s ram m space page h (sym (ap (λ (d : ℕ). (table_descriptor d).resident) e) ∙ r) in
      let at = ap (λ (d : ℕ). entry_at d 512 (pointer_index page)) e ∙ second_at s ram m space page h has in
      let low = m.tables.inside (pointers_of space page) has in
      let inside : s.area + 65536 ≤ length ram = m.inside in
      let at' : a / 512 * 512 + 4 * (page / 64 % 128) ≡ s.area + 4 * in_slot (s.slot (pointers_of space page)) (page / 64 % 128) = at in
      omega arith

  pub meets_second : (a b : ℕ) → a ≡ first ram root page → b ≡ number_at ram (a / 512 * 512 + 4 * (page / 64 % 128)) 4 → b ≡ second ram root page
  meets_second a b e f = f ∙ ap (λ (d : ℕ). number_at ram (entry_at d 512 (pointer_index page)) 4) e

  pub third_inside : (a b : ℕ) → a ≡ first ram root page → (table_descriptor a).resident ≡ true → b ≡ second ram root page
      → (table_descriptor b).resident ≡ true → b / 256 * 256 + 4 * (page % 64) + 4 ≤ length ram
  third_inside a b e r f q =
      let has =
      has_pages s ram m space page h (sym (ap (λ (d : ℕ). (table_descriptor d).resident) e) ∙ r)
      (sym (ap (λ (d : ℕ). (table_descriptor d).resident) f) ∙ q) in
      let at = ap (λ (d : ℕ). entry_at d 256 (page_index false page)) f ∙ third_at s ram m space page h has in
      let low = m.tables.inside (pages_of space page) has in
      let inside : s.area + 65536 ≤ length ram = m.inside in
      let at' : b / 256 * 256 + 4 * (page % 64) ≡ s.area + 4 * in_slot (s.slot (pages_of space page)) (page % 64) = at in
      omega arith

  pub found_none_second : (a b : ℕ) → a ≡ first ram root page → (table_descriptor a).resident ≡ true → b ≡ second ram root page
      → (table_descriptor b).resident ≡ false → None ≡ mapped ram root page
  found_none_second a b e r f q =
      let has = has_pointers s ram m space page h (sym (ap (λ (d : ℕ). (table_descriptor d).resident) e) ∙ r) in
      sym (mapped_is s ram m space page h ∙ elim (cases_lt (number_of (pages_of space page) s.tables) (length s.tables)) [
        | inl there ↦ absurd (false≢true (sym q ∙ ap (λ (d : ℕ). (table_descriptor d).resident) f ∙ second_resident s ram m space page h there))
        | inr k ↦ held_no s.tables s.slot (longs ram s.area) space page k
      ])

  pub found_entry : (a b c : ℕ) → a ≡ first ram root page → (table_descriptor a).resident ≡ true → b ≡ second ram root page
      → (table_descriptor b).resident ≡ true → c ≡ number_at ram (b / 256 * 256 + 4 * (page % 64)) 4 → entry_of c ≡ mapped ram root page
  found_entry a b c e r f q l =
      let has =
      has_pages s ram m space page h (sym (ap (λ (d : ℕ). (table_descriptor d).resident) e) ∙ r)
      (sym (ap (λ (d : ℕ). (table_descriptor d).resident) f) ∙ q) in
      ap entry_of (l ∙ ap (λ (d : ℕ). number_at ram (entry_at d 256 (page_index false page)) 4) f ∙ third_is s ram m space page h has)
      ∙ sym (mapped_is s ram m space page h ∙ held_yes s.tables s.slot (longs ram s.area) space page has)

  pub entry_is : (r : Option (ℕ × Bool)) → r ≡ mapped ram root page → r ≡ entries_in ram s.area space page
  entry_is r e = e ∙ sym (find_is s ram space page h)

-- the tests of the walk
pub is_resident : (d : TableDescriptor) (long : ℕ) → d ≡ table_descriptor long → not d.resident ≡ false → (table_descriptor long).resident ≡ true
is_resident d long e n = elim (cases_Bool d.resident) [
  | inl r ↦ ap (λ (d : TableDescriptor). d.resident) (sym e) ∙ r
  | inr r ↦ absurd (false≢true (sym n ∙ ap not r))
]

pub is_absent : (d : TableDescriptor) (long : ℕ) → d ≡ table_descriptor long → not d.resident ≡ true → (table_descriptor long).resident ≡ false
is_absent d long e n = elim (cases_Bool d.resident) [
  | inl r ↦ absurd (false≢true (ap not (sym r) ∙ n))
  | inr r ↦ ap (λ (d : TableDescriptor). d.resident) (sym e) ∙ r
]

pub entry_yes : (d : PageDescriptor) (long : ℕ) → d ≡ page_descriptor long → d.resident ≡ true → Some (d.frame, not d.protected) ≡ entry_of long
entry_yes d long e r =
    let b = ap (λ (d : PageDescriptor). d.resident) (sym e) ∙ r in
    ap (λ (d : PageDescriptor). Some (d.frame, not d.protected)) e
    ∙ sym (ap (λ (b : Bool). cond b (Some ((page_descriptor long).frame, not (page_descriptor long).protected)) None) b)

pub entry_no : (d : PageDescriptor) (long : ℕ) → d ≡ page_descriptor long → d.resident ≡ false → None ≡ entry_of long
entry_no d long e r =
    let b = ap (λ (d : PageDescriptor). d.resident) (sym e) ∙ r in
    sym (ap (λ (b : Bool). cond b (Some ((page_descriptor long).frame, not (page_descriptor long).protected)) None) b)
