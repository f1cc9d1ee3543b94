-- The bits of a descriptor that a mark leaves.
use Rattle.std.proofs.Common.{◌≡◌, ◌∙◌, ℕ, ◌+◌, ◌/◌, ◌%◌, ◌^◌, ◌<◌, ◌==◌, ◌&&◌, Bool, true, false, refl, ap, sym, subst, arith}
use Rattle.std.proofs.Common.{inl, inr}
use Rattle.std.specs.Prelude.{◌⊎◌}
use Rattle.std.proofs.lemmas.Bool.{cases_Bool, cases_eq, false≢true}
use Rattle.mb_port.specs.declared.types.Space.{Space}
use Rattle.mb_walk.specs.Descriptors.{with_used, with_modified, marked, page_takes_writes, page_descriptor, entry_at, page_table_bytes}
use Rattle.mb_walk.specs.Laws.{unmarked}

-- a bit that is set stays, and one that is not set is added
pub used_before : (d : ℕ) → d / 2 ^ 3 % 2 ≡ 1 → with_used d ≡ d
used_before d h = rw h refl

modified_before : (d : ℕ) → d / 2 ^ 4 % 2 ≡ 1 → with_modified d ≡ d
modified_before d h = rw h refl

used_now : (d : ℕ) → d / 2 ^ 3 % 2 ≡ 0 → with_used d ≡ d + 8
used_now d h = rw h refl

modified_now : (d : ℕ) → d / 2 ^ 4 % 2 ≡ 0 → with_modified d ≡ d + 16
modified_now d h = rw h refl

-- what a mark leaves of a descriptor
pub record Marks (d m : ℕ) : Type 0 where
  pub same : unmarked m ≡ unmarked d
  pub small : d < 2 ^ 32 → m < 2 ^ 32
  pub used : m / 2 ^ 3 % 2 ≡ 1

pub used_marks : (d : ℕ) → Marks d (with_used d)
used_marks d = elim (cases_eq (d / 2 ^ 3 % 2) 1) [
  | inl h ↦ rw (used_before d h) (record { same = refl; small = λ s. s; used = h })
  | inr h ↦
      let clear : d / 2 ^ 3 % 2 ≡ 0 = omega arith in
      rw (used_now d clear) (record { same = omega arith; small = λ s. omega arith; used = omega arith })
]

modified_marks : (d : ℕ) → d / 2 ^ 3 % 2 ≡ 1 → Marks d (with_modified d) × (with_modified d / 2 ^ 4 % 2 ≡ 1)
modified_marks d u = elim (cases_eq (d / 2 ^ 4 % 2) 1) [
  | inl h ↦ rw (modified_before d h) (record { same = refl; small = λ s. s; used = u }, h)
  | inr h ↦
      let clear : d / 2 ^ 4 % 2 ≡ 0 = omega arith in
      rw (modified_now d clear) (record { same = omega arith; small = λ s. omega arith; used = omega arith }, omega arith)
]

-- the bits that do not depend on marks
pub bit_0 : (d m : ℕ) → unmarked m ≡ unmarked d → (m % 2 == 1) ≡ (d % 2 == 1)
bit_0 d m e = ap (λ (n : ℕ). n == 1) (omega arith)

pub bit_1 : (d m : ℕ) → unmarked m ≡ unmarked d → (m / 2 ^ 1 % 2 == 1) ≡ (d / 2 ^ 1 % 2 == 1)
bit_1 d m e = ap (λ (n : ℕ). n == 1) (omega arith)

pub bit_2 : (d m : ℕ) → unmarked m ≡ unmarked d → (m / 2 ^ 2 % 2 == 1) ≡ (d / 2 ^ 2 % 2 == 1)
bit_2 d m e = ap (λ (n : ℕ). n == 1) (omega arith)

pub bit_7 : (d m : ℕ) → unmarked m ≡ unmarked d → (m / 2 ^ 7 % 2 == 1) ≡ (d / 2 ^ 7 % 2 == 1)
bit_7 d m e = ap (λ (n : ℕ). n == 1) (omega arith)

pub table_512 : (d m index : ℕ) → unmarked m ≡ unmarked d → entry_at m 512 index ≡ entry_at d 512 index
table_512 d m index e = omega arith

pub page_table_same : (big : Bool) (d m index : ℕ) → unmarked m ≡ unmarked d
    → entry_at m (page_table_bytes big) index ≡ entry_at d (page_table_bytes big) index
page_table_same true d m index e = omega arith
page_table_same false d m index e = omega arith

-- an entry of a page table stands at a multiple of 4
pub page_entry_aligned : (big : Bool) (d index : ℕ) → entry_at d (page_table_bytes big) index % 4 ≡ 0
page_entry_aligned true d index = omega arith
page_entry_aligned false d index = omega arith

takes_same : (d m : ℕ) (protected : Bool) (space : Space) → unmarked m ≡ unmarked d
    → page_takes_writes (page_descriptor m) protected space ≡ page_takes_writes (page_descriptor d) protected space
takes_same d m protected space e = rw (bit_2 d m e, bit_7 d m e) refl

pub marked_marks : (d : ℕ) (protected : Bool) (space : Space) (write : Bool) → Marks d (marked d protected space write)
marked_marks d protected space write = elim (cases_Bool (write && page_takes_writes (page_descriptor d) protected space)) [
  | inl h ↦
      let u = used_marks d in
      let m = (modified_marks (with_used d) u.used).0 in
      rw h (record { same = m.same ∙ u.same; small = λ s. m.small (u.small s); used = m.used })
  | inr h ↦ rw h (used_marks d)
]

both : (a b : Bool) → (a && b) ≡ true → (a ≡ true) × (b ≡ true)
both true true h = (refl, refl)
both true false h = absurd (false≢true h)
both false b h = absurd (false≢true h)

written_again : (again write : Bool) → (again ≡ false) ⊎ (again ≡ write) → again ≡ true → write ≡ true
written_again again write (inl unwritten) h = absurd (false≢true (sym unwritten ∙ h))
written_again again write (inr same) h = sym same ∙ h

marked_by_both : (d : ℕ) (protected : Bool) (space : Space) (write : Bool) → (write && page_takes_writes (page_descriptor d) protected space) ≡ true
    → marked d protected space write ≡ with_modified (with_used d)
marked_by_both d protected space write h = rw h refl

marked_by_one : (d : ℕ) (protected : Bool) (space : Space) (write : Bool) → (write && page_takes_writes (page_descriptor d) protected space) ≡ false
    → marked d protected space write ≡ with_used d
marked_by_one d protected space write h = rw h refl

and_true : (a b : Bool) → a ≡ true → b ≡ true → (a && b) ≡ true
and_true a b h k = rw (h, k) refl

-- a mark again, or one for no write, leaves a marked descriptor as it is
pub marked_again : (d m : ℕ) (protected : Bool) (space : Space) (write again : Bool) → (again ≡ false) ⊎ (again ≡ write)
    → m ≡ marked d protected space write → marked m protected space again ≡ m
marked_again d m protected space write again which e =
    let marks : Marks d m = subst (λ (n : ℕ). Marks d n) (sym e) (marked_marks d protected space write) in
    elim (cases_Bool (again && page_takes_writes (page_descriptor m) protected space)) [
      | inl h ↦
          let parts = both again (page_takes_writes (page_descriptor m) protected space) h in
          let takes : page_takes_writes (page_descriptor d) protected space ≡ true = sym (takes_same d m protected space marks.same) ∙ parts.1 in
          let both_so = and_true write (page_takes_writes (page_descriptor d) protected space) (written_again again write which parts.0) takes in
          let is : m ≡ with_modified (with_used d) = e ∙ marked_by_both d protected space write both_so in
          let modified : m / 2 ^ 4 % 2 ≡ 1 = subst (λ (n : ℕ). n / 2 ^ 4 % 2 ≡ 1) (sym is) (modified_marks (with_used d) (used_marks d).used).1 in
          marked_by_both m protected space again h ∙ ap with_modified (used_before m marks.used) ∙ modified_before m modified
      | inr h ↦ marked_by_one m protected space again h ∙ used_before m marks.used
    ]
