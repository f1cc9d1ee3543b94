-- The numbers of tables, and of those that come to stand.
use Rattle.std.proofs.Common.{◌≡◌, ◌≢◌, ◌∙◌, ℕ, ◌+◌, ◌≤◌, ◌==◌, nat_lt, Bool, true, false, cond, List, [], ◌∷◌, ◌++◌, length}
use Rattle.std.proofs.Common.{ap, sym, arith, inl, inr, length-append}
use Rattle.std.specs.Prelude.{◌⊎◌}
use Rattle.std.proofs.lemmas.List.Folds.{position_or_len_push}
use Rattle.std.proofs.lemmas.Bool.{cases_Bool, cases_lt, false≢true}
use Rattle.std.proofs.lemmas.Bool.Decides.{nat_tests}
use Rattle.mb_port.specs.declared.types.Space.TheVariants.{User, Super}
use Rattle.vm_shadow.specs.declared.table.Table.{Table}
use Rattle.vm_shadow.specs.declared.table.Table.TheVariants.{Pointers, Pages}
use Rattle.vm_shadow.specs.Slots.{same_table, number_of, Has}
use Rattle.vm_shadow.specs.Area.{link, link_to}

pub same_is : (a b : Table) → same_table a b ≡ true → a ≡ b
same_is (Pointers User i) (Pointers User j) h = let e : i ≡ j = grind (arith, nat_tests) in ap (Pointers User) e
same_is (Pointers User i) (Pointers Super j) h = absurd (false≢true h)
same_is (Pointers Super i) (Pointers User j) h = absurd (false≢true h)
same_is (Pointers Super i) (Pointers Super j) h = let e : i ≡ j = grind (arith, nat_tests) in ap (Pointers Super) e
same_is (Pointers s i) (Pages t j) h = absurd (false≢true h)
same_is (Pages s i) (Pointers t j) h = absurd (false≢true h)
same_is (Pages User i) (Pages User j) h = let e : i ≡ j = grind (arith, nat_tests) in ap (Pages User) e
same_is (Pages User i) (Pages Super j) h = absurd (false≢true h)
same_is (Pages Super i) (Pages User j) h = absurd (false≢true h)
same_is (Pages Super i) (Pages Super j) h = let e : i ≡ j = grind (arith, nat_tests) in ap (Pages Super) e

eq_self : (i : ℕ) → (i == i) ≡ true
eq_self i = grind (arith, nat_tests)

pub same_self : (a : Table) → same_table a a ≡ true
same_self (Pointers User i) = eq_self i
same_self (Pointers Super i) = eq_self i
same_self (Pages User i) = eq_self i
same_self (Pages Super i) = eq_self i

pub same_cases : (a b : Table) → (a ≡ b) ⊎ (a ≢ b)
same_cases a b = elim (cases_Bool (same_table a b)) [
  | inl h ↦ inl (same_is a b h)
  | inr h ↦ inr (λ e. false≢true (sym h ∙ ap (same_table a) (sym e) ∙ same_self a))
]

pub same_not : (a b : Table) → a ≢ b → same_table a b ≡ false
same_not a b n = elim (cases_Bool (same_table a b)) [
  | inl h ↦ absurd (n (same_is a b h))
  | inr h ↦ h
]

pub number_most : (a : Table) (xs : List Table) → number_of a xs ≤ length xs
number_most a [] = omega arith
number_most a (x ∷ xs) = let h = number_most a xs in elim (cases_Bool (same_table a x)) [
  | inl e ↦ rw e (omega arith)
  | inr e ↦ rw e (omega arith)
]

pub pushed_length : (xs : List Table) (y : Table) → length (xs ++ y ∷ []) ≡ length xs + 1
pushed_length xs y = length-append xs (y ∷ [])

-- one more table
pub pushed_old : (a y : Table) (xs : List Table) → Has xs a → number_of a (xs ++ y ∷ []) ≡ number_of a xs
pushed_old a y xs h =
    let b : (number_of a xs == length xs) ≡ false = grind (arith, nat_tests) in
    position_or_len_push (same_table a) xs y ∙ ap (λ (b : Bool). cond b (length xs + cond (same_table a y) 0 1) (number_of a xs)) b

past : (a y : Table) (xs : List Table) → length xs ≤ number_of a xs → number_of a (xs ++ y ∷ []) ≡ length xs + cond (same_table a y) 0 1
past a y xs h =
    let most = number_most a xs in
    let b : (number_of a xs == length xs) ≡ true = grind (arith, nat_tests) in
    position_or_len_push (same_table a) xs y ∙ ap (λ (b : Bool). cond b (length xs + cond (same_table a y) 0 1) (number_of a xs)) b

pub pushed_new : (a : Table) (xs : List Table) → length xs ≤ number_of a xs → number_of a (xs ++ a ∷ []) ≡ length xs
pushed_new a xs h = past a a xs h ∙ ap (λ (b : Bool). length xs + cond b 0 1) (same_self a) ∙ (let e : length xs + 0 ≡ length xs = omega arith in e)

pub pushed_other : (a y : Table) (xs : List Table) → length xs ≤ number_of a xs → a ≢ y → number_of a (xs ++ y ∷ []) ≡ length xs + 1
pushed_other a y xs h n = past a y xs h ∙ ap (λ (b : Bool). length xs + cond b 0 1) (same_not a y n)

pub has_more : (a y : Table) (xs : List Table) → Has xs a → Has (xs ++ y ∷ []) a
has_more a y xs h = let e = pushed_old a y xs h in let l = pushed_length xs y in omega arith

pub has_new : (a : Table) (xs : List Table) → length xs ≤ number_of a xs → Has (xs ++ a ∷ []) a
has_new a xs h = let e = pushed_new a xs h in let l = pushed_length xs a in omega arith

pub had : (a y : Table) (xs : List Table) → Has (xs ++ y ∷ []) a → a ≢ y → Has xs a
had a y xs h n = elim (cases_lt (number_of a xs) (length xs)) [
  | inl k ↦ k
  | inr k ↦ let e = pushed_other a y xs k n in let l = pushed_length xs y in absurd (omega arith)
]

-- the descriptor that leads to a table
pub link_yes : (area : ℕ) (slot : Table → ℕ) (a : Table) (xs : List Table) → Has xs a → link_to area xs slot a ≡ link area (slot a)
link_yes area slot a xs h = let b : nat_lt (number_of a xs) (length xs) ≡ true = grind (arith, nat_tests) in ap (λ (b : Bool). cond b (link area (slot a)) 0) b

pub link_no : (area : ℕ) (slot : Table → ℕ) (a : Table) (xs : List Table) → length xs ≤ number_of a xs → link_to area xs slot a ≡ 0
link_no area slot a xs h = let b : nat_lt (number_of a xs) (length xs) ≡ false = grind (arith, nat_tests) in ap (λ (b : Bool). cond b (link area (slot a)) 0) b

-- of a table that stands in both or in none, and in the same slot
pub link_same : (area : ℕ) (slot after : Table → ℕ) (a : Table) (xs ys : List Table) → (Has ys a → Has xs a) → (Has xs a → Has ys a)
    → (Has ys a → after a ≡ slot a) → link_to area ys after a ≡ link_to area xs slot a
link_same area slot after a xs ys to from e = elim (cases_lt (number_of a ys) (length ys)) [
  | inl h ↦ link_yes area after a ys h ∙ ap (link area) (e h) ∙ sym (link_yes area slot a xs (to h))
  | inr h ↦ link_no area after a ys h ∙ sym (link_no area slot a xs (elim (cases_lt (number_of a xs) (length xs)) [
    | inl k ↦ let l = from k in absurd (omega (arith, l, h))
    | inr k ↦ k
  ]))
]
