-- The tables in slots that are listed, and the slot of each, when a slot joins the list or leaves it.
use Rattle.std.proofs.Common.{◌≡◌, ◌≢◌, ◌∙◌, ℕ, suc, ◌+◌, ◌≤◌, ◌<◌, not, Bool, false, cond, List, [], ◌∷◌, ◌++◌, length, map, filter, get_or}
use Rattle.std.proofs.Common.{ap, sym, subst, refl, arith, inl, inr}
use Rattle.std.proofs.lemmas.Bool.{cases_Bool}
use Rattle.vm_shadow.specs.declared.table.Table.{Table}
use Rattle.vm_shadow.specs.Slots.{same_table, number_of, Has, Once}
use Rattle.law_links.specs.Paths.{times}
use Rattle.law_links.proofs.Paths.{one, times-append}
use Rattle.vm_shadow.proofs.Positions.{same_is, same_self, same_not}
use Rattle.vm_shadow.proofs.Kept.{has_first, has_later, once_first, once_rest}

-- the first of some slots with a table
abbrev pub at_first : (ℕ → Table) → Table → List ℕ → ℕ
at_first f a [] = 0
at_first f a (z ∷ zs) = cond (same_table a (f z)) z (at_first f a zs)

-- by the table's number
pub slot_read : (f : ℕ → Table) (a : Table) (zs : List ℕ) → get_or zs (number_of a (map f zs)) 0 ≡ at_first f a zs
slot_read f a [] = refl
slot_read f a (z ∷ zs) = elim (cases_Bool (same_table a (f z))) [
  | inl e ↦ rw e refl
  | inr n ↦ rw n (read_next z zs (number_of a (map f zs)) ∙ slot_read f a zs)
]
  where
    read_next : (z : ℕ) (zs : List ℕ) (n : ℕ) → get_or (z ∷ zs) (1 + n) 0 ≡ get_or zs n 0
    read_next z zs n = let e : 1 + n ≡ suc n = omega arith in ap (λ (m : ℕ). get_or (z ∷ zs) m 0) e

later_has : (a x : Table) (xs : List Table) → same_table a x ≡ false → Has (x ∷ xs) a → Has xs a
later_has a x xs n h = let k : 1 + number_of a xs < suc (length xs) = rw n at h in omega (arith, k)

later_not : (a x : Table) (xs : List Table) → length (x ∷ xs) ≤ number_of a (x ∷ xs) → (same_table a x ≡ false) × (length xs ≤ number_of a xs)
later_not a x xs h = elim (cases_Bool (same_table a x)) [
  | inl e ↦ let k : suc (length xs) ≤ 0 = rw e at h in absurd (omega (arith, k))
  | inr n ↦ let k : suc (length xs) ≤ 1 + number_of a xs = rw n at h in (n, omega (arith, k))
]

module _ (f : ℕ → Table) (a : Table) where
  pub split : (zs : List ℕ) → Has (map f zs) a → (xs : List ℕ) × ((ys : List ℕ) × (zs ≡ xs ++ at_first f a zs ∷ ys))
  split [] h = absurd (omega (arith, h))
  split (z ∷ zs) h = elim (cases_Bool (same_table a (f z))) [
    | inl e ↦ ([], (zs, rw e refl))
    | inr n ↦
        let r = split zs (later_has a (f z) (map f zs) n h) in
        (z ∷ r.0, (r.1.0, rw n (ap (λ (us : List ℕ). z ∷ us) r.1.1)))
  ]

  pub table_at : (zs : List ℕ) → Has (map f zs) a → f (at_first f a zs) ≡ a
  table_at [] h = absurd (omega (arith, h))
  table_at (z ∷ zs) h = elim (cases_Bool (same_table a (f z))) [
    | inl e ↦ rw e (sym (same_is a (f z) e))
    | inr n ↦ rw n (table_at zs (later_has a (f z) (map f zs) n h))
  ]

  pub listed_at : (zs : List ℕ) → Has (map f zs) a → 0 < times (at_first f a zs) zs
  listed_at zs h =
      let r = split zs h in
      let s = at_first f a zs in
      let e : times s zs ≡ times s (r.0 ++ s ∷ r.1.0) = ap (times s) r.1.1 in
      omega (arith, e, times-append s r.0 (s ∷ r.1.0), one s s refl)

-- ---- a slot joins the list
module _ (f g : ℕ → Table) (n : ℕ) (y : Table) (is : g n ≡ y) where
  pub map_joined : (xs : List ℕ) → ((k : ℕ) → 0 < times k xs → g k ≡ f k) → map g (xs ++ n ∷ []) ≡ map f xs ++ y ∷ []
  map_joined [] same = ap (λ (b : Table). b ∷ []) is
  map_joined (x ∷ xs) same =
      ap (λ (b : Table). b ∷ map g (xs ++ n ∷ [])) (same x (omega (arith, one x x refl)))
      ∙ ap (λ (bs : List Table). f x ∷ bs) (map_joined xs (λ k h. same k (omega (arith, h))))

  pub joined_old : (a : Table) (xs : List ℕ) → ((k : ℕ) → 0 < times k xs → g k ≡ f k) → Has (map f xs) a → at_first g a (xs ++ n ∷ []) ≡ at_first f a xs
  joined_old a [] same h = absurd (omega (arith, h))
  joined_old a (x ∷ xs) same h =
      ap (λ (b : Table). cond (same_table a b) x (at_first g a (xs ++ n ∷ []))) (same x (omega (arith, one x x refl)))
      ∙ elim (cases_Bool (same_table a (f x))) [
        | inl e ↦ rw e refl
        | inr d ↦ rw d (joined_old a xs (λ k l. same k (omega (arith, l))) (later_has a (f x) (map f xs) d h))
      ]

  pub joined_new : (xs : List ℕ) → ((k : ℕ) → 0 < times k xs → g k ≡ f k) → length (map f xs) ≤ number_of y (map f xs) → at_first g y (xs ++ n ∷ []) ≡ n
  joined_new [] same h = ap (λ (b : Bool). cond b n 0) (ap (same_table y) is ∙ same_self y)
  joined_new (x ∷ xs) same h =
      let r = later_not y (f x) (map f xs) h in
      ap (λ (b : Bool). cond b x (at_first g y (xs ++ n ∷ []))) (ap (same_table y) (same x (omega (arith, one x x refl))) ∙ r.0)
      ∙ joined_new xs (λ k l. same k (omega (arith, l))) r.1

-- ---- a slot leaves the list
kept_whole : (y : Table) (ts : List Table) → length ts ≤ number_of y ts → filter (λ b. not (same_table y b)) ts ≡ ts
kept_whole y [] h = refl
kept_whole y (t ∷ ts) h =
    let r = later_not y t ts h in
    ap (λ (b : Bool). cond (not b) (t ∷ filter (λ b. not (same_table y b)) ts) (filter (λ b. not (same_table y b)) ts)) r.0
    ∙ ap (λ (us : List Table). t ∷ us) (kept_whole y ts r.1)

module _ (f : ℕ → Table) (x : ℕ) (ys : List ℕ) where
  has_here : (xs : List ℕ) → Has (map f (xs ++ x ∷ ys)) (f x)
  has_here [] = has_first (f x) (map f ys)
  has_here (z ∷ xs) = has_later (f x) (f z) (map f (xs ++ x ∷ ys)) (has_here xs)

  pub map_left : (xs : List ℕ) → Once (map f (xs ++ x ∷ ys)) → map f (xs ++ ys) ≡ filter (λ b. not (same_table (f x) b)) (map f (xs ++ x ∷ ys))
  map_left [] o = sym (
      ap (λ (b : Bool). cond (not b) (f x ∷ filter (λ b. not (same_table (f x) b)) (map f ys))
      (filter (λ b. not (same_table (f x) b)) (map f ys))) (same_self (f x))
      ∙ kept_whole (f x) (map f ys) (once_first (f x) (map f ys) o))
  map_left (z ∷ xs) o =
      let there = has_here xs in
      let first = once_first (f z) (map f (xs ++ x ∷ ys)) o in
      let differ : f x ≢ f z = λ e. let h = subst (Has (map f (xs ++ x ∷ ys))) e there in absurd (omega (arith, h, first)) in
      ap (λ (us : List Table). f z ∷ us) (map_left xs (once_rest (f z) (map f (xs ++ x ∷ ys)) o))
      ∙ sym (ap (λ (b : Bool). cond (not b) (f z ∷ filter (λ b. not (same_table (f x) b)) (map f (xs ++ x ∷ ys)))
      (filter (λ b. not (same_table (f x) b)) (map f (xs ++ x ∷ ys)))) (same_not (f x) (f z) differ))

  pub left_slot : (a : Table) (xs : List ℕ) → a ≢ f x → at_first f a (xs ++ ys) ≡ at_first f a (xs ++ x ∷ ys)
  left_slot a [] d = sym (ap (λ (b : Bool). cond b x (at_first f a ys)) (same_not a (f x) d))
  left_slot a (z ∷ xs) d = ap (cond (same_table a (f z)) z) (left_slot a xs d)
