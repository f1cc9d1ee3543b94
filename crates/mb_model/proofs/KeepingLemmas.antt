-- Places of entries in the list of a class.
use Rattle.std.proofs.Common.{◌≡◌, ℕ, suc, ◌+◌, ◌≤◌, ◌<◌, Bool, true, false, List, [], ◌∷◌, length, refl}
use Rattle.std.proofs.Common.{ap, sym, ◌∙◌, arith, inl, inr}
use Rattle.std.specs.Prelude.{Some, None, slice_get, slice_index_or, nat_lt, nat_le}
use Rattle.std.specs.List.{position, position_or_len, list_any, find, remove}
use Rattle.std.proofs.lemmas.Bool.{cases_Bool}
use Rattle.std.proofs.lemmas.Bool.Decides.{nat_tests}
use Rattle.std.proofs.lemmas.Option.{same_Some, none-some, slice_get_past, slice_get-get_or}
use Rattle.std.proofs.lemmas.List.Folds.{find_at}
use Rattle.mb_model.specs.declared.kept.Kept.{Kept}
use Rattle.mb_model.specs.Keeping.{is_of, without, oldest, displaced}

first_is : (kept : List Kept) (d : Kept) → 0 < length kept → oldest kept ≡ Some (slice_index_or kept 0 d)
first_is [] d h = absurd (omega arith)
first_is (k ∷ kept) d h = refl

one_more : (k : Kept) (kept : List Kept) (n m : ℕ) → m ≡ suc n → k ∷ remove kept n ≡ remove (k ∷ kept) m
one_more k kept n m e = rw e refl

first_counts : (n : ℕ) → true ≡ nat_lt 0 (suc n)
first_counts n = let l : 0 < suc n = omega arith in grind (arith, nat_tests)

both_counted : (m n : ℕ) → nat_lt m n ≡ nat_lt (1 + m) (suc n)
both_counted m n = elim (cases_Bool (nat_lt m n)) [
  | inl h ↦ grind (arith, nat_tests)
  | inr h ↦ grind (arith, nat_tests)
]

module _ (p : Kept → Bool) where
  pub without_is : (kept : List Kept) → without p kept ≡ remove kept (position_or_len p kept)
  without_is [] = refl
  without_is (k ∷ kept) = elim (cases_Bool (p k)) [
    | inl h ↦ rw h refl
    | inr h ↦ rw h (ap (λ (ks : List Kept). k ∷ ks) (without_is kept) ∙ one_more k kept (position_or_len p kept) _ (omega arith))
  ]

  pub any_is : (kept : List Kept) → list_any p kept ≡ nat_lt (position_or_len p kept) (length kept)
  any_is [] = refl
  any_is (k ∷ kept) = elim (cases_Bool (p k)) [
    | inl h ↦ rw h (first_counts (length kept))
    | inr h ↦ rw h (any_is kept ∙ both_counted (position_or_len p kept) (length kept))
  ]

  -- the entry at the first place that passes goes
  pub at_place : (kept : List Kept) (i : ℕ) → position p kept ≡ Some i → (list_any p kept ≡ true) × (without p kept ≡ remove kept i)
  at_place kept i h = elim (cases_Bool (nat_lt (position_or_len p kept) (length kept))) [
    | inl l ↦ (
      any_is kept ∙ l,
      without_is kept ∙ ap (remove kept) (same_Some (position_or_len p kept) i (sym (rw l refl) ∙ h)),
    )
    | inr l ↦ absurd (none-some i (sym (rw l refl) ∙ h))
  ]

  pub at_none : (kept : List Kept) → position p kept ≡ None → list_any p kept ≡ false
  at_none kept h = elim (cases_Bool (nat_lt (position_or_len p kept) (length kept))) [
    | inl l ↦ absurd (none-some (position_or_len p kept) (sym h ∙ rw l refl))
    | inr l ↦ any_is kept ∙ l
  ]

  pub find_place : (kept : List Kept) (i : ℕ) (d : Kept) → position p kept ≡ Some i → Some (slice_index_or kept i d) ≡ find p kept
  find_place kept i d h = elim (cases_Bool (nat_lt (position_or_len p kept) (length kept))) [
    | inl l ↦
        let e : position_or_len p kept ≡ i = same_Some (position_or_len p kept) i (sym (rw l refl) ∙ h) in
        let inside : i < length kept = rw e at (let below : position_or_len p kept < length kept = grind (arith, nat_tests) in below) in
        sym (find_at p kept ∙ ap (slice_get kept) e ∙ slice_get-get_or kept i d inside)
    | inr l ↦ absurd (none-some i (sym (rw l refl) ∙ h))
  ]

  pub find_none : (kept : List Kept) → position p kept ≡ None → find p kept ≡ None
  find_none kept h = elim (cases_Bool (nat_lt (position_or_len p kept) (length kept))) [
    | inl l ↦ absurd (none-some (position_or_len p kept) (sym h ∙ rw l refl))
    | inr l ↦ find_at p kept ∙ slice_get_past kept (position_or_len p kept) (grind (arith, nat_tests))
  ]

pub ruleset entries = (find_place, find_none)

pub ruleset places = (at_place, at_none)

-- what a fill drops, and what it leaves
pub displaced_older : (capacity : ℕ) (k : Kept) (kept : List Kept) (i : ℕ) (d : Kept) → position (is_of k.space k.page) kept ≡ Some i
    → displaced capacity k kept ≡ Some (slice_index_or kept i d)
displaced_older capacity k kept i d h =
    rw ((at_place (is_of k.space k.page) kept i h).0) (sym (find_place (is_of k.space k.page) kept i d h))

pub displaced_oldest : (capacity : ℕ) (k : Kept) (kept : List Kept) (d : Kept) → position (is_of k.space k.page) kept ≡ None
    → capacity ≤ length kept → 0 < length kept → displaced capacity k kept ≡ Some (slice_index_or kept 0 d)
displaced_oldest capacity k kept d h full some =
    let l : nat_le capacity (length kept) ≡ true = grind (arith, nat_tests) in
    rw (at_none (is_of k.space k.page) kept h, l) (first_is kept d some)

pub displaced_none : (capacity : ℕ) (k : Kept) (kept : List Kept) → position (is_of k.space k.page) kept ≡ None
    → length kept < capacity → displaced capacity k kept ≡ None
displaced_none capacity k kept h room =
    let l : nat_le capacity (length kept) ≡ false = grind (arith, nat_tests) in
    rw (at_none (is_of k.space k.page) kept h, l) refl

pub ruleset filling = (at_place, at_none, displaced_older, displaced_oldest, displaced_none)
