-- At most one entry stands a space and page, whatever is filled and flushed.
use Rattle.std.proofs.Common.{◌≡◌, ℕ, ◌==◌, ◌&&◌, Bool, true, false, not, List, [], ◌∷◌, ◌++◌, length}
use Rattle.std.proofs.Common.{drop, refl, sym, ◌∙◌, subst, arith, inl, inr}
use Rattle.std.specs.Prelude.{None, nat_le}
use Rattle.std.specs.List.{filter, find, list_any}
use Rattle.std.proofs.lemmas.Bool.{cases_Bool, false≢true, true≢false}
use Rattle.std.proofs.lemmas.Bool.Decides.{nat_tests}
use Rattle.std.proofs.lemmas.Option.{none-some}
use Rattle.mb_port.specs.declared.types.Space.{Space}
use Rattle.mb_port.specs.declared.types.Space.TheVariants.{User, Super}
use Rattle.mb_port.specs.declared.types.Flush.{Flush}
use Rattle.mb_model.specs.declared.kept.Kept.{Kept}
use Rattle.mb_model.specs.Keeping.{same_space, is_of, entry_in, without, room_for, filled_in, flushed_in, covers, Apart}

same_space-sym : (a b : Space) → same_space a b ≡ same_space b a
same_space-sym User User = refl
same_space-sym User Super = refl
same_space-sym Super User = refl
same_space-sym Super Super = refl

same_page-sym : (a b : ℕ) → (a == b) ≡ (b == a)
same_page-sym a b = elim (cases_Bool (a == b)) [
  | inl h ↦ let e : a ≡ b = grind (arith, nat_tests) in rw e refl
  | inr h ↦ grind (arith, nat_tests)
]

pub is_of-sym : (a b : Kept) → is_of a.space a.page b ≡ is_of b.space b.page a
is_of-sym a b = rw (same_space-sym b.space a.space, same_page-sym b.page a.page) refl

pub same_space-is : (a b : Space) → same_space a b ≡ true → a ≡ b
same_space-is User User h = refl
same_space-is User Super h = absurd (false≢true h)
same_space-is Super User h = absurd (false≢true h)
same_space-is Super Super h = refl

pub both : (a b : Bool) → (a && b) ≡ true → (a ≡ true) × (b ≡ true)
both true true h = (refl, refl)
both true false h = absurd (false≢true h)
both false b h = absurd (false≢true h)

pub is_of-same : (space : Space) (page : ℕ) (k : Kept) → is_of space page k ≡ true → (k.space ≡ space) × (k.page ≡ page)
is_of-same space page k h =
    let parts = both (same_space k.space space) (k.page == page) h in
    (same_space-is k.space space parts.0, let e = parts.1 in grind (arith, nat_tests))

-- where no entry passes, none is found
pub none_found : (p : Kept → Bool) (kept : List Kept) → list_any p kept ≡ false → find p kept ≡ None
none_found p [] h = refl
none_found p (k ∷ kept) h = elim (cases_Bool (p k)) [
  | inl t ↦ absurd (true≢false (sym (rw t refl) ∙ h))
  | inr f ↦ rw f (none_found p kept (sym (rw f refl) ∙ h))
]

-- the first entry of the list is not of a page that the list has no entry of, and the others are neither
pub head_differs : (p : Kept → Bool) (k : Kept) (kept : List Kept) → find p (k ∷ kept) ≡ None → (p k ≡ false) × (find p kept ≡ None)
head_differs p k kept h = elim (cases_Bool (p k)) [
  | inl t ↦ absurd (none-some k (sym h ∙ rw t refl))
  | inr f ↦ (f, sym (rw f refl) ∙ h)
]

-- and the other way round
pub none_more : (p : Kept → Bool) (k : Kept) (kept : List Kept) → p k ≡ false → find p kept ≡ None → find p (k ∷ kept) ≡ None
none_more p k kept f h = rw f h

without-none : (p q : Kept → Bool) (kept : List Kept) → find q kept ≡ None → find q (without p kept) ≡ None
without-none p q [] h = refl
without-none p q (k ∷ kept) h =
    let parts = head_differs q k kept h in
    elim (cases_Bool (p k)) [
      | inl t ↦ rw t parts.1
      | inr f ↦ rw f (none_more q k (without p kept) parts.0 (without-none p q kept parts.1))
    ]

without-apart : (p : Kept → Bool) (kept : List Kept) → Apart kept → Apart (without p kept)
without-apart p [] a = tt
without-apart p (k ∷ kept) a = elim (cases_Bool (p k)) [
  | inl t ↦ rw t a.1
  | inr f ↦ rw f (without-none p (is_of k.space k.page) kept a.0, without-apart p kept a.1)
]

-- the only entry of a page has gone
gone : (space : Space) (page : ℕ) (kept : List Kept) → Apart kept → entry_in space page (without (is_of space page) kept) ≡ None
gone space page [] a = refl
gone space page (k ∷ kept) a = elim (cases_Bool (is_of space page k)) [
  | inl t ↦
      let same = is_of-same space page k t in
      rw t (subst (λ (s : Space). entry_in s page kept ≡ None) same.0 (subst (λ (n : ℕ). entry_in k.space n kept ≡ None) same.1 a.0))
  | inr f ↦ rw f (none_more (is_of space page) k (without (is_of space page) kept) f (gone space page kept a.1))
]

drop-apart : (kept : List Kept) → Apart kept → Apart (drop 1 kept)
drop-apart [] a = tt
drop-apart (k ∷ kept) a = a.1

drop-none : (p : Kept → Bool) (kept : List Kept) → find p kept ≡ None → find p (drop 1 kept) ≡ None
drop-none p [] h = refl
drop-none p (k ∷ kept) h = (head_differs p k kept h).1

room-apart : (capacity : ℕ) (k : Kept) (kept : List Kept) → Apart kept → Apart (room_for capacity k kept)
room-apart capacity k kept a = elim (cases_Bool (list_any (is_of k.space k.page) kept)) [
  | inl h ↦ rw h (without-apart (is_of k.space k.page) kept a)
  | inr h ↦ rw h (elim (cases_Bool (nat_le capacity (length kept))) [ inl l ↦ rw l (drop-apart kept a) | inr l ↦ rw l a ])
]

pub room-none : (capacity : ℕ) (k : Kept) (kept : List Kept) → Apart kept → entry_in k.space k.page (room_for capacity k kept) ≡ None
room-none capacity k kept a = elim (cases_Bool (list_any (is_of k.space k.page) kept)) [
  | inl h ↦ rw h (gone k.space k.page kept a)
  | inr h ↦
      let none = none_found (is_of k.space k.page) kept h in
      rw h (elim (cases_Bool (nat_le capacity (length kept))) [ inl l ↦ rw l (drop-none (is_of k.space k.page) kept none) | inr l ↦ rw l none ])
]

append-none : (p : Kept → Bool) (kept : List Kept) (k : Kept) → find p kept ≡ None → p k ≡ false → find p (kept ++ k ∷ []) ≡ None
append-none p [] k h f = rw f refl
append-none p (e ∷ kept) k h f =
    let parts = head_differs p e kept h in
    none_more p e (kept ++ k ∷ []) parts.0 (append-none p kept k parts.1 f)

append-apart : (kept : List Kept) (k : Kept) → Apart kept → entry_in k.space k.page kept ≡ None → Apart (kept ++ k ∷ [])
append-apart [] k a h = (refl, tt)
append-apart (e ∷ kept) k a h =
    let parts = head_differs (is_of k.space k.page) e kept h in
    (append-none (is_of e.space e.page) kept k a.0 (is_of-sym e k ∙ parts.0), append-apart kept k a.1 parts.1)

pub filled_in-apart : (capacity : ℕ) (k : Kept) (kept : List Kept) → Apart kept → Apart (filled_in capacity k kept)
filled_in-apart capacity k kept a = append-apart (room_for capacity k kept) k (room-apart capacity k kept a) (room-none capacity k kept a)

pub filter-none : (p q : Kept → Bool) (kept : List Kept) → find q kept ≡ None → find q (filter p kept) ≡ None
filter-none p q [] h = refl
filter-none p q (k ∷ kept) h =
    let parts = head_differs q k kept h in
    elim (cases_Bool (p k)) [
      | inl t ↦ rw t (none_more q k (filter p kept) parts.0 (filter-none p q kept parts.1))
      | inr f ↦ rw f (filter-none p q kept parts.1)
    ]

filter-apart : (p : Kept → Bool) (kept : List Kept) → Apart kept → Apart (filter p kept)
filter-apart p [] a = tt
filter-apart p (k ∷ kept) a = elim (cases_Bool (p k)) [
  | inl t ↦ rw t (filter-none p (is_of k.space k.page) kept a.0, filter-apart p kept a.1)
  | inr f ↦ rw f (filter-apart p kept a.1)
]

pub flushed_in-apart : (what : Flush) (kept : List Kept) → Apart kept → Apart (flushed_in what kept)
flushed_in-apart what kept a = filter-apart (λ k. not (covers what k)) kept a

pub ruleset apart = (filled_in-apart, flushed_in-apart)
