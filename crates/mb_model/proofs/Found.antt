-- What is found in the list of a class after a fill and after a flush.
use Rattle.std.proofs.Common.{◌≡◌, ℕ, nat_le, Bool, true, false, cond, if◌then◌else◌, List, [], ◌∷◌, ◌++◌, length, drop, refl, ap, sym, ◌∙◌, subst, arith, not, ◌==◌, inl, inr, Option, Some, None}
use Rattle.std.specs.Prelude.{IfSome}
use Rattle.std.specs.List.{find, list_any}
use Rattle.std.proofs.lemmas.Bool.{cases_Bool}
use Rattle.std.proofs.lemmas.Bool.Decides.{nat_tests}
use Rattle.mb_port.specs.declared.types.Space.{Space}
use Rattle.mb_port.specs.declared.types.Space.TheVariants.{User, Super}
use Rattle.mb_port.specs.declared.types.Flush.{Flush}
use Rattle.mb_model.specs.declared.kept.Kept.{Kept}
use Rattle.mb_model.specs.Keeping.{same_space, is_of, entry_in, without, oldest, displaced, room_for, filled_in, flushed_in, covers, Apart}
use Rattle.mb_model.proofs.ApartLemmas.{is_of-same, head_differs, room-none, filter-none}

space_self : (s : Space) → same_space s s ≡ true
space_self User = refl
space_self Super = refl

number_self : (m : ℕ) → (m == m) ≡ true
number_self m = grind (arith, nat_tests)

-- by a test
pub find_yes : (p : Kept → Bool) (k : Kept) (ks : List Kept) → p k ≡ true → find p (k ∷ ks) ≡ Some k
find_yes p k ks h = rw h refl

pub find_no : (p : Kept → Bool) (k : Kept) (ks : List Kept) → p k ≡ false → find p (k ∷ ks) ≡ find p ks
find_no p k ks h = rw h refl

-- ---- a page of which nothing goes

abbrev NotOf : Space → ℕ → Option Kept → Type 0
NotOf space page o = IfSome o (λ k. is_of space page k ≡ false)

without_other : (p q : Kept → Bool) → ((k : Kept) → q k ≡ true → p k ≡ false) → (ks : List Kept) → find p (without q ks) ≡ find p ks
without_other p q apart [] = refl
without_other p q apart (k ∷ ks) = elim (cases_Bool (q k)) [
  | inl is ↦ rw is (sym (find_no p k ks (apart k is)))
  | inr not_so ↦ rw not_so (ap (cond (p k) (Some k)) (without_other p q apart ks))
]

drop_other : (space : Space) (page : ℕ) (ks : List Kept) → NotOf space page (oldest ks) → entry_in space page (drop 1 ks) ≡ entry_in space page ks
drop_other space page [] n = refl
drop_other space page (k ∷ ks) n = sym (find_no (is_of space page) k ks n)

last_other : (p : Kept → Bool) (ks : List Kept) (k : Kept) → p k ≡ false → find p (ks ++ k ∷ []) ≡ find p ks
last_other p [] k h = find_no p k [] h
last_other p (e ∷ ks) k h = ap (cond (p e) (Some e)) (last_other p ks k h)

-- entries of one page are not of another
other_page : (space : Space) (page : ℕ) (k x : Kept) → is_of space page k ≡ false → is_of k.space k.page x ≡ true → is_of space page x ≡ false
other_page space page k x not_so is =
    let (s, p) = is_of-same k.space k.page x is in
    subst (λ (t : Space). (same_test t x.page space page) ≡ false) (sym s) (subst (λ (n : ℕ). (same_test k.space n space page) ≡ false) (sym p) not_so)
  where
    same_test : Space → ℕ → Space → ℕ → Bool
    same_test t n space page = is_of space page (record x { space = t; page = n })

room_other : (capacity : ℕ) (space : Space) (page : ℕ) (k : Kept) (ks : List Kept) → NotOf space page (displaced capacity k ks) → is_of space page k ≡ false
    → entry_in space page (room_for capacity k ks) ≡ entry_in space page ks
room_other capacity space page k ks n not_so = go (list_any (is_of k.space k.page) ks) (nat_le capacity (length ks)) n
  where
    go : (a b : Bool) → NotOf space page (if a then entry_in k.space k.page ks else if b then oldest ks else None)
        → entry_in space page (if a then without (is_of k.space k.page) ks else if b then drop 1 ks else ks) ≡ entry_in space page ks
    go true b n = without_other (is_of space page) (is_of k.space k.page) (λ x is. other_page space page k x not_so is) ks
    go false true n = drop_other space page ks n
    go false false n = refl

pub filled_other : (capacity : ℕ) (space : Space) (page : ℕ) (k : Kept) (ks : List Kept) → NotOf space page (displaced capacity k ks)
    → is_of space page k ≡ false
    → entry_in space page (filled_in capacity k ks) ≡ entry_in space page ks
filled_other capacity space page k ks n not_so = last_other (is_of space page) (room_for capacity k ks) k not_so
    ∙ room_other capacity space page k ks n not_so

-- ---- the page that is filled

last_found : (p : Kept → Bool) (ks : List Kept) (k : Kept) → find p ks ≡ None → p k ≡ true → find p (ks ++ k ∷ []) ≡ Some k
last_found p [] k n h = find_yes p k [] h
last_found p (e ∷ ks) k n h = let (not_so, rest) = head_differs p e ks n in find_no p e (ks ++ k ∷ []) not_so ∙ last_found p ks k rest h

pub of_itself : (k : Kept) → is_of k.space k.page k ≡ true
of_itself k = rw (space_self k.space, number_self k.page) refl

pub filled_same : (capacity : ℕ) (k : Kept) (ks : List Kept) → Apart ks → entry_in k.space k.page (filled_in capacity k ks) ≡ Some k
filled_same capacity k ks a =
    last_found (is_of k.space k.page) (room_for capacity k ks) k (room-none capacity k ks a) (of_itself k)

-- a page with a kept entry loses it
any_found : (p : Kept → Bool) (ks : List Kept) (k : Kept) → find p ks ≡ Some k → list_any p ks ≡ true
any_found p [] k h = absurd (let z : ⊥ = cc in z)
any_found p (e ∷ ks) k h = elim (cases_Bool (p e)) [
  | inl is ↦ rw is refl
  | inr not_so ↦ rw not_so (any_found p ks k (sym (find_no p e ks not_so) ∙ h))
]

pub displaced_same : (capacity : ℕ) (k old : Kept) (ks : List Kept) → entry_in k.space k.page ks ≡ Some old → displaced capacity k ks ≡ Some old
displaced_same capacity k old ks h = rw (any_found (is_of k.space k.page) ks old h) h

-- ---- flushes

-- an entry that is not covered is found as before
pub flushed_stays : (what : Flush) (space : Space) (page : ℕ) (ks : List Kept) → IfSome (entry_in space page ks) (λ k. covers what k ≡ false)
    → entry_in space page (flushed_in what ks) ≡ entry_in space page ks
flushed_stays what space page [] n = refl
flushed_stays what space page (k ∷ ks) n = elim (cases_Bool (is_of space page k)) [
  | inl here ↦
      let m : covers what k ≡ false = subst (λ (o : Option Kept). IfSome o (λ e. covers what e ≡ false)) (find_yes (is_of space page) k ks here) n in
      rw m (find_yes (is_of space page) k (flushed_in what ks) here ∙ sym (find_yes (is_of space page) k ks here))
  | inr other ↦
      let m = subst (λ (o : Option Kept). IfSome o (λ e. covers what e ≡ false)) (find_no (is_of space page) k ks other) n in
      let rest = flushed_stays what space page ks m in
      elim (cases_Bool (covers what k)) [
        | inl gone ↦ rw gone (rest ∙ sym (find_no (is_of space page) k ks other))
        | inr stays ↦ rw stays (find_no (is_of space page) k (flushed_in what ks) other ∙ rest ∙ sym (find_no (is_of space page) k ks other))
      ]
]

-- and one that is covered is not found
pub flushed_gone : (what : Flush) (space : Space) (page : ℕ) (ks : List Kept) → Apart ks → IfSome (entry_in space page ks) (λ k. covers what k ≡ true)
    → entry_in space page (flushed_in what ks) ≡ None
flushed_gone what space page [] a n = refl
flushed_gone what space page (k ∷ ks) a n = elim (cases_Bool (is_of space page k)) [
  | inl here ↦
      let m : covers what k ≡ true = subst (λ (o : Option Kept). IfSome o (λ e. covers what e ≡ true)) (find_yes (is_of space page) k ks here) n in
      let same = is_of-same space page k here in
      let none : entry_in space page ks ≡ None =
      subst (λ (s : Space). entry_in s page ks ≡ None) same.0 (subst (λ (p : ℕ). entry_in k.space p ks ≡ None) same.1 a.0) in
      rw m (filter-none (λ k. not (covers what k)) (is_of space page) ks none)
  | inr other ↦
      let m = subst (λ (o : Option Kept). IfSome o (λ e. covers what e ≡ true)) (find_no (is_of space page) k ks other) n in
      let rest = flushed_gone what space page ks a.1 m in
      elim (cases_Bool (covers what k)) [
        | inl gone ↦ rw gone rest
        | inr stays ↦ rw stays (find_no (is_of space page) k (flushed_in what ks) other ∙ rest)
      ]
]
