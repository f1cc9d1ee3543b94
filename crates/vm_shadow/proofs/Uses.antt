-- How many longs of a slot are not 0, and what a long that is written makes of it.
use Rattle.std.proofs.Common.{◌≡◌, ◌≢◌, ◌∙◌, ℕ, zero, suc, ◌+◌, ◌≤◌, ◌<◌, ◌==◌, Bool, true, false, cond, refl, ap, arith, inl, inr}
use Rattle.std.proofs.lemmas.Bool.{cases_eq}
use Rattle.std.proofs.lemmas.Bool.Decides.{nat_tests}
use Rattle.vm_shadow.specs.Area.{in_slot, one, used, IsUsed}
use Rattle.law_links.specs.Paths.{updated}
use Rattle.law_links.proofs.Paths.{updated_same, updated_other}

pub one_none : (long : ℕ) → long ≡ 0 → one long ≡ 0
one_none long e = let b : (long == 0) ≡ true = grind (arith, nat_tests) in ap (λ (b : Bool). cond b 0 1) b

pub one_some : (long : ℕ) → long ≢ 0 → one long ≡ 1
one_some long n = let b : (long == 0) ≡ false = grind (arith, nat_tests) in ap (λ (b : Bool). cond b 0 1) b

-- a long of a slot is not 0
abbrev pub HasLong : (ℕ → ℕ) → ℕ → Type 0
HasLong t number = (index : ℕ) × ((index < 128) × (t (in_slot number index) ≢ 0))

module _ (t : ℕ → ℕ) (number : ℕ) where
  pub used_most : (n : ℕ) → used t number n ≤ n
  unfolding used
  used_most zero = omega arith
  used_most (suc n) = elim (cases_eq (t (in_slot number n)) 0) [
    | inl e ↦ let h = used_most n in let o = one_none (t (in_slot number n)) e in omega (arith, h, o)
    | inr d ↦ let h = used_most n in let o = one_some (t (in_slot number n)) d in omega (arith, h, o)
  ]

  pub used_empty : (n : ℕ) → ((index : ℕ) → index < n → t (in_slot number index) ≡ 0) → used t number n ≡ 0
  unfolding used
  used_empty zero z = refl
  used_empty (suc n) z =
      let h = used_empty n (λ index l. z index (omega (arith, l))) in
      let o = one_none (t (in_slot number n)) (z n (omega arith)) in
      omega (arith, h, o)

  -- where none is counted, all are 0
  pub none_used : (n : ℕ) → used t number n ≡ 0 → (index : ℕ) → index < n → t (in_slot number index) ≡ 0
  unfolding used
  none_used zero z index l = absurd (omega (arith, l))
  none_used (suc n) z index l = elim (cases_eq index n) [
    | inl e ↦ elim (cases_eq (t (in_slot number n)) 0) [
      | inl y ↦ ap (λ (i : ℕ). t (in_slot number i)) e ∙ y
      | inr d ↦ let o = one_some (t (in_slot number n)) d in absurd (omega (arith, z, o))
    ]
    | inr d ↦ none_used n (omega (arith, z)) index (omega (arith, l, (let q : index ≢ n = d in q)))
  ]

  -- where one is counted, it is there
  pub some_used : (n : ℕ) → n ≤ 128 → used t number n ≢ 0 → HasLong t number
  unfolding used
  some_used zero h z = absurd (z refl)
  some_used (suc n) h z = elim (cases_eq (t (in_slot number n)) 0) [
    | inl y ↦ let o = one_none (t (in_slot number n)) y in some_used n (omega (arith, h)) (λ e. z (omega (arith, e, o)))
    | inr d ↦ (n, (omega (arith, h), d))
  ]

  -- a long is part of the count
  pub one_in : (n index : ℕ) → index < n → one (t (in_slot number index)) ≤ used t number n
  unfolding used
  one_in zero index l = absurd (omega (arith, l))
  one_in (suc n) index l = elim (cases_eq index n) [
    | inl e ↦ let f = ap (λ (i : ℕ). one (t (in_slot number i))) e in omega (arith, f)
    | inr d ↦ let h = one_in n index (omega (arith, l, (let q : index ≢ n = d in q))) in omega (arith, h)
  ]

pub used_by : (t : ℕ → ℕ) (number index : ℕ) → index < 128 → t (in_slot number index) ≢ 0 → IsUsed t number
used_by t number index l d = λ e.
    let i = one_in t number 128 index l in
    let o = one_some (t (in_slot number index)) d in
    absurd (omega (arith, e, i, o))

-- another slot with the same longs
pub used_moved : (t u : ℕ → ℕ) (number other n : ℕ) → ((index : ℕ) → index < n → u (in_slot other index) ≡ t (in_slot number index))
    → used u other n ≡ used t number n
unfolding used
used_moved t u number other zero e = refl
used_moved t u number other (suc n) e =
    let h = used_moved t u number other n (λ index l. e index (omega (arith, l))) in
    let o = ap one (e n (omega arith)) in
    omega (arith, h, o)

pub used_same : (t u : ℕ → ℕ) (number n : ℕ) → ((index : ℕ) → index < n → u (in_slot number index) ≡ t (in_slot number index))
    → used u number n ≡ used t number n
used_same t u number n e = used_moved t u number number n e

-- a long is written
pub used_set : (t : ℕ → ℕ) (number index long n : ℕ) → index < n
    → used (updated t (in_slot number index) long) number n + one (t (in_slot number index)) ≡ used t number n + one long
unfolding used
used_set t number index long zero l = absurd (omega (arith, l))
used_set t number index long (suc n) l =
    let u = updated t (in_slot number index) long in
    elim (cases_eq n index) [
      | inl e ↦
          let same = used_same t u number n (λ i k. updated_other t (in_slot number index) long (in_slot number i) (λ f. absurd (omega (arith, f, e, k)))) in
          let new = ap (λ (i : ℕ). one (u (in_slot number i))) e ∙ ap one (updated_same t (in_slot number index) long) in
          let old = ap (λ (i : ℕ). one (t (in_slot number i))) e in
          omega (arith, same, new, old)
      | inr d ↦
          let h = used_set t number index long n (omega (arith, l, (let q : n ≢ index = d in q))) in
          let o = ap one (updated_other t (in_slot number index) long (in_slot number n) (λ f. d (omega (arith, f)))) in
          omega (arith, h, o)
    ]

-- and in another slot
pub used_apart : (t : ℕ → ℕ) (number other index long : ℕ) → number ≢ other → index < 128
    → used (updated t (in_slot other index) long) number 128 ≡ used t number 128
used_apart t number other index long d l =
    used_same t (updated t (in_slot other index) long) number 128
    (λ i k. updated_other t (in_slot other index) long (in_slot number i) (λ e. d (omega (arith, e, k, l))))
