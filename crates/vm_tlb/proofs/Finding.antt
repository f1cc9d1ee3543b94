-- The entry of a page, found in its chain.
use Rattle.std.proofs.Common.{◌≡◌, ◌≢◌, ◌∙◌, ℕ, ◌<◌, Bool, true, false, List, [], ◌∷◌, ◌++◌, map}
use Rattle.std.proofs.Common.{ap, sym, subst, refl, arith, inl, inr}
use Rattle.std.specs.Prelude.{Some, None}
use Rattle.std.specs.List.{find, list_any}
use Rattle.std.proofs.lemmas.Bool.{cases_eq, cases_Bool}
use Rattle.std.proofs.lemmas.Option.{none-some}
use Rattle.mb_port.specs.declared.types.Space.{Space}
use Rattle.mb_model.specs.declared.kept.Kept.{Kept}
use Rattle.mb_model.specs.Keeping.{is_of, entry_in, without, Apart}
use Rattle.vm_tlb.specs.Chains.{chain, first_of}
use Rattle.law_links.specs.Paths.{times}
use Rattle.vm_tlb.specs.Links.{chain_of, number_of}
use Rattle.vm_tlb.proofs.Paths.{times-here, times-chain}
use Rattle.law_links.proofs.Paths.{one, none, times-append}
use Rattle.mb_model.proofs.ApartLemmas.{is_of-same}

-- the first place that passes
pub first-none : (p : ℕ → Bool) (xs : List ℕ) → ((k : ℕ) → 0 < times k xs → k < 256) → first_of p xs ≡ 256 → (k : ℕ) → 0 < times k xs → p k ≡ false
first-none p [] low e k h = absurd (omega (arith, h))
first-none p (x ∷ xs) low e k h = elim (cases_Bool (p x)) [
  | inl t ↦ let is : x ≡ 256 = sym (rw t refl) ∙ e in absurd (omega (arith, is, low x (omega (arith, one x x refl))))
  | inr f ↦ elim (cases_eq x k) [
    | inl s ↦ ap p (sym s) ∙ f
    | inr d ↦ first-none p xs (λ n l. low n (omega (arith, l))) (sym (rw f refl) ∙ e) k (omega (arith, h, none x k d))
  ]
]

pub first-some : (p : ℕ → Bool) (xs : List ℕ) → first_of p xs ≢ 256 → (p (first_of p xs) ≡ true) × (0 < times (first_of p xs) xs)
first-some p [] d = absurd (d refl)
first-some p (x ∷ xs) d = elim (cases_Bool (p x)) [
  | inl t ↦ rw t (t, omega (arith, one x x refl))
  | inr f ↦
      let rest = first-some p xs (λ e. d (rw f e)) in
      let is : first_of p (x ∷ xs) ≡ first_of p xs = rw f refl in
      subst (λ (n : ℕ). (p n ≡ true) × (0 < times n (x ∷ xs))) (sym is) (rest.0, omega (arith, rest.1))
]

-- a list with a number, at that number
pub split_at : (n : ℕ) (xs : List ℕ) → 0 < times n xs → (front : List ℕ) × (back : List ℕ) × (xs ≡ front ++ n ∷ back)
split_at n [] h = absurd (omega (arith, h))
split_at n (x ∷ xs) h = elim (cases_eq x n) [
  | inl e ↦ ([], xs, ap (λ (m : ℕ). m ∷ xs) e)
  | inr d ↦ let s = split_at n xs (omega (arith, h, none x n d)) in (x ∷ s.0, s.1, ap (λ (ys : List ℕ). x ∷ ys) s.2)
]

module _ (space : Space) (page : ℕ) (kept : ℕ → Kept) where
  -- no entry is of the page
  pub none_of : (xs : List ℕ) → ((k : ℕ) → 0 < times k xs → is_of space page (kept k) ≡ false) → entry_in space page (map kept xs) ≡ None
  none_of [] h = refl
  none_of (x ∷ xs) h = rw (h x (omega (arith, one x x refl))) (none_of xs (λ k l. h k (omega (arith, l))))

  -- the one entry that is
  pub one_of : (xs : List ℕ) (i : ℕ) → Apart (map kept xs) → 0 < times i xs → is_of space page (kept i) ≡ true
      → entry_in space page (map kept xs) ≡ Some (kept i)
  one_of [] i a h t = absurd (omega (arith, h))
  one_of (x ∷ xs) i a h t = elim (cases_eq x i) [
    | inl e ↦ let p : is_of space page (kept x) ≡ true = ap (λ (n : ℕ). is_of space page (kept n)) e ∙ t in rw p (ap (λ (n : ℕ). Some (kept n)) e)
    | inr d ↦
        let rest = one_of xs i a.1 (omega (arith, h, none x i d)) t in
        elim (cases_Bool (is_of space page (kept x))) [
          | inl p ↦
              let same = is_of-same space page (kept x) p in
              let gone = subst (λ (s : Space). entry_in s page (map kept xs) ≡ None) same.0
              (subst (λ (n : ℕ). entry_in (kept x).space n (map kept xs) ≡ None) same.1 a.0) in
              absurd (none-some (kept i) (sym gone ∙ rest))
          | inr f ↦ rw f rest
        ]
  ]

  -- the list without it
  pub without_one : (xs : List ℕ) (i : ℕ) (ys : List ℕ) → Apart (map kept (xs ++ i ∷ ys)) → is_of space page (kept i) ≡ true
      → without (is_of space page) (map kept (xs ++ i ∷ ys)) ≡ map kept (xs ++ ys)
  without_one [] i ys a t = rw t refl
  without_one (x ∷ xs) i ys a t = elim (cases_Bool (is_of space page (kept x))) [
    | inl p ↦
        let same = is_of-same space page (kept x) p in
        let gone = subst (λ (s : Space). entry_in s page (map kept (xs ++ i ∷ ys)) ≡ None) same.0
        (subst (λ (n : ℕ). entry_in (kept x).space n (map kept (xs ++ i ∷ ys)) ≡ None) same.1 a.0) in
        absurd (none-some (kept i) (sym gone ∙ one_of (xs ++ i ∷ ys) i a.1 (omega (arith, times-append i xs (i ∷ ys), one i i refl)) t))
    | inr f ↦ rw f (ap (λ (ks : List Kept). kept x ∷ ks) (without_one xs i ys a.1 t))
  ]

  -- What a look into the chain of the page says of all entries.
  abbrev pub place : List ℕ → ℕ
  place live = first_of (λ at. is_of space page (kept at)) (chain (number_of kept) (chain_of space page) live)

  in_chain : (k : ℕ) → is_of space page (kept k) ≡ true → number_of kept k ≡ chain_of space page
  in_chain k t = let same = is_of-same space page (kept k) t in ap (λ (s : Space). chain_of s (kept k).page) same.0 ∙ ap (chain_of space) same.1

  pub place-none : (live : List ℕ) → ((k : ℕ) → 0 < times k live → k < 256) → place live ≡ 256 → entry_in space page (map kept live) ≡ None
  place-none live low e = none_of live (λ k h. elim (cases_Bool (is_of space page (kept k))) [
    | inl t ↦
        let c = chain (number_of kept) (chain_of space page) live in
        first-none (λ at. is_of space page (kept at)) c (λ n l. low n (omega (arith, l, times-chain (number_of kept) (chain_of space page) n live))) e k
        (omega (arith, h, times-here (number_of kept) (chain_of space page) k live (in_chain k t)))
    | inr f ↦ f
  ])

  pub place-some : (live : List ℕ) → Apart (map kept live) → place live ≢ 256
      → (entry_in space page (map kept live) ≡ Some (kept (place live))) × (is_of space page (kept (place live)) ≡ true) × (0 < times (place live) live)
  place-some live a d =
      let s = first-some (λ at. is_of space page (kept at)) (chain (number_of kept) (chain_of space page) live) d in
      let h : 0 < times (place live) live = omega (arith, s.1, times-chain (number_of kept) (chain_of space page) (place live) live) in
      (one_of live (place live) a h s.0, s.0, h)

pub any-none : (p : Kept → Bool) (ks : List Kept) → find p ks ≡ None → list_any p ks ≡ false
any-none p [] h = refl
any-none p (k ∷ ks) h = elim (cases_Bool (p k)) [
  | inl t ↦ absurd (none-some k (sym h ∙ rw t refl))
  | inr f ↦ rw f (any-none p ks (sym (rw f refl) ∙ h))
]

pub any-some : (p : Kept → Bool) (ks : List Kept) (k : Kept) → find p ks ≡ Some k → list_any p ks ≡ true
any-some p [] k h = absurd (none-some k h)
any-some p (e ∷ ks) k h = elim (cases_Bool (p e)) [
  | inl t ↦ rw t refl
  | inr f ↦ rw f (any-some p ks k (sym (rw f refl) ∙ h))
]
