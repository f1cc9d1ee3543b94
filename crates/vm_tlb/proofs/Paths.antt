-- Paths of links, and what a write leaves of them.
use Rattle.std.proofs.Common.{◌≡◌, ◌≢◌, ◌∙◌, ℕ, ◌≤◌, ◌<◌, ◌==◌, true, false, cond, List, [], ◌∷◌, ◌++◌}
use Rattle.std.proofs.Common.{ap, sym, refl, arith, inl, inr, append-nil, append_assoc}
use Rattle.std.proofs.lemmas.Bool.{cases_eq}
use Rattle.std.proofs.lemmas.Bool.Decides.{nat_tests}
use Rattle.vm_tlb.specs.Chains.{chain, before}
use Rattle.law_links.specs.Paths.{times}
use Rattle.law_links.proofs.Paths.{one, none, not_first, times-append, last}

pub before_is : (at from : ℕ) (xs ys : List ℕ) → times at xs ≡ 0 → before at from (xs ++ at ∷ ys) ≡ last from xs
before_is at from [] ys z = let b : (at == at) ≡ true = grind (arith, nat_tests) in rw b refl
before_is at from (x ∷ xs) ys z =
    let d = not_first at x xs z in
    let b : (x == at) ≡ false = grind (arith, nat_tests) in
    rw b (before_is at x xs ys (omega (arith, z)))

module _ (of : ℕ → ℕ) (number : ℕ) where
  pub chain-append : (xs ys : List ℕ) → chain of number (xs ++ ys) ≡ chain of number ys ++ chain of number xs
  chain-append [] ys = sym (append-nil (chain of number ys))
  chain-append (x ∷ xs) ys =
      let e = cond (of x == number) (x ∷ []) [] in
      ap (λ (zs : List ℕ). zs ++ e) (chain-append xs ys) ∙ append_assoc (chain of number ys) (chain of number xs) e

  pub chain-here : (x : ℕ) (xs : List ℕ) → of x ≡ number → chain of number (x ∷ xs) ≡ chain of number xs ++ x ∷ []
  chain-here x xs e = let b : (of x == number) ≡ true = grind (arith, nat_tests) in rw b refl

  pub chain-elsewhere : (x : ℕ) (xs : List ℕ) → of x ≢ number → chain of number (x ∷ xs) ≡ chain of number xs
  chain-elsewhere x xs d = let b : (of x == number) ≡ false = grind (arith, nat_tests) in rw b (append-nil (chain of number xs))

  -- a chain has the nodes of its number as often
  pub times-here : (n : ℕ) (xs : List ℕ) → of n ≡ number → times n (chain of number xs) ≡ times n xs
  times-here n [] e = refl
  times-here n (x ∷ xs) e = elim (cases_eq (of x) number) [
    | inl h ↦ rw (chain-here x xs h) (omega (arith, times-append n (chain of number xs) (x ∷ []), times-here n xs e))
    | inr d ↦
        let o : x ≢ n = λ i. d (ap of i ∙ e) in
        rw (chain-elsewhere x xs d) (omega (arith, none x n o, times-here n xs e))
  ]

  pub times-elsewhere : (n : ℕ) (xs : List ℕ) → of n ≢ number → times n (chain of number xs) ≡ 0
  times-elsewhere n [] e = refl
  times-elsewhere n (x ∷ xs) e = elim (cases_eq (of x) number) [
    | inl h ↦
        let o : x ≢ n = λ i. e (ap of (sym i) ∙ h) in
        rw (chain-here x xs h) (omega (arith, none x n o, times-append n (chain of number xs) (x ∷ []), times-elsewhere n xs e))
    | inr d ↦ rw (chain-elsewhere x xs d) (times-elsewhere n xs e)
  ]

  pub times-chain : (n : ℕ) (xs : List ℕ) → times n (chain of number xs) ≤ times n xs
  times-chain n xs = elim (cases_eq (of n) number) [ inl e ↦ omega (arith, times-here n xs e) | inr d ↦ omega (arith, times-elsewhere n xs d) ]

  pub chain-kept : (of' : ℕ → ℕ) (xs : List ℕ) → ((k : ℕ) → 0 < times k xs → of' k ≡ of k) → chain of' number xs ≡ chain of number xs
  chain-kept of' [] same = refl
  chain-kept of' (x ∷ xs) same =
      rw (same x (omega (arith, one x x refl)))
      (ap (λ (zs : List ℕ). zs ++ cond (of x == number) (x ∷ []) []) (chain-kept of' xs (λ k h. same k (omega (arith, h)))))
