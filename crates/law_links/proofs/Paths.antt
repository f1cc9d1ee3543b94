-- Paths of links, and what a write leaves of them.
use Rattle.std.proofs.Common.{◌≡◌, ◌≢◌, ◌∙◌, ℕ, zero, suc, ◌+◌, ◌≤◌, ◌<◌, ◌==◌, Bool, true, false, cond, List, [], ◌∷◌, ◌++◌, length}
use Rattle.std.proofs.Common.{ap, sym, subst, refl, arith, inl, inr, append-nil}
use Rattle.std.specs.Prelude.{nat_lt}
use Rattle.std.proofs.lemmas.Bool.{cases_eq}
use Rattle.std.proofs.lemmas.Bool.Decides.{nat_tests}
use Rattle.law_links.specs.Paths.{updated, IsPath, walk, times}

pub updated_same : {T : Type 0} (f : ℕ → T) (at : ℕ) (to : T) → updated f at to at ≡ to
updated_same f at to = let b : (at == at) ≡ true = grind (arith, nat_tests) in ap (λ (b : Bool). cond b to (f at)) b

pub updated_other : {T : Type 0} (f : ℕ → T) (at : ℕ) (to : T) (n : ℕ) → n ≢ at → updated f at to n ≡ f n
updated_other f at to n d = let b : (n == at) ≡ false = grind (arith, nat_tests) in ap (λ (b : Bool). cond b to (f n)) b

pub one : (x n : ℕ) → x ≡ n → ◌≡◌ {A = ℕ} (cond (x == n) 1 0) 1
one x n e = let b : (x == n) ≡ true = grind (arith, nat_tests) in ap (λ (b : Bool). cond b 1 0) b

pub none : (x n : ℕ) → x ≢ n → ◌≡◌ {A = ℕ} (cond (x == n) 1 0) 0
none x n d = let b : (x == n) ≡ false = grind (arith, nat_tests) in ap (λ (b : Bool). cond b 1 0) b

-- a number that is not in a list is not its first one
pub not_first : (n x : ℕ) (xs : List ℕ) → times n (x ∷ xs) ≡ 0 → x ≢ n
not_first n x xs z e = absurd (omega (arith, one x n e))

pub times-append : (n : ℕ) (xs ys : List ℕ) → times n (xs ++ ys) ≡ times n xs + times n ys
times-append n [] ys = omega arith
times-append n (x ∷ xs) ys = omega (arith, times-append n xs ys)

-- the last of a list that begins with a root
abbrev pub last : ℕ → List ℕ → ℕ
last from [] = from
last from (x ∷ xs) = last x xs

pub last_in : (from : ℕ) (xs : List ℕ) → 0 < times (last from xs) (from ∷ xs)
last_in from [] = omega (arith, one from from refl)
last_in from (x ∷ xs) = omega (arith, last_in x xs)

module _ (f : ℕ → ℕ) where
  pub path-kept : (k v from : ℕ) (xs : List ℕ) (to : ℕ) → from ≢ k → times k xs ≡ 0 → IsPath f from xs to → IsPath (updated f k v) from xs to
  path-kept k v from [] to d z p = updated_other f k v from d ∙ p
  path-kept k v from (x ∷ xs) to d z p =
      (updated_other f k v from d ∙ p.0, path-kept k v x xs to (not_first k x xs z) (omega (arith, z)) p.1)

  pub path-split : (from : ℕ) (xs : List ℕ) (x : ℕ) (ys : List ℕ) (to : ℕ) → IsPath f from (xs ++ x ∷ ys) to → IsPath f from xs x × IsPath f x ys to
  path-split from [] x ys to p = (p.0, p.1)
  path-split from (z ∷ xs) x ys to p = let s = path-split z xs x ys to p.1 in ((p.0, s.0), s.1)

  pub path-join : (from : ℕ) (xs : List ℕ) (x : ℕ) (ys : List ℕ) (to : ℕ) → IsPath f from xs x → IsPath f x ys to → IsPath f from (xs ++ x ∷ ys) to
  path-join from [] x ys to p q = (p, q)
  path-join from (z ∷ xs) x ys to p q = (p.0, path-join z xs x ys to p.1 q)

  pub path-end : (from : ℕ) (xs : List ℕ) (to : ℕ) → IsPath f from xs to → f (last from xs) ≡ to
  path-end from [] to p = p
  path-end from (x ∷ xs) to p = path-end x xs to p.1

  -- a path with its end turned elsewhere
  pub path-turn : (from : ℕ) (xs : List ℕ) (to v : ℕ) → ((n : ℕ) → times n (from ∷ xs) ≤ 1) → IsPath f from xs to
      → IsPath (updated f (last from xs) v) from xs v
  path-turn from [] to v once p = updated_same f from v
  path-turn from (x ∷ xs) to v once p =
      let apart : from ≢ last x xs = λ e. absurd (omega (arith, once (last x xs), last_in x xs, one from (last x xs) e)) in
      (updated_other f (last x xs) v from apart ∙ p.0, path-turn x xs to v (λ n. omega (arith, once n)) p.1)

-- a node is skipped
pub path-skip : (f : ℕ → ℕ) (from : ℕ) (xs : List ℕ) (x : ℕ) (ys : List ℕ) (to : ℕ) → ((n : ℕ) → times n (from ∷ (xs ++ x ∷ ys)) ≤ 1)
    → IsPath f from (xs ++ x ∷ ys) to
    → IsPath (updated f (last from xs) (f x)) from (xs ++ ys) to
path-skip f from xs x [] to once p =
    let s = path-split f from xs x [] to p in
    let t = path-turn f from xs x (f x) (λ n. omega (arith, once n, times-append n xs (x ∷ []))) s.0 in
    rw (append-nil xs) (subst (λ (m : ℕ). IsPath (updated f (last from xs) (f x)) from xs m) s.1 t)
path-skip f from xs x (y ∷ ys) to once p =
    let s = path-split f from xs x (y ∷ ys) to p in
    let k = last from xs in
    let gone : times k (y ∷ ys) ≡ 0 = omega (arith, once k, last_in from xs, times-append k xs (x ∷ y ∷ ys)) in
    let t = path-turn f from xs x (f x) (λ n. omega (arith, once n, times-append n xs (x ∷ y ∷ ys))) s.0 in
    path-join (updated f k (f x)) from xs y ys to
    (subst (λ (m : ℕ). IsPath (updated f k (f x)) from xs m) s.1.0 t)
    (path-kept f k (f x) y ys to (not_first k y ys gone) (omega (arith, gone)) s.1.1)

-- a node comes first
pub path-front : (f : ℕ → ℕ) (root : ℕ) (xs : List ℕ) (to n : ℕ) → n ≢ root → times root xs ≡ 0 → times n xs ≡ 0 → IsPath f root xs to
    → IsPath (updated (updated f n (f root)) root n) root (n ∷ xs) to
path-front f root [] to n d r z p =
    (updated_same (updated f n (f root)) root n, updated_other (updated f n (f root)) root n n d ∙ updated_same f n (f root) ∙ p)
path-front f root (x ∷ xs) to n d r z p =
    let g = updated f n (f root) in (
      updated_same g root n,
      (
        updated_other g root n n d ∙ updated_same f n (f root) ∙ p.0,
        path-kept g root n x xs to (not_first root x xs r) (omega (arith, r)) (path-kept f n (f root) x xs to (not_first n x xs z) (omega (arith, z)) p.1),
      ),
    )

-- a node comes last
pub path-last : (f : ℕ → ℕ) (root : ℕ) (xs : List ℕ) (to n : ℕ) → ((m : ℕ) → times m (root ∷ xs) ≤ 1) → root ≢ n → times n xs ≡ 0 → IsPath f root xs to
    → IsPath (updated (updated f (last root xs) n) n to) root (xs ++ n ∷ []) to
path-last f root xs to n once d z p =
    let g = updated f (last root xs) n in
    path-join (updated g n to) root xs n [] to (path-kept g n to root xs n d z (path-turn f root xs to n once p)) (updated_same g n to)

-- a path that stays below the end is what its walk meets
pub path-walk : (end : ℕ) (f : ℕ → ℕ) (from : ℕ) (xs : List ℕ) (n : ℕ) → ((k : ℕ) → 0 < times k xs → k < end) → length xs ≤ n → IsPath f from xs end
    → walk end f n (f from) ≡ xs
unfolding walk
path-walk end f from [] zero low few p = refl
path-walk end f from [] (suc n) low few p = let b : nat_lt end end ≡ false = grind (arith, nat_tests) in rw (p, b) refl
path-walk end f from (x ∷ xs) zero low few p = absurd (omega (arith, few))
path-walk end f from (x ∷ xs) (suc n) low few p =
    let l : x < end = low x (omega (arith, one x x refl)) in
    let b : nat_lt x end ≡ true = grind (arith, nat_tests) in
    rw (p.0, b) (ap (λ (ys : List ℕ). x ∷ ys) (path-walk end f x xs n (λ k h. low k (omega (arith, h))) (omega (arith, few)) p.1))

first_step : (f : ℕ → ℕ) (from : ℕ) (xs : List ℕ) (to at : ℕ) → from ≡ at → IsPath f from xs to → 0 < times (f at) (to ∷ xs)
first_step f from [] to at e p = omega (arith, one to (f at) (sym p ∙ ap f e))
first_step f from (x ∷ xs) to at e p = omega (arith, one x (f at) (sym p.0 ∙ ap f e))

later_step : (f : ℕ → ℕ) (from : ℕ) (xs : List ℕ) (to at : ℕ) → 0 < times at xs → IsPath f from xs to → 0 < times (f at) (to ∷ xs)
later_step f from [] to at h p = absurd (omega (arith, h))
later_step f from (x ∷ xs) to at h p = elim (cases_eq x at) [
  | inl e ↦ omega (arith, first_step f x xs to at e p.1)
  | inr d ↦ omega (arith, later_step f x xs to at (omega (arith, h, none x at d)) p.1)
]

-- where a path leads from one of its places
pub newer_in : (f : ℕ → ℕ) (from : ℕ) (xs : List ℕ) (to at : ℕ) → 0 < times at (from ∷ xs) → IsPath f from xs to → 0 < times (f at) (to ∷ xs)
newer_in f from xs to at h p = elim (cases_eq from at) [
  | inl e ↦ first_step f from xs to at e p
  | inr d ↦ later_step f from xs to at (omega (arith, h, none from at d)) p
]
