-- Live and free nodes, when one is unlinked and when one is pushed.
use Rattle.std.proofs.Common.{◌≡◌, ◌≢◌, ◌⊎◌, ◌∙◌, ℕ, ◌+◌, ◌≤◌, ◌<◌, true, false, cond, List, [], ◌∷◌, ◌++◌}
use Rattle.std.proofs.Common.{ap, sym, subst, refl, arith, inl, inr, append_assoc, length-append}
use Rattle.std.specs.Prelude.{nat_lt}
use Rattle.std.proofs.lemmas.Bool.{cases_eq, cases_lt}
use Rattle.std.proofs.lemmas.Bool.Decides.{nat_tests}
use Rattle.vm_tlb.specs.Chains.{chain, before, Linked}
use Rattle.law_links.specs.Paths.{updated, IsPath, times}
use Rattle.law_links.proofs.Paths.{updated_same, updated_other, one, none, times-append, last, last_in, path-kept, path-split, path-end, path-skip, path-front, path-last}
use Rattle.vm_tlb.proofs.Paths.{before_is}
use Rattle.vm_tlb.proofs.Paths.{chain-append, chain-here, chain-elsewhere, times-elsewhere, times-chain, chain-kept}
use Rattle.law_links.proofs.Paths.{newer_in}

-- each node is there once, and there are no others
pub counts : (live free : List ℕ) → ((at : ℕ) → times at live + times at free ≡ cond (nat_lt at 256) 1 0) → (at : ℕ)
    → (times at live + times at free ≤ 1) × (0 < times at live + times at free → at < 256)
counts live free each at = elim (cases_lt at 256) [
  | inl l ↦ let b : nat_lt at 256 ≡ true = grind (arith, nat_tests) in let e = each at in (omega (arith, rw b at e), λ h. l)
  | inr g ↦ let b : nat_lt at 256 ≡ false = grind (arith, nat_tests) in let e = each at in (omega (arith, rw b at e), λ h. absurd (omega (arith, rw b at e, h)))
]

module _ (newer older next of : ℕ → ℕ) (live free : List ℕ) (linked : Linked newer older next of live free) where
  pub once : (at : ℕ) → times at live + times at free ≤ 1
  once at = (counts live free linked.each at).0

  pub inside : (at : ℕ) → 0 < times at live + times at free → at < 256
  inside at = (counts live free linked.each at).1

  -- no root is a node
  pub no_root : (at : ℕ) → 256 ≤ at → times at live + times at free ≡ 0
  no_root at h = elim (cases_lt 0 (times at live + times at free)) [ inl s ↦ absurd (omega (arith, inside at s, h)) | inr z ↦ omega (arith, z) ]

  -- no node comes twice in the ring, in a chain or among the free ones, with their roots
  pub ring_once : (at : ℕ) → times at (256 ∷ live) ≤ 1
  ring_once at = elim (cases_eq 256 at) [
    | inl e ↦ omega (arith, one 256 at e, no_root at (omega (arith, e)))
    | inr d ↦ omega (arith, none 256 at d, once at)
  ]

  pub chain_once : (root number at : ℕ) → 256 ≤ root → times at (root ∷ chain of number live) ≤ 1
  chain_once root number at h = elim (cases_eq root at) [
    | inl e ↦ omega (arith, one root at e, no_root at (omega (arith, e, h)), times-chain of number at live)
    | inr d ↦ omega (arith, none root at d, once at, times-chain of number at live)
  ]

  pub free_once : (root at : ℕ) → 256 ≤ root → times at (root ∷ free) ≤ 1
  free_once root at h = elim (cases_eq root at) [
    | inl e ↦ omega (arith, one root at e, no_root at (omega (arith, e, h)))
    | inr d ↦ omega (arith, none root at d, once at)
  ]

  -- the newest
  pub newest_is : older 256 ≡ last 256 live
  newest_is = ap older (sym (path-end newer 256 live 256 linked.ring)) ∙ linked.back (last 256 live) (last_in 256 live)

-- where the ring of all live nodes and the chain of a node skip it
module _ (newer older next of : ℕ → ℕ) (xs : List ℕ) (x : ℕ) (ys free : List ℕ) (linked : Linked newer older next of (xs ++ x ∷ ys) free)
    (low : of x < 64) where
  here : 0 < times x (xs ++ x ∷ ys)
  here = omega (arith, times-append x xs (x ∷ ys), one x x refl)

  pub node_inside : x < 256
  node_inside = inside newer older next of (xs ++ x ∷ ys) free linked x (omega (arith, here))

  not_elsewhere : (times x xs ≡ 0) × (times x ys ≡ 0) × (times x free ≡ 0)
  not_elsewhere =
      let o = once newer older next of (xs ++ x ∷ ys) free linked x in
      let a = times-append x xs (x ∷ ys) in
      let i = one x x refl in
      (omega (arith, o, a, i), omega (arith, o, a, i), omega (arith, o, a, i))

  pub older_is : older x ≡ last 256 xs
  older_is =
      let s = path-split newer 256 xs x ys 256 linked.ring in
      ap older (sym (path-end newer 256 xs x s.0))
      ∙ linked.back (last 256 xs) (omega (arith, last_in 256 xs, times-append (last 256 xs) xs (x ∷ ys)))

  ring' : IsPath (updated newer (older x) (newer x)) 256 (xs ++ ys) 256
  ring' = rw older_is (path-skip newer 256 xs x ys 256 (ring_once newer older next of (xs ++ x ∷ ys) free linked) linked.ring)

  back' : (at : ℕ) → 0 < times at (256 ∷ (xs ++ ys)) → updated older (newer x) (older x) (updated newer (older x) (newer x) at) ≡ at
  back' at h =
      let was : 0 < times at (256 ∷ (xs ++ x ∷ ys)) = omega (arith, h, times-append at xs ys, times-append at xs (x ∷ ys)) in
      let there = linked.back x (omega (arith, here)) in
      elim (cases_eq at (older x)) [
        | inl e ↦
            ap (λ (n : ℕ). updated older (newer x) (older x) (updated newer (older x) (newer x) n)) e
            ∙ ap (updated older (newer x) (older x)) (updated_same newer (older x) (newer x))
            ∙ updated_same older (newer x) (older x) ∙ sym e
        | inr d ↦
            let differs : at ≢ x = λ e. absurd (omega (
              arith,
              subst (λ (n : ℕ). 0 < times n (256 ∷ (xs ++ ys))) e h,
              times-append x xs ys,
              not_elsewhere.0,
              not_elsewhere.1,
              none 256 x (λ r. absurd (omega (arith, r, node_inside))),
            )) in
            let apart : newer at ≢ newer x = λ e. differs (sym (linked.back at was) ∙ ap older e ∙ there) in
            ap (updated older (newer x) (older x)) (updated_other newer (older x) (newer x) at d)
            ∙ updated_other older (newer x) (older x) (newer at) apart
            ∙ linked.back at was
      ]

  abbrev pub p : ℕ
  p = before x (256 + of x) (chain of (of x) (xs ++ x ∷ ys))

  -- the chain of the node
  parts : chain of (of x) (xs ++ x ∷ ys) ≡ chain of (of x) ys ++ x ∷ chain of (of x) xs
  parts =
      chain-append of (of x) xs (x ∷ ys)
      ∙ ap (λ (zs : List ℕ). zs ++ chain of (of x) xs) (chain-here of (of x) x ys refl)
      ∙ append_assoc (chain of (of x) ys) (x ∷ []) (chain of (of x) xs)

  p_is : p ≡ last (256 + of x) (chain of (of x) ys)
  p_is =
      ap (before x (256 + of x)) parts
      ∙ before_is x (256 + of x) (chain of (of x) ys) (chain of (of x) xs) (omega (arith, times-chain of (of x) x ys, not_elsewhere.1))

  p_in : 0 < times p ((256 + of x) ∷ chain of (of x) ys)
  p_in = subst (λ (n : ℕ). 0 < times n ((256 + of x) ∷ chain of (of x) ys)) (sym p_is) (last_in (256 + of x) (chain of (of x) ys))

  -- it is the root of its chain, or a live node of it
  p_cases : (p ≡ 256 + of x) ⊎ ((of p ≡ of x) × (0 < times p ys))
  p_cases = elim (cases_eq (256 + of x) p) [
    | inl e ↦ inl (sym e)
    | inr d ↦ elim (cases_eq (of p) (of x)) [
      | inl e ↦ inr (e, omega (arith, p_in, none (256 + of x) p d, times-chain of (of x) p ys))
      | inr o ↦ absurd (omega (arith, p_in, none (256 + of x) p d, times-elsewhere of (of x) p ys o))
    ]
  ]

  -- it is neither free nor the root of the free nodes
  p_not_free : (p ≢ 320) × (times p free ≡ 0)
  p_not_free = elim p_cases [
    | inl e ↦ (λ f. absurd (omega (arith, e, f, low)), omega (arith, no_root newer older next of (xs ++ x ∷ ys) free linked p (omega (arith, e))))
    | inr n ↦
        let a = times-append p xs (x ∷ ys) in (
          λ f. absurd (omega (arith, f, n.1, a, inside newer older next of (xs ++ x ∷ ys) free linked p (omega (arith, n.1, a)))),
          omega (arith, n.1, a, once newer older next of (xs ++ x ∷ ys) free linked p),
        )
  ]

  abbrev pub next' : ℕ → ℕ
  next' = updated (updated (updated next p (next x)) x (updated next p (next x) 320)) 320 x

  -- the two other writes change no chain
  chain_left : (number : ℕ) → number < 64 → IsPath (updated next p (next x)) (256 + number) (chain of number (xs ++ ys)) 256
      → IsPath next' (256 + number) (chain of number (xs ++ ys)) 256
  chain_left number h path =
      let root = no_root newer older next of (xs ++ x ∷ ys) free linked 320 (omega arith) in
      path-kept (updated (updated next p (next x)) x (updated next p (next x) 320)) 320 x (256 + number) (chain of number (xs ++ ys)) 256
      (λ e. absurd (omega (arith, e, h))) (omega (arith, root, times-chain of number 320 (xs ++ ys), times-append 320 xs ys, times-append 320 xs (x ∷ ys)))
      (path-kept (updated next p (next x)) x (updated next p (next x) 320) (256 + number) (chain of number (xs ++ ys)) 256
      (λ e. absurd (omega (arith, e, node_inside)))
      (omega (arith, times-chain of number x (xs ++ ys), times-append x xs ys, not_elsewhere.0, not_elsewhere.1)) path)

  chain_own : IsPath (updated next p (next x)) (256 + of x) (chain of (of x) (xs ++ ys)) 256
  chain_own =
      rw (chain-append of (of x) xs ys, p_is)
      (path-skip next (256 + of x) (chain of (of x) ys) x (chain of (of x) xs) 256
      (λ n. rw (← parts) (chain_once newer older next of (xs ++ x ∷ ys) free linked (256 + of x) (of x) n (omega arith)))
      (rw parts at (linked.chains (of x) low)))

  same_chain : (number : ℕ) → number ≢ of x → chain of number (xs ++ x ∷ ys) ≡ chain of number (xs ++ ys)
  same_chain number d =
      chain-append of number xs (x ∷ ys)
      ∙ ap (λ (zs : List ℕ). zs ++ chain of number xs) (chain-elsewhere of number x ys (λ e. d (sym e)))
      ∙ sym (chain-append of number xs ys)

  chain_other : (number : ℕ) → number < 64 → number ≢ of x → IsPath (updated next p (next x)) (256 + number) (chain of number (xs ++ ys)) 256
  chain_other number h d =
      let a = times-append p xs (x ∷ ys) in
      let b = times-append p xs ys in
      let c = times-chain of number p (xs ++ ys) in
      let q : (256 + number ≢ p) × (times p (chain of number (xs ++ ys)) ≡ 0) = elim p_cases [
        | inl e ↦ (λ f. d (omega (arith, e, f)), omega (arith, a, b, c, no_root newer older next of (xs ++ x ∷ ys) free linked p (omega (arith, e))))
        | inr n ↦ (
          λ f. absurd (omega (arith, f, n.1, a, inside newer older next of (xs ++ x ∷ ys) free linked p (omega (arith, n.1, a)))),
          times-elsewhere of number p (xs ++ ys) (λ e. d (sym e ∙ n.0)),
        )
      ] in
      path-kept next p (next x) (256 + number) (chain of number (xs ++ ys)) 256 q.0 q.1 (rw (same_chain number d) at (linked.chains number h))

  pub unlinked : Linked (updated newer (older x) (newer x)) (updated older (newer x) (older x))
      (updated (updated (updated next p (next x)) x (updated next p (next x) 320)) 320 x) of (xs ++ ys) (x ∷ free)
  unlinked = record {
    ring = ring';
    back = back';
    chains = λ number h. chain_left number h (elim (cases_eq number (of x)) [
      | inl e ↦ subst (λ (n : ℕ). IsPath (updated next p (next x)) (256 + n) (chain of n (xs ++ ys)) 256) (sym e) chain_own
      | inr d ↦ chain_other number h d
    ]);
    rest = path-front (updated next p (next x)) 320 free 256 x (λ e. absurd (omega (arith, e, node_inside)))
        (omega (arith, no_root newer older next of (xs ++ x ∷ ys) free linked 320 (omega arith))) not_elsewhere.2
        (path-kept next p (next x) 320 free 256 (λ e. p_not_free.0 (sym e)) p_not_free.1 linked.rest);
    each = λ at. omega (arith, linked.each at, times-append at xs ys, times-append at xs (x ∷ ys));
    all = omega (arith, linked.all, length-append xs ys, length-append xs (x ∷ ys));
  }

-- what is in the ring or its root is at most 256
pub ring_low : (newer older next of : ℕ → ℕ) (live free : List ℕ) (linked : Linked newer older next of live free) (at : ℕ) → 0 < times at (256 ∷ live)
    → at ≤ 256
ring_low newer older next of live free linked at h = elim (cases_eq 256 at) [
  | inl e ↦ omega (arith, e)
  | inr d ↦ omega (arith, inside newer older next of live free linked at (omega (arith, h, none 256 at d)))
]

-- the neighbours of a live node
pub neighbours : (newer older next of : ℕ → ℕ) (xs : List ℕ) (x : ℕ) (ys free : List ℕ) (linked : Linked newer older next of (xs ++ x ∷ ys) free)
    (low : of x < 64)
    → (newer x ≤ 256) × (older x ≤ 256)
neighbours newer older next of xs x ys free linked low =
    let here : 0 < times x (256 ∷ (xs ++ x ∷ ys)) = omega (arith, times-append x xs (x ∷ ys), one x x refl) in
    let l = last_in 256 xs in
    let there : 0 < times (last 256 xs) (256 ∷ (xs ++ x ∷ ys)) = omega (arith, l, times-append (last 256 xs) xs (x ∷ ys)) in (
      ring_low newer older next of (xs ++ x ∷ ys) free linked (newer x) (newer_in newer 256 (xs ++ x ∷ ys) 256 x here linked.ring),
      omega (arith, older_is newer older next of xs x ys free linked low, ring_low newer older next of (xs ++ x ∷ ys) free linked (last 256 xs) there),
    )

-- where a free node becomes the newest, with its number changed
module _ (newer older next of of' : ℕ → ℕ) (live : List ℕ) (n : ℕ) (free : List ℕ) (linked : Linked newer older next of live (n ∷ free))
    (same : (k : ℕ) → k ≢ n → of' k ≡ of k) (low : of' n < 64) where
  free_once_here : (times n live ≡ 0) × (times n free ≡ 0)
  free_once_here =
      let o = once newer older next of live (n ∷ free) linked n in
      let i = one n n refl in
      (omega (arith, o, i), omega (arith, o, i))

  pub free_inside : n < 256
  free_inside = inside newer older next of live (n ∷ free) linked n (omega (arith, one n n refl))

  no_node : (at : ℕ) → 256 ≤ at → (times at live ≡ 0) × (times at free ≡ 0)
  no_node at h = let z = no_root newer older next of live (n ∷ free) linked at h in (omega (arith, z), omega (arith, z))

  last_is : older 256 ≡ last 256 live
  last_is = newest_is newer older next of live (n ∷ free) linked

  pushed_ring : IsPath (updated (updated newer (older 256) n) n 256) 256 (live ++ n ∷ []) 256
  pushed_ring = rw last_is (path-last newer 256 live 256 n (ring_once newer older next of live (n ∷ free) linked)
      (λ e. absurd (omega (arith, e, free_inside))) free_once_here.0 linked.ring)

  newest_in : 0 < times (older 256) (256 ∷ live)
  newest_in = subst (λ (m : ℕ). 0 < times m (256 ∷ live)) (sym last_is) (last_in 256 live)

  newest_other : older 256 ≢ n
  newest_other e = absurd
      (omega (arith, subst (λ (m : ℕ). 0 < times m (256 ∷ live)) e newest_in, free_once_here.0, none 256 n (λ r. absurd (omega (arith, r, free_inside)))))

  pushed_back : (at : ℕ) → 0 < times at (256 ∷ (live ++ n ∷ []))
      → updated (updated older n (older 256)) 256 n (updated (updated newer (older 256) n) n 256 at) ≡ at
  pushed_back at h =
      let g = updated (updated newer (older 256) n) n 256 in
      let k = updated older n (older 256) in
      let root : n ≢ 256 = λ e. absurd (omega (arith, e, free_inside)) in
      elim (cases_eq at n) [
        | inl e ↦
            ap (λ (m : ℕ). updated k 256 n (g m)) e
            ∙ ap (updated k 256 n) (updated_same (updated newer (older 256) n) n 256)
            ∙ updated_same k 256 n ∙ sym e
        | inr d ↦ elim (cases_eq at (older 256)) [
          | inl e ↦
              ap (λ (m : ℕ). updated k 256 n (g m)) e
              ∙ ap (updated k 256 n) (updated_other (updated newer (older 256) n) n 256 (older 256) newest_other ∙ updated_same newer (older 256) n)
              ∙ updated_other k 256 n n root ∙ updated_same older n (older 256) ∙ sym e
          | inr o ↦
              let was : 0 < times at (256 ∷ live) = omega (arith, h, times-append at live (n ∷ []), none n at (λ e. d (sym e))) in
              let undone = linked.back at was in
              let not_root : newer at ≢ 256 = λ e. o (sym undone ∙ ap older e) in
              let not_n : newer at ≢ n = λ e. absurd (omega (
                arith,
                free_once_here.0,
                subst (λ (m : ℕ). 0 < times m (256 ∷ live)) e
                    (newer_in newer 256 live 256 at was linked.ring),
                none 256 n (λ r. root (sym r)),
              )) in
              ap (updated k 256 n) (updated_other (updated newer (older 256) n) n 256 at d ∙ updated_other newer (older 256) n at o)
              ∙ updated_other k 256 n (newer at) not_root
              ∙ updated_other older n (older 256) (newer at) not_n
              ∙ undone
        ]
      ]

  abbrev pub popped : ℕ → ℕ
  popped = updated next 320 (next n)

  abbrev pub chained : ℕ → ℕ
  chained = updated (updated popped n (popped (256 + of' n))) (256 + of' n) n

  same_live : (number : ℕ) → chain of' number live ≡ chain of number live
  same_live number = chain-kept of number of' live (λ k h. same k (λ e. absurd (omega (arith, subst (λ (m : ℕ). 0 < times m live) e h, free_once_here.0))))

  popped_chain : (number : ℕ) → number < 64 → IsPath popped (256 + number) (chain of' number live) 256
  popped_chain number h =
      rw (same_live number) (path-kept next 320 (next n) (256 + number) (chain of number live) 256 (λ e. absurd (omega (arith, e, h)))
      (omega (arith, times-chain of number 320 live, (no_node 320 (omega arith)).0)) (linked.chains number h))

  -- the chain of the new entry, and the others
  pushed_own : IsPath chained (256 + of' n) (chain of' (of' n) (live ++ n ∷ [])) 256
  pushed_own =
      let z = times-chain of' (of' n) n live in
      let r = times-chain of' (of' n) (256 + of' n) live in
      rw (chain-append of' (of' n) live (n ∷ []), chain-here of' (of' n) n [] refl)
      (path-front popped (256 + of' n) (chain of' (of' n) live) 256 n (λ e. absurd (omega (arith, e, free_inside)))
      (omega (arith, r, (no_node (256 + of' n) (omega arith)).0)) (omega (arith, z, free_once_here.0)) (popped_chain (of' n) low))

  pushed_other : (number : ℕ) → number < 64 → number ≢ of' n → IsPath chained (256 + number) (chain of' number (live ++ n ∷ [])) 256
  pushed_other number h d =
      let z = times-chain of' number n live in
      let r = times-chain of' number (256 + of' n) live in
      rw (chain-append of' number live (n ∷ []), chain-elsewhere of' number n [] (λ e. d (sym e)))
      (path-kept (updated popped n (popped (256 + of' n))) (256 + of' n) n (256 + number) (chain of' number live) 256
      (λ e. d (omega (arith, e))) (omega (arith, r, (no_node (256 + of' n) (omega arith)).0))
      (path-kept popped n (popped (256 + of' n)) (256 + number) (chain of' number live) 256
      (λ e. absurd (omega (arith, e, free_inside))) (omega (arith, z, free_once_here.0)) (popped_chain number h)))

  pushed_rest : IsPath chained 320 free 256
  pushed_rest =
      path-kept (updated popped n (popped (256 + of' n))) (256 + of' n) n 320 free 256
      (λ e. absurd (omega (arith, e, low))) (no_node (256 + of' n) (omega arith)).1
      (path-kept popped n (popped (256 + of' n)) 320 free 256 (λ e. absurd (omega (arith, e, free_inside))) free_once_here.1
      (path-skip next 320 [] n free 256 (λ m. free_once newer older next of live (n ∷ free) linked 320 m (omega arith)) linked.rest))

  pub pushed : Linked (updated (updated newer (older 256) n) n 256) (updated (updated older n (older 256)) 256 n) chained of' (live ++ n ∷ []) free
  pushed = record {
    ring = pushed_ring;
    back = pushed_back;
    chains = λ number h. elim (cases_eq number (of' n)) [
      | inl e ↦ subst (λ (m : ℕ). IsPath chained (256 + m) (chain of' m (live ++ n ∷ [])) 256) (sym e) pushed_own
      | inr d ↦ pushed_other number h d
    ];
    rest = pushed_rest;
    each = λ at. omega (arith, linked.each at, times-append at live (n ∷ []));
    all = omega (arith, linked.all, length-append live (n ∷ []));
  }
