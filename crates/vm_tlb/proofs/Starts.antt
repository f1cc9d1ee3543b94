-- All nodes free.
use Rattle.std.proofs.Common.{◌≡◌, ℕ, zero, suc, ◌∙◌, ◌+◌, ◌-◌, ◌≤◌, ◌<◌, true, false, List, [], ◌∷◌, length, ap, subst, refl, arith, inl}
use Rattle.std.proofs.Common.{inr, get_or, set, map}
use Rattle.std.specs.Prelude.{nat_lt}
use Rattle.std.proofs.lemmas.Bool.{cases_lt, cases_eq}
use Rattle.std.proofs.lemmas.Bool.Decides.{nat_tests}
use Rattle.std.proofs.lemmas.List.{get_or-set_same, get_or-set_other}
use Rattle.vm_tlb.specs.Chains.{Linked}
use Rattle.law_links.specs.Paths.{IsPath, times}
use Rattle.vm_tlb.specs.Links.{Links, links_of, number_of, no_node, entries, Sized, Sound, IsFreeBelow}
use Rattle.vm_tlb.specs.declared.nodes.Node.{Node}
use Rattle.vm_tlb.specs.declared.nodes.Nodes.{Nodes}
use Rattle.law_links.proofs.Paths.{one, none}
use Rattle.vm_tlb.proofs.Moves.{left}

-- so many numbers, from one on
unfoldable pub numbers : ℕ → ℕ → List ℕ
numbers at zero = []
numbers at (suc n) = at ∷ numbers (at + 1) n

length-numbers : (at n : ℕ) → length (numbers at n) ≡ n
unfolding numbers
length-numbers at zero = refl
length-numbers at (suc n) = omega (arith, length-numbers (at + 1) n)

times-below : (k at n : ℕ) → k < at → times k (numbers at n) ≡ 0
unfolding numbers
times-below k at zero h = refl
times-below k at (suc n) h = omega (arith, none at k (λ e. absurd (omega (arith, e, h))), times-below k (at + 1) n (omega (arith, h)))

times-above : (k at n : ℕ) → at + n ≤ k → times k (numbers at n) ≡ 0
unfolding numbers
times-above k at zero h = refl
times-above k at (suc n) h = omega (arith, none at k (λ e. absurd (omega (arith, e, h))), times-above k (at + 1) n (omega (arith, h)))

times-within : (k at n : ℕ) → at ≤ k → k < at + n → times k (numbers at n) ≡ 1
unfolding numbers
times-within k at zero l h = absurd (omega (arith, l, h))
times-within k at (suc n) l h = elim (cases_eq at k) [
  | inl e ↦ omega (arith, one at k e, times-below k (at + 1) n (omega (arith, e)))
  | inr d ↦ omega (arith, none at k d, times-within k (at + 1) n (omega (arith, l, d)) (omega (arith, h)))
]

path-numbers : (f : ℕ → ℕ) (from at n to : ℕ) → f from ≡ at → at + n ≡ to → ((k : ℕ) → at ≤ k → k < to → f k ≡ k + 1) → IsPath f from (numbers at n) to
unfolding numbers
path-numbers f from at zero to e end up = omega (arith, e, end)
path-numbers f from at (suc n) to e end up =
    (e, path-numbers f at (at + 1) n to (up at (omega arith) (omega (arith, end))) (omega (arith, end)) (λ k l h. up k (omega (arith, l)) h))

-- one more node is put before the next
pub free_more : (nodes : List Node) (at : ℕ) (node : Node) → at < length nodes → node.next ≡ at + 1 → IsFreeBelow at nodes
    → IsFreeBelow (at + 1) (set nodes at node)
free_more nodes at node within is below k h = elim (cases_eq k at) [
  | inl e ↦ rw e (ap (λ (n : Node). n.next) (get_or-set_same nodes at node no_node within) ∙ is)
  | inr d ↦ ap (λ (n : Node). n.next) (get_or-set_other nodes at k node no_node d) ∙ below k (omega (arith, h, d))
]

module _ (t : Nodes) (sized : Sized t) (nodes : IsFreeBelow 256 t.nodes.items)
    (heads : (number : ℕ) → number < 64 → get_or t.heads.items number 256 ≡ 256) (free : get_or t.heads.items 64 256 ≡ 0)
    (oldest : t.oldest ≡ 256) (newest : t.newest ≡ 256) where
  abbrev l : Links
  l = links_of t

  next_up : (k : ℕ) → 0 ≤ k → k < 256 → l.next k ≡ k + 1
  next_up k z h = let b : nat_lt k 256 ≡ true = grind (arith, nat_tests) in rw b (nodes k h)

  empty_chain : (number : ℕ) → number < 64 → l.next (256 + number) ≡ 256
  empty_chain number h =
      let b : nat_lt (256 + number) 256 ≡ false = grind (arith, nat_tests) in
      let e : 256 + number - 256 ≡ number = omega arith in
      rw (b, e) (heads number h)

  all_linked : Linked l.newer l.older l.next (number_of l.kept) [] (numbers 0 256)
  all_linked = record {
    ring = oldest;
    back = λ at h. elim (cases_eq 256 at) [
      | inl e ↦ subst (λ (n : ℕ). l.older (l.newer n) ≡ n) e (ap l.older oldest ∙ newest)
      | inr d ↦ absurd (omega (arith, h, none 256 at d))
    ];
    chains = empty_chain;
    rest = path-numbers l.next 320 0 256 256 free refl next_up;
    each = λ at. elim (cases_lt at 256) [
      | inl h ↦ let b : nat_lt at 256 ≡ true = grind (arith, nat_tests) in rw b (omega (arith, times-within at 0 256 (omega arith) (omega (arith, h))))
      | inr h ↦ let b : nat_lt at 256 ≡ false = grind (arith, nat_tests) in rw b (omega (arith, times-above at 0 256 (omega (arith, h))))
    ];
    all = omega (arith, length-numbers 0 256);
  }

  pub all_free : Sound t × (entries l ≡ [])
  all_free = let s = left l [] (numbers 0 256) all_linked in ((sized, s.linked), ap (map l.kept) s.order)
