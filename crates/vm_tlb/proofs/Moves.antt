-- The writes that unlink a node, and those that push one, as one change of the links each.
use Rattle.std.proofs.Common.{◌≡◌, ◌∙◌, ℕ, ◌+◌, ◌≤◌, ◌<◌, List, [], ◌∷◌, ◌++◌, ap, sym, subst, refl, arith}
use Rattle.mb_port.specs.declared.types.Space.{Space}
use Rattle.mb_port.specs.declared.types.Space.TheVariants.{User, Super}
use Rattle.mb_model.specs.declared.kept.Kept.{Kept}
use Rattle.vm_tlb.specs.Chains.{chain, before, Linked}
use Rattle.law_links.specs.Paths.{updated}
use Rattle.vm_tlb.specs.Links.{Links, chain_of, number_of, order, vacant, IsLinked}
use Rattle.law_links.proofs.Paths.{updated_same, updated_other, one, times-append, last, last_in}
use Rattle.vm_tlb.proofs.Changes.{unlinked, pushed, neighbours, inside, newest_is, ring_low}
use Rattle.vm_tlb.proofs.Walks.{sealed, resealed}

chain_below : (space : Space) (page : ℕ) → chain_of space page < 64
chain_below User page = omega arith
chain_below Super page = omega arith

pub chain_low : (kept : ℕ → Kept) (at : ℕ) → number_of kept at < 64
chain_low kept at = chain_below (kept at).space (kept at).page

-- links with these nodes, as an operation left them
pub record Left (l : Links) (live free : List ℕ) : Type 0 where
  pub order : order l ≡ live
  pub vacant : vacant l ≡ free
  pub linked : IsLinked l

pub left : (l : Links) (live free : List ℕ) → Linked l.newer l.older l.next (number_of l.kept) live free → Left l live free
left l live free linked =
    let s = sealed l.newer l.older l.next (number_of l.kept) live free linked in
    record { order = s.0; vacant = s.1; linked = resealed l.newer l.older l.next (number_of l.kept) live free linked }

-- a node out of its ring and its chain, and first among the free ones
abbrev pub cut : ℕ → ℕ → ℕ → ℕ → ℕ → Links → Links
cut at b older newer after l = record {
  newer = updated l.newer older newer;
  older = updated l.older newer older;
  next = updated (updated (updated l.next b after) at (updated l.next b after 320)) 320 at;
  kept = l.kept;
}

module _ (l : Links) (at : ℕ) (xs ys : List ℕ) (is : order l ≡ xs ++ at ∷ ys) (linked : IsLinked l) where
  at_split : Linked l.newer l.older l.next (number_of l.kept) (xs ++ at ∷ ys) (vacant l)
  at_split = subst (λ (o : List ℕ). Linked l.newer l.older l.next (number_of l.kept) o (vacant l)) is linked

  pub live_inside : at < 256
  live_inside = inside l.newer l.older l.next (number_of l.kept) (xs ++ at ∷ ys) (vacant l) at_split at
      (omega (arith, times-append at xs (at ∷ ys), one at at refl))

  pub ends_low : (l.newer at ≤ 256) × (l.older at ≤ 256)
  ends_low = neighbours l.newer l.older l.next (number_of l.kept) xs at ys (vacant l) at_split (chain_low l.kept at)

  pub cut_left : (b : ℕ) → b ≡ before at (256 + number_of l.kept at) (chain (number_of l.kept) (number_of l.kept at) (order l))
      → Left (cut at b (l.older at) (l.newer at) (l.next at) l) (xs ++ ys) (at ∷ vacant l)
  cut_left b e =
      let e' : b ≡ before at (256 + number_of l.kept at) (chain (number_of l.kept) (number_of l.kept at) (xs ++ at ∷ ys)) =
      e ∙ ap (λ (o : List ℕ). before at (256 + number_of l.kept at) (chain (number_of l.kept) (number_of l.kept at) o)) is in
      left (cut at b (l.older at) (l.newer at) (l.next at) l) (xs ++ ys) (at ∷ vacant l)
      (subst (λ (q : ℕ). Linked (updated l.newer (l.older at) (l.newer at)) (updated l.older (l.newer at) (l.older at))
      (updated (updated (updated l.next q (l.next at)) at (updated l.next q (l.next at) 320)) 320 at) (number_of l.kept) (xs ++ ys) (at ∷ vacant l))
      (sym e') (unlinked l.newer l.older l.next (number_of l.kept) xs at ys (vacant l) at_split (chain_low l.kept at)))

-- a free node last in the ring and first in its chain
abbrev pub puts : ℕ → Kept → ℕ → ℕ → Links → Links
puts at k newest number l = record {
  newer = updated (updated l.newer newest at) at 256;
  older = updated (updated l.older at newest) 256 at;
  next = updated (updated (updated l.next 320 (l.next at)) at (updated l.next 320 (l.next at) (256 + number))) (256 + number) at;
  kept = updated l.kept at k;
}

abbrev pub put : ℕ → Kept → Links → Links
put at k l = puts at k (l.older 256) (chain_of k.space k.page) l

module _ (l : Links) (at : ℕ) (rest : List ℕ) (is : vacant l ≡ at ∷ rest) (linked : IsLinked l) where
  at_free : Linked l.newer l.older l.next (number_of l.kept) (order l) (at ∷ rest)
  at_free = subst (λ (o : List ℕ). Linked l.newer l.older l.next (number_of l.kept) (order l) o) is linked

  pub first_free : l.next 320 ≡ at
  first_free = at_free.rest.0

  pub free_low : at < 256
  free_low = inside l.newer l.older l.next (number_of l.kept) (order l) (at ∷ rest) at_free at (omega (arith, one at at refl))

  pub newest_low : l.older 256 ≤ 256
  newest_low = subst (λ (n : ℕ). n ≤ 256) (sym (newest_is l.newer l.older l.next (number_of l.kept) (order l) (at ∷ rest) at_free))
      (ring_low l.newer l.older l.next (number_of l.kept) (order l) (at ∷ rest) at_free (last 256 (order l)) (last_in 256 (order l)))

  pub put_left : (k : Kept) → Left (put at k l) (order l ++ at ∷ []) rest
  put_left k =
      let kept' = updated l.kept at k in
      let now : number_of kept' at ≡ chain_of k.space k.page = ap (λ (e : Kept). chain_of e.space e.page) (updated_same l.kept at k) in
      left (put at k l) (order l ++ at ∷ []) rest
      (subst (λ (q : ℕ). Linked (updated (updated l.newer (l.older 256) at) at 256) (updated (updated l.older at (l.older 256)) 256 at)
      (updated (updated (updated l.next 320 (l.next at)) at (updated l.next 320 (l.next at) (256 + q))) (256 + q) at) (number_of kept')
      (order l ++ at ∷ []) rest)
      now (pushed l.newer l.older l.next (number_of l.kept) (number_of kept') (order l) at rest at_free
      (λ n d. ap (λ (e : Kept). chain_of e.space e.page) (updated_other l.kept at k n d)) (chain_low kept' at)))
