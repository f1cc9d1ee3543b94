-- The writes that free a slot, and those that take one, as one change of the links each.
use Rattle.std.proofs.Common.{◌≡◌, ◌∙◌, ℕ, ◌+◌, ◌≤◌, ◌<◌, List, [], ◌∷◌, ◌++◌, length, ap, sym, subst, refl, arith, length-append}
use Rattle.vm_shadow.specs.declared.table.Table.{Table}
use Rattle.law_links.specs.Paths.{updated, times}
use Rattle.vm_shadow.specs.Chains.{Linked}
use Rattle.vm_shadow.specs.Links.{Links, order, vacant}
use Rattle.vm_shadow.proofs.Rings.{unlinked, pushed, resealed, order_is, node_inside, ends_low, free_once_here, free_inside}
use Rattle.vm_shadow.proofs.Rings.{newest_low, from, all_free}

abbrev pub IsLinked : Links → Type 0
IsLinked l = Linked l.newer l.older (order l) (vacant l)

-- links with these slots in use
pub record Left (l : Links) (live : List ℕ) : Type 0 where
  pub order : order l ≡ live
  pub linked : IsLinked l

pub left : (l : Links) (live free : List ℕ) → Linked l.newer l.older live free → Left l live
left l live free linked =
    record { order = order_is l.newer l.older live free linked; linked = resealed l.newer l.older live free linked }

-- a slot out of the ring, and first among the free ones
abbrev pub cut : ℕ → ℕ → ℕ → ℕ → Links → Links
cut at older newer used l = record {
  newer = updated (updated (updated l.newer older newer) at (updated l.newer older newer 127)) 127 at;
  older = updated l.older newer older;
  table = l.table;
  count = l.count;
  used = used;
}

module _ (l : Links) (at : ℕ) (xs ys : List ℕ) (is : order l ≡ xs ++ at ∷ ys) (linked : IsLinked l) where
  at_split : Linked l.newer l.older (xs ++ at ∷ ys) (vacant l)
  at_split = subst (λ (o : List ℕ). Linked l.newer l.older o (vacant l)) is linked

  pub live_inside : at < 126
  live_inside = node_inside l.newer l.older xs at ys (vacant l) at_split

  pub ends_inside : (l.newer at ≤ 126) × (l.older at ≤ 126)
  ends_inside = ends_low l.newer l.older xs at ys (vacant l) at_split

  pub one_less : length (order l) ≡ length (xs ++ ys) + 1
  one_less = ap length is ∙ omega (arith, length-append xs (at ∷ ys), length-append xs ys)

  pub cut_left : (used : ℕ) → Left (cut at (l.older at) (l.newer at) used l) (xs ++ ys)
  cut_left used = left (cut at (l.older at) (l.newer at) used l) (xs ++ ys) (at ∷ vacant l) (unlinked l.newer l.older xs at ys (vacant l) at_split)

-- a free slot last in the ring, with a table
abbrev pub put : ℕ → Table → ℕ → ℕ → ℕ → Links → Links
put at a next newest used l = record {
  newer = updated (updated (updated l.newer 127 next) newest at) at 126;
  older = updated (updated l.older at newest) 126 at;
  table = updated l.table at a;
  count = l.count;
  used = used;
}

module _ (l : Links) (at : ℕ) (rest : List ℕ) (is : vacant l ≡ at ∷ rest) (linked : IsLinked l) where
  at_free : Linked l.newer l.older (order l) (at ∷ rest)
  at_free = subst (λ (o : List ℕ). Linked l.newer l.older (order l) o) is linked

  pub first_free : l.newer 127 ≡ at
  first_free = at_free.rest.0

  pub free_low : at < 126
  free_low = free_inside l.newer l.older (order l) at rest at_free

  pub not_live : times at (order l) ≡ 0
  not_live = (free_once_here l.newer l.older (order l) at rest at_free).0

  pub newest_inside : l.older 126 ≤ 126
  newest_inside = newest_low l.newer l.older (order l) at rest at_free

  pub put_left : (a : Table) (used : ℕ) → Left (put at a (l.newer at) (l.older 126) used l) (order l ++ at ∷ [])
  put_left a used = left (put at a (l.newer at) (l.older 126) used l) (order l ++ at ∷ []) rest (pushed l.newer l.older (order l) at rest at_free)

-- where slots are left, one is free
pub free_one : (l : Links) → IsLinked l → length (order l) < 126 → (at : ℕ) × ((rest : List ℕ) × (vacant l ≡ at ∷ rest))
free_one l linked h = by_list (vacant l) refl (omega (arith, linked.all, h))
  where
    by_list : (free : List ℕ) → vacant l ≡ free → 0 < length (vacant l) → (at : ℕ) × ((rest : List ℕ) × (vacant l ≡ at ∷ rest))
    by_list [] e s = absurd (omega (arith, s, ap length e))
    by_list (at ∷ rest) e s = (at, (rest, e))

-- the first of the free ones
module _ (l : Links) (linked : IsLinked l) (room : length (order l) < 126) (at : ℕ) (is : at ≡ l.newer 127) where
  pub head : (rest : List ℕ) × (vacant l ≡ at ∷ rest)
  head =
      let f = free_one l linked room in
      let e : at ≡ f.0 = is ∙ first_free l f.0 f.1.0 f.1.1 linked in
      (f.1.0, f.1.1 ∙ ap (λ (n : ℕ). n ∷ f.1.0) (sym e))

  pub head_low : at < 126
  head_low = free_low l at head.0 head.1 linked

  pub head_new : times at (order l) ≡ 0
  head_new = not_live l at head.0 head.1 linked

  pub last_low : l.older 126 ≤ 126
  last_low = newest_inside l at head.0 head.1 linked

  pub head_left : (a : Table) (used : ℕ) → Left (put at a (l.newer at) (l.older 126) used l) (order l ++ at ∷ [])
  head_left = put_left l at head.0 head.1 linked

-- all slots are free
pub empty_left : (l : Links) → l.newer 126 ≡ 126 → l.older 126 ≡ 126 → l.newer 127 ≡ 0 → ((k : ℕ) → k < 126 → l.newer k ≡ k + 1) → Left l []
empty_left l a b c d = left l [] (from 0 126) (all_free l.newer l.older a b c d)
