-- A long of a slot that is set and counted.
use Rattle.std.proofs.Common.{◌≡◌, ◌∙◌, ◌+◌, ◌≤◌, ◌<◌, ℕ, List, get_or, ap, sym, subst, arith}
use Rattle.vm_shadow.specs.declared.nodes.Nodes.{Nodes}
use Rattle.vm_shadow.specs.Slots.{Slots, placed}
use Rattle.vm_shadow.specs.Area.{longs, in_slot, one, used, Counted}
use Rattle.law_links.specs.Paths.{updated}
use Rattle.vm_shadow.specs.Links.{Links, links_of, counts}
use Rattle.vm_shadow.proofs.Uses.{one_in, used_most}
use Rattle.vm_shadow.proofs.Views.{view, counts_are}
use Rattle.vm_shadow.proofs.Maps.{counted_set}
use Rattle.vm_shadow.proofs.Leads.{read_is}

module _ (area : ℕ) (t : Nodes) (q : Slots) (seen : view area (links_of t) (counts t) ≡ q) (ram : List ℕ) (slot index : ℕ) (low : slot < 126)
    (h : index < 128) (counted : Counted (placed q) ram) (found place old : ℕ) (area_is : found ≡ q.area) (place_is : place ≡ in_slot slot index)
    (old_is : old ≡ longs ram found place) where
  standing : Counted (placed (view area (links_of t) (counts t))) ram
  standing = subst (λ (s : Slots). Counted (placed s) ram) (sym seen) counted

  here : found ≡ area
  here = area_is ∙ ap (λ (s : Slots). s.area) (sym seen)

  old_there : old ≡ longs ram area (in_slot slot index)
  old_there = read_is ram area found place (in_slot slot index) old here place_is old_is

  count_is : (links_of t).count slot ≡ used (longs ram area) slot 128
  count_is = sym (ap (λ (f : ℕ → ℕ). f slot) (counts_are t)) ∙ standing slot low

  pub some_counted : one old ≤ (links_of t).count slot
  some_counted =
      let o = ap one old_there in
      let k = count_is in
      let i = one_in (longs ram area) slot 128 index h in
      omega (arith, o, k, i)

  pub few_counted : (links_of t).count slot ≤ 128
  few_counted = let k = count_is in let m = used_most (longs ram area) slot 128 in omega (arith, k, m)

  pub set_there : (ram' : List ℕ) (long : ℕ) → longs ram' found ≡ updated (longs ram found) place long
      → longs ram' q.area ≡ updated (longs ram q.area) (in_slot slot index) long
  set_there ram' long written =
      subst (λ (a : ℕ). longs ram' a ≡ updated (longs ram a) (in_slot slot index) long) area_is
      (written ∙ ap (λ (n : ℕ). updated (longs ram found) n long) place_is)

  pub counted_after : (u : Nodes) (ram' : List ℕ) (long : ℕ) → longs ram' found ≡ updated (longs ram found) place long
      → links_of u ≡ record (links_of t) { count = updated (links_of t).count slot ((links_of u).count slot) }
      → (links_of u).count slot + one old ≡ (links_of t).count slot + one long
      → Counted (placed (view area (links_of u) (counts u))) ram'
  counted_after u ram' long written links count =
      let before = λ (n : ℕ). get_or (counts t) n 0 in
      let after = λ (n : ℕ). get_or (counts u) n 0 in
      let then : before slot ≡ (links_of t).count slot = ap (λ (f : ℕ → ℕ). f slot) (counts_are t) in
      let now : after slot ≡ (links_of u).count slot = ap (λ (f : ℕ → ℕ). f slot) (counts_are u) in
      let is : after ≡ updated before slot (after slot) =
      counts_are u ∙ ap (λ (m : Links). m.count) links
      ∙ ap (λ (f : ℕ → ℕ). updated f slot ((links_of u).count slot)) (sym (counts_are t))
      ∙ ap (λ (n : ℕ). updated before slot n) (sym now) in
      let old = ap one old_there in
      let there = subst (λ (a : ℕ). longs ram' a ≡ updated (longs ram a) (in_slot slot index) long) here
      (written ∙ ap (λ (n : ℕ). updated (longs ram found) n long) place_is) in
      counted_set (placed (view area (links_of t) (counts t))) after ram ram' slot index long low h standing there is
      (omega (arith, count, then, now, old))
