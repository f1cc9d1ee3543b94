-- The slot that a descriptor leads to.
use Rattle.std.proofs.Common.{◌≡◌, ◌∙◌, ℕ, ◌≤◌, ◌<◌, List, length, ap, sym, arith, inl, inr}
use Rattle.std.specs.Prelude.{◌⊎◌, MatchOption, Option, Some, None}
use Rattle.std.proofs.lemmas.Bool.{cases_lt}
use Rattle.vm_shadow.specs.declared.table.Table.{Table}
use Rattle.vm_shadow.specs.Slots.{Placed, number_of, Has}
use Rattle.vm_shadow.specs.Area.{longs, link, link_to, Laid}
use Rattle.vm_shadow.proofs.Positions.{link_yes, link_no}

-- a long that is read by the area and the place that calls gave
pub read_is : (ram : List ℕ) (area found at place long : ℕ) → found ≡ area → at ≡ place → long ≡ longs ram found at → long ≡ longs ram area place
read_is ram area found at place long a b e = e ∙ ap (λ (n : ℕ). longs ram n at) a ∙ ap (longs ram area) b

module _ (s : Placed) (ram : List ℕ) (m : Laid s ram) (a : Table) (area long : ℕ) (where_it_is : area ≡ s.area)
    (is : long ≡ link_to s.area s.tables s.slot a) where
  pub leads : (long ≡ 0) ⊎ ((slot : ℕ) × ((slot < 126) × (long ≡ link area slot)))
  leads = elim (cases_lt (number_of a s.tables) (length s.tables)) [
    | inl h ↦ inr (s.slot a, (m.tables.inside a h, is ∙ link_yes s.area s.slot a s.tables h ∙ ap (λ (b : ℕ). link b (s.slot a)) (sym where_it_is)))
    | inr k ↦ inl (is ∙ link_no s.area s.slot a s.tables k)
  ]

  pub led_there : (r : Option ℕ) → MatchOption r (long ≡ 0) (λ slot. (slot < 126) × (long ≡ link area slot))
      → MatchOption r (length s.tables ≤ number_of a s.tables) (λ slot. (slot ≡ s.slot a) × Has s.tables a)
  led_there None zero = elim (cases_lt (number_of a s.tables) (length s.tables)) [
    | inl h ↦ let e = link_yes s.area s.slot a s.tables h in absurd (omega (arith, e, is, zero))
    | inr k ↦ k
  ]
  led_there (Some slot) p = elim (cases_lt (number_of a s.tables) (length s.tables)) [
    | inl h ↦ let e = link_yes s.area s.slot a s.tables h in let l = p.1 in (omega (arith, e, is, l, where_it_is), h)
    | inr k ↦ let e = link_no s.area s.slot a s.tables k in let l = p.1 in absurd (omega (arith, e, is, l))
  ]
