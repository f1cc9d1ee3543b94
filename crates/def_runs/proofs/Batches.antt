-- Ticks that do not come to 0.
use Rattle.std.proofs.Common.{◌≡◌, ◌∙◌, ℕ, suc, ◌==◌, true, ap, inl, inr, arith}
use Rattle.std.proofs.lemmas.Bool.{cases_Bool}
use Rattle.std.proofs.lemmas.Bool.Decides.{nat_tests}
use Rattle.mb_devices.specs.Devices.{DeviceState, ticked, IsNotDue}
use Rattle.mb_devices.proofs.Passing.{is_yes, still_tick, down_tick}

is_same : (a b : ℕ) → (a == b) ≡ true → a ≡ b
is_same a b h = grind (arith, nat_tests)

pub one_tick : (d : DeviceState) (n : ℕ) → IsNotDue (suc n) d → IsNotDue n (ticked d)
one_tick d n (inl still) = inl (ap (λ (x : DeviceState). x.period) (still_tick d (is_yes d.period 0 still)) ∙ still)
one_tick d n (inr less) = elim (cases_Bool (d.period == 0)) [
  | inl still ↦ inl (ap (λ (x : DeviceState). x.period) (still_tick d still) ∙ is_same d.period 0 still)
  | inr runs ↦ inr (let e = ap (λ (x : DeviceState). x.count) (down_tick d runs (omega arith)) in omega arith)
]
