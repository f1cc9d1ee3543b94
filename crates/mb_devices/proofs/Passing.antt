-- So many ticks at once.
use Rattle.std.proofs.Common.{◌≡◌, ◌∙◌, ℕ, zero, suc, ◌-◌, ◌<◌, ◌==◌, true, false, refl, ap, sym, inl, inr, arith}
use Rattle.std.proofs.lemmas.Bool.{cases_Bool}
use Rattle.std.proofs.lemmas.Bool.Decides.{nat_tests}
use Rattle.mb_devices.specs.Devices.{DeviceState, ticked, ticks, IsNotDue, passed, level_of}
use Rattle.mb_devices.specs.Laws.{TicksPass}

pub is_yes : (a b : ℕ) → a ≡ b → (a == b) ≡ true
is_yes a b h = grind (arith, nat_tests)

pub not_zero : (a : ℕ) → 1 < a → (a - 1 == 0) ≡ false
not_zero a h = grind (arith, nat_tests)

pub still_tick : (d : DeviceState) → (d.period == 0) ≡ true → ticked d ≡ d
unfolding ticked
still_tick d h = rw h refl

-- a tick that does not come to 0
pub down_tick : (d : DeviceState) → (d.period == 0) ≡ false → 1 < d.count → ticked d ≡ record d { count = d.count - 1 }
unfolding ticked
down_tick d h more = rw h (rw (not_zero d.count more) refl)

none_passes : (d : DeviceState) → d ≡ record d { count = d.count - 0 }
none_passes d = ap (λ (c : ℕ). record d { count = c }) (let e : d.count ≡ d.count - 0 = omega arith in e)

-- a timer that stands still
still_passes : (n : ℕ) (d : DeviceState) → (d.period == 0) ≡ true → ticks n d ≡ passed n d
still_passes zero d h = rw h refl
still_passes (suc n) d h = ap (ticks n) (still_tick d h) ∙ still_passes n d h ∙ rw h refl

running_passes : (n : ℕ) (d : DeviceState) → (d.period == 0) ≡ false → n < d.count → ticks n d ≡ passed n d
running_passes zero d h less = rw h (none_passes d)
running_passes (suc n) d h less =
    let later : DeviceState = record d { count = d.count - 1 } in
    ap (ticks n) (down_tick d h (omega arith)) ∙ running_passes n later h (omega arith)
    ∙ rw h (ap (λ (c : ℕ). record d { count = c }) (let e : d.count - 1 - n ≡ d.count - suc n = omega arith in e))

by_count : (n : ℕ) (d : DeviceState) → (d.period == 0) ≡ false → IsNotDue n d → n < d.count
by_count n d h (inl still) = absurd (cc (sym h ∙ is_yes d.period 0 still))
by_count n d h (inr less) = less

pub all_pass : (n : ℕ) (d : DeviceState) → IsNotDue n d → ticks n d ≡ passed n d
all_pass n d due = elim (cases_Bool (d.period == 0)) [
  | inl still ↦ still_passes n d still
  | inr runs ↦ running_passes n d runs (by_count n d runs due)
]

same_level : (d : DeviceState) (count : ℕ) → level_of (record d { count = count }) ≡ level_of d
same_level d count = refl

pub level-passed : (n : ℕ) (d : DeviceState) → level_of (passed n d) ≡ level_of d
level-passed n d = elim (cases_Bool (d.period == 0)) [
  | inl h ↦ rw h refl
  | inr h ↦ rw h (same_level d (d.count - n))
]

pub ticks_pass : TicksPass
ticks_pass n d due = record { at_once = all_pass n d due; level = level-passed n d }
