-- Devices that stay on, and whose timer is not due.
use Rattle.std.proofs.Common.{◌≡◌, ℕ, ◌-◌, ◌≤◌, Bool, true, false, cond, ◌==◌, refl, inl, inr, arith}
use Rattle.mb_devices.specs.Devices.{DeviceState, passed, IsNotDue}

-- ticks switch nothing off
pub off_passed : (n : ℕ) (d : DeviceState) → (passed n d).off ≡ d.off
off_passed n d = off_if (d.period == 0)
  where
    off_if : (b : Bool) → (cond b d (record d { count = d.count - n })).off ≡ d.off
    off_if true = refl
    off_if false = refl

-- behind some of the ticks that are not due none is due
due_by : (b : Bool) (n few : ℕ) (d : DeviceState) → few ≤ n → IsNotDue n d → IsNotDue 0 (cond b d (record d { count = d.count - few }))
due_by true n few d within (inl still) = inl still
due_by false n few d within (inl still) = inl still
due_by true n few d within (inr less) = inr (omega arith)
due_by false n few d within (inr less) = inr (omega arith)

pub due_behind : (n few : ℕ) (d : DeviceState) → few ≤ n → IsNotDue n d → IsNotDue 0 (passed few d)
due_behind n few d within due = due_by (d.period == 0) n few d within due
