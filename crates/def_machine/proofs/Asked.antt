-- The interrupt level that a step is asked for.
use Rattle.std.proofs.Common.{◌≡◌, ◌≤◌, ℕ, Bool, true, false, cond, refl, ap, arith}
use Rattle.mb_model.specs.declared.processor.Cpu.{Cpu}
use Rattle.mb_devices.specs.Devices.{DeviceState, level_of}
use Rattle.def_processor.specs.Step.{interrupt_mask, rank}
use Rattle.def_machine.specs.Machine.{Entries, aborts, asked}

-- where no abort arrives it is the devices'
pub asked_devices : (script : Entries) (step : ℕ) (d : DeviceState) → aborts step script ≡ false → asked script step d ≡ level_of d
asked_devices script step d h = ap (λ (b : Bool). cond b 7 (level_of d)) h

-- no mask holds an abort back
pub unaborted : (script : Entries) (step : ℕ) (d : DeviceState) (cpu : Cpu) → rank (asked script step d) ≤ interrupt_mask cpu → aborts step script ≡ false
unaborted script step d cpu masked = by_test (aborts step script) masked
  where
    by_test : (b : Bool) → rank (cond b 7 (level_of d)) ≤ interrupt_mask cpu → b ≡ false
    by_test false h = refl
    by_test true h = absurd (omega arith)

-- so what a mask holds back is asked for by the devices
pub asked_masked : (script : Entries) (step : ℕ) (d : DeviceState) (cpu : Cpu) → rank (asked script step d) ≤ interrupt_mask cpu
    → asked script step d ≡ level_of d
asked_masked script step d cpu masked = asked_devices script step d (unaborted script step d cpu masked)
