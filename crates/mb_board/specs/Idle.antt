-- A machine whose next steps are idle.
use Rattle.std.specs.Prelude.{◌≡◌, ◌≤◌, true, false}
use Rattle.mb_model.specs.declared.outcome.RunState.TheVariants.{Stopped}
use Rattle.mb_devices.specs.Devices.{level_of}
use Rattle.def_processor.specs.Step.{interrupt_mask, rank}
use Rattle.def_machine.specs.Machine.{Machine}

-- STOP holds the processor, which is on, and no interrupt above its mask is asked for.
pub record IsHeld (m : Machine) : Type 0 where
  pub state : m.state ≡ Stopped
  pub stopped : m.cpu.stopped ≡ true
  pub on : m.world.devices.off ≡ false
  pub masked : rank (level_of m.world.devices) ≤ interrupt_mask m.cpu
