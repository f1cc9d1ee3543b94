-- A machine at whose next steps nothing happens but their instructions, as long as these are carried out at once.
use Rattle.std.specs.Prelude.{◌≡◌, Bool, false}
use Rattle.mb_model.specs.declared.outcome.RunState.TheVariants.{Running}
use Rattle.mb_devices.specs.Devices.{level_of, ticked}
use Rattle.def_processor.specs.Raise.{is_due}
use Rattle.def_machine.specs.Machine.{Machine}

-- It runs and is on, the timer stands still, no interrupt is asked for, and no trace is due.
pub record IsCalm (m : Machine) : Type 0 where
  pub running : m.state ≡ Running
  pub awake : m.cpu.stopped ≡ false
  pub untraced : (flow : Bool) → is_due m.cpu.regs.sr flow ≡ false
  pub still : ticked m.world.devices ≡ m.world.devices
  pub unasked : level_of m.world.devices ≡ 0
  pub on : m.world.devices.off ≡ false
