use Rattle.mb_devices.proofs.Passing as passing
use Rattle.mb_devices.proofs.laws.ticks_pass.Goals as goal

pub returns : goal.returns
returns c = passing.ticks_pass
