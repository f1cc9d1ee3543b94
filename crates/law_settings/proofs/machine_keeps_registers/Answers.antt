use Rattle.law_settings.proofs.Control as laws
use Rattle.law_settings.proofs.machine_keeps_registers.Goals as goal

pub returns : goal.returns
returns c = laws.machine_keeps_registers
