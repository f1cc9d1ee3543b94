use Rattle.def_machine.proofs.Bytes.{bus-bytes}
use Rattle.def_machine.proofs.laws.memory_stays_bytes.Goals as goal

pub returns : goal.returns
returns c = bus-bytes
