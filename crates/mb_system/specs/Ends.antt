-- How a privileged instruction ends that is carried out in supervisor mode.
use Rattle.std.specs.Prelude.{◌≡◌, ◌≤◌, length}
use Rattle.mb_model.specs.declared.processor.Cpu.{Cpu}
use Rattle.mb_writes.specs.declared.ends.Ended.{Ended}
use Rattle.mb_writes.specs.declared.ends.Ended.TheVariants as ends

-- It is done; or it was not carried out, or a read was refused, and nothing of the processor changed; or a write was
-- refused of which something is left.
abbrev pub SystemEnds : Ended → Cpu → Cpu → Type 0
SystemEnds (ends.Done flow) old new = Unit {0}
SystemEnds (ends.Trap vector) old new = ⊥
SystemEnds (ends.Refused vector) old new = new ≡ old
SystemEnds (ends.ReadFault refused) old new = new ≡ old
SystemEnds (ends.WriteFault refused) old new = 1 ≤ length refused.rest.items
SystemEnds (ends.LineFault fault line) old new = ⊥
SystemEnds (ends.Movem refused) old new = ⊥
