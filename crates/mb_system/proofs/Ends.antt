-- Ends of privileged instructions.
use Rattle.std.proofs.Common.{◌≡◌, refl, sym, ap, Err}
use Rattle.mb_instr.specs.declared.registers.Plain.{Plain}
use Rattle.mb_model.specs.declared.processor.Cpu.{Cpu}
use Rattle.mb_writes.specs.declared.ends.Ended.{Ended}
use Rattle.mb_writes.specs.declared.ends.Ended.TheVariants as ends
use Rattle.def_processor.specs.SystemEnds.{SystemEnd, with_registers, within, system_performed_by, system_closed}
use Rattle.mb_operands.specs.Endings.{IsUnfinished, cut_by}
use Rattle.mb_system.specs.Ends.{SystemEnds}

-- a write of which something is left is an end of a privileged instruction
pub unfinished : (end : Ended) (old new : Cpu) → IsUnfinished end → SystemEnds end old new
unfinished (ends.Done flow) old new h = absurd h
unfinished (ends.Trap vector) old new h = absurd h
unfinished (ends.Refused vector) old new h = absurd h
unfinished (ends.ReadFault refused) old new h = absurd h
unfinished (ends.WriteFault refused) old new h = h
unfinished (ends.LineFault fault line) old new h = absurd h
unfinished (ends.Movem refused) old new h = absurd h

-- what cut the last part of a row short, cuts the row short
pub cut_within : (end : Ended) (p : Plain) (cpu : Cpu)
    → within cpu (Err (cut_by end p)) ≡ system_performed_by (Err end) (with_registers p cpu)
cut_within (ends.Done flow) p cpu = refl
cut_within (ends.Trap vector) p cpu = refl
cut_within (ends.Refused vector) p cpu = refl
cut_within (ends.ReadFault refused) p cpu = refl
cut_within (ends.WriteFault refused) p cpu = refl
cut_within (ends.LineFault fault line) p cpu = refl
cut_within (ends.Movem refused) p cpu = refl

-- after a refused read the processor is as before
pub closed_as : (end : Ended) (old new : Cpu) → SystemEnds end old new
    → system_closed old (system_performed_by (Err end) new) ≡ (let pair : SystemEnd = (end, new) in pair)
closed_as (ends.Done flow) old new h = refl
closed_as (ends.Trap vector) old new h = refl
closed_as (ends.Refused vector) old new h = refl
closed_as (ends.ReadFault refused) old new h = ap (λ (cpu : Cpu). let pair : SystemEnd = (ends.ReadFault refused, cpu) in pair) (sym h)
closed_as (ends.WriteFault refused) old new h = refl
closed_as (ends.LineFault fault line) old new h = refl
closed_as (ends.Movem refused) old new h = refl
