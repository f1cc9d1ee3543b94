-- How privileged instructions end, with the processor then.
use Rattle.std.specs.Prelude.{Bool, false, true, Result, Ok, Err}
use Rattle.mb_port.specs.Routine.{Routine, Return, Then}
use Rattle.mb_instr.specs.declared.registers.Plain.{Plain}
use Rattle.mb_instr.specs.Registers.{with_plain}
use Rattle.mb_model.specs.declared.processor.Cpu.{Cpu}
use Rattle.mb_writes.specs.declared.ends.Ended.{Ended}
use Rattle.mb_writes.specs.declared.ends.Ended.TheVariants as ended
use Rattle.def_instructions.specs.Ends.{Cut, Unread, Stop, Rowed}

-- one that was carried out: does T0 ask for a trace after it, and the processor then
pub record SystemCarried : Type 0 where
  pub flow : Bool
  pub cpu : Cpu

-- one that ended otherwise: how, and the processor then
pub record SystemOtherEnd : Type 0 where
  pub ended : Ended
  pub cpu : Cpu

-- What the routine of a privileged row answers.
abbrev pub SystemRowed : Type 0
SystemRowed = Result SystemCarried (Cut SystemOtherEnd)

-- carried out, and whether T0 asks for a trace
abbrev pub system_went : Bool → Cpu → SystemRowed
system_went flow cpu = Ok (record { flow = flow; cpu = cpu })

-- carried out, and the next instruction follows
abbrev pub completed : Cpu → SystemRowed
completed cpu = system_went false cpu

-- carried out, and T0 asks for a trace, as where the flow of control changed
abbrev pub redirected : Cpu → SystemRowed
redirected cpu = system_went true cpu

abbrev pub system_ended_otherwise : Ended → Cpu → SystemRowed
system_ended_otherwise ended cpu = Err (Stop (record { ended = ended; cpu = cpu }))

-- the processor with these registers, of which A7 is its active stack pointer
abbrev pub with_registers : Plain → Cpu → Cpu
with_registers p cpu = record cpu { regs = with_plain cpu.regs p }

-- what the last part of a row answered, whose registers are the processor's
abbrev pub within : Cpu → Rowed → SystemRowed
within cpu (Ok done) = system_went done.flow (with_registers done.plain cpu)
within cpu (Err (Unread refused)) = Err (Unread refused)
within cpu (Err (Stop stop)) = system_ended_otherwise stop.ended (with_registers stop.plain cpu)

-- the last part of a row, which works on the processor's registers alone
abbrev pub finish_row_of : Cpu → Routine Rowed → Routine SystemRowed
finish_row_of cpu m = Then m (λ rowed. Return (within cpu rowed))

-- a row that cannot fail
abbrev pub completing : Routine Cpu → Routine SystemRowed
completing m = Then m (λ cpu. Return (completed cpu))

-- an end and the processor then
abbrev pub SystemEnd : Type 0
SystemEnd = Ended × Cpu

-- how an instruction ends that this processor began, and whose row answered so
abbrev pub system_closed : Cpu → SystemRowed → SystemEnd
system_closed before (Ok done) = (ended.Done done.flow, done.cpu)
system_closed before (Err (Unread refused)) = (ended.ReadFault refused, before)
system_closed before (Err (Stop stop)) = (stop.ended, stop.cpu)

-- A row as the instruction that this processor began: a part which reads and is refused leaves it.
abbrev pub system_closing : Cpu → Routine SystemRowed → Routine SystemEnd
system_closing before m = Then m (λ rowed. Return (system_closed before rowed))

-- What a function answered, beside the processor that it left: does T0 ask for a trace, or another end.
abbrev pub system_performed_by : Result Bool Ended → Cpu → SystemRowed
system_performed_by (Ok flow) cpu = system_went flow cpu
system_performed_by (Err (ended.ReadFault refused)) cpu = Err (Unread refused)
system_performed_by (Err end) cpu = system_ended_otherwise end cpu

-- the same of a function whose instruction never changes the flow
abbrev pub system_carried_by : Result (Unit {0}) Ended → Cpu → SystemRowed
system_carried_by (Ok done) cpu = completed cpu
system_carried_by (Err end) cpu = system_performed_by (Err end) cpu
