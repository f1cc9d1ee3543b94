-- How instructions end, with the registers then.
use Rattle.std.specs.Prelude.{Bool, false, true, Result, Ok, Err}
use Rattle.mb_port.specs.Routine.{Routine, Return, Then, failing}
use Rattle.mb_instr.specs.declared.registers.Plain.{Plain}
use Rattle.mb_ea.specs.declared.reading.ReadFault.{ReadFault}
use Rattle.mb_writes.specs.declared.ends.WriteFault.{WriteFault}
use Rattle.mb_writes.specs.declared.ends.Ended.{Ended}
use Rattle.mb_writes.specs.declared.ends.Ended.TheVariants as ended

-- an instruction that was carried out: did it change the flow of control, and the registers then
pub record Carried : Type 0 where
  pub flow : Bool
  pub plain : Plain

-- an instruction that ended otherwise: how, and the registers then
pub record OtherEnd : Type 0 where
  pub ended : Ended
  pub plain : Plain

-- What an instruction's routine answers. It is closed once, in the step.
abbrev pub Performed : Type 0
Performed = Result Carried OtherEnd

-- ---- rows

-- What cuts a row short: a part that reads was refused, or the row ends otherwise, and says how.
pub data Cut (A : Type 0) : Type 0 where
  Unread : ReadFault → Cut A
  Stop : A → Cut A

-- What the routine of a row answers.
abbrev pub Rowed : Type 0
Rowed = Result Carried (Cut OtherEnd)

-- how an instruction ends that began with these registers, and whose row was cut short so
abbrev pub restored : Plain → Cut OtherEnd → OtherEnd
restored before (Unread refused) = record { ended = ended.ReadFault refused; plain = before }
restored before (Stop stop) = stop

-- A row as the instruction that began with these registers: a part which reads and is refused leaves them.
abbrev pub restoring : Plain → Routine Rowed → Routine Performed
restoring before m = failing (restored before) m

-- carried out, and whether the flow of control changed
abbrev pub went : Bool → Plain → Rowed
went flow p = Ok (record { flow = flow; plain = p })

-- carried out, and the next instruction follows
abbrev pub carried : Plain → Rowed
carried p = went false p

-- carried out, and the flow of control changed
abbrev pub jumped : Plain → Rowed
jumped p = went true p

abbrev pub ended_otherwise : Ended → Plain → Rowed
ended_otherwise ended p = Err (Stop (record { ended = ended; plain = p }))

-- a part that reads, whose fault cuts the row short and says nothing of the registers
abbrev pub reading : {A B : Type 0} → Routine (Result A ReadFault) → Routine (Result A (Cut B))
reading m = failing (λ refused. Unread refused) m

-- a part whose fault ends the instruction so, with these registers
abbrev pub ending : {A E : Type 0} → (E → Ended) → Plain → Routine (Result A E) → Routine (Result A (Cut OtherEnd))
ending how p m = failing (λ fault. Stop (record { ended = how fault; plain = p })) m

-- a write: its fault leaves the registers as they are after the instruction
abbrev pub writing : {A : Type 0} → Plain → Routine (Result A WriteFault) → Routine (Result A (Cut OtherEnd))
writing after m = ending (λ refused. ended.WriteFault refused) after m

-- ---- instructions

-- an end and the registers then
abbrev pub End : Type 0
End = Ended × Plain

abbrev pub closed : Performed → End
closed (Ok done) = (ended.Done done.flow, done.plain)
closed (Err stop) = (stop.ended, stop.plain)

abbrev pub closing : Routine Performed → Routine End
closing m = Then m (λ performed. Return (closed performed))
