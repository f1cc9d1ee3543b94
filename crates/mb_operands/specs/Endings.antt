-- What a call answers whose end, where it is not done, stands beside its answer.
use Rattle.std.specs.Prelude.{◌≤◌, Bool, false, true, Result, Ok, Err, length}
use Rattle.mb_port.specs.Routine.{other_fault}
use Rattle.mb_instr.specs.declared.registers.Plain.{Plain}
use Rattle.mb_writes.specs.declared.ends.Ended.{Ended}
use Rattle.mb_writes.specs.declared.ends.Ended.TheVariants as ends
use Rattle.def_instructions.specs.Ends.{OtherEnd, Performed, Cut, Unread, Stop, Rowed, restored, went, carried}
use Rattle.mb_operands.specs.declared.endings.Undone.{Undone}

-- what it answered, with that end
abbrev pub with_end : {A : Type 0} → Result A Undone → Ended → Result A Ended
with_end (Ok done) end = Ok done
with_end (Err undone) end = Err end

-- how an instruction ended whose function answered so
abbrev pub end_of : Result Bool Ended → Ended
end_of (Ok flow) = ends.Done flow
end_of (Err end) = end

-- a refused read ended it
abbrev pub is_unread : Ended → Bool
is_unread (ends.ReadFault refused) = true
is_unread end = false

-- a write was refused of which something is left, so that the instruction is otherwise complete
abbrev pub IsUnfinished : Ended → Type 0
IsUnfinished (ends.Done flow) = ⊥
IsUnfinished (ends.Trap vector) = ⊥
IsUnfinished (ends.Refused vector) = ⊥
IsUnfinished (ends.ReadFault refused) = ⊥
IsUnfinished (ends.WriteFault refused) = 1 ≤ length refused.rest.items
IsUnfinished (ends.LineFault fault line) = ⊥
IsUnfinished (ends.Movem refused) = ⊥

-- ---- functions that work on the registers in place

-- what cut a row short whose function left this end, and these registers
abbrev pub cut_by : Ended → Plain → Cut OtherEnd
cut_by (ends.ReadFault refused) now = Unread refused
cut_by end now = Stop (record { ended = end; plain = now })

-- What the function of a row answered, with its end and the registers now: whether the flow of control changed.
abbrev pub performed_by : Result Bool Undone → Ended → Plain → Rowed
performed_by (Ok flow) end now = went flow now
performed_by (Err undone) end now = Err (cut_by end now)

-- the same of a row that never changes the flow
abbrev pub carried_by : Result (Unit {0}) Undone → Ended → Plain → Rowed
carried_by (Ok done) end now = carried now
carried_by (Err undone) end now = Err (cut_by end now)

-- The same of an instruction that began with the registers before: a refused read leaves those, whatever its function
-- has put into the registers by then.
abbrev pub performed_in_place : Result Bool Undone → Ended → Plain → Plain → Performed
performed_in_place done end before now = other_fault (restored before) (performed_by done end now)
