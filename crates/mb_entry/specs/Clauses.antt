-- What the ends of entries and returns tell.
use Rattle.std.specs.Prelude.{◌≡◌, ◌⊎◌, ⊤, ℕ, ◌*◌, true, IsSome, Ok, Err}
use Rattle.mb_port.specs.Routine.{Bus, run}
use Rattle.mb_port.specs.declared.types.Space.TheVariants.{Super}
use Rattle.mb_port.specs.declared.types.Fault.{Fault}
use Rattle.mb_instr.specs.declared.registers.Regs.{Regs}
use Rattle.mb_instr.specs.declared.vectors.TheConstants.{FORMAT_ERROR}
use Rattle.mb_model.specs.declared.processor.Cpu.{Cpu}
use Rattle.mb_ea.specs.declared.reading.ReadFault.{ReadFault}
use Rattle.mb_ea.specs.Addresses.{sum}
use Rattle.mb_ea.specs.Reading.{read_operand_of}
use Rattle.mb_writes.specs.declared.ends.Ended.{Ended}
use Rattle.mb_writes.specs.declared.ends.Ended.TheVariants as ended
use Rattle.def_processor.specs.declared.entering.Cause.{Cause}
use Rattle.def_processor.specs.declared.entering.Entered.{Entered}
use Rattle.def_processor.specs.declared.entering.Entered.TheVariants as entered
use Rattle.def_processor.specs.Entry.{Places, frames_of, handler_regs, check_frames_of, put_frames_of}

-- Where an entry was carried out, SR and the stacks are as its frames leave them, and PC alone is the handler's. Where
-- a check was refused no register changed.
abbrev pub RegsAfter : Entered → Cause → Regs → Regs → Type 0
RegsAfter entered.Done c old new = new ≡ record (handler_regs c (frames_of c old) old) { pc = new.pc }
RegsAfter (entered.Faulted fault) c old new = new ≡ old
RegsAfter entered.DoubleFault c old new = ⊤

-- the fact, where the processor halts
abbrev pub IfHalted : Entered → Type 0 → Type 0
IfHalted entered.Done P = ⊤
IfHalted (entered.Faulted fault) P = ⊤
IfHalted entered.DoubleFault P = P

-- The frame of an access error has no place: a check was refused, and nothing was written. The registers are as they
-- were, with the PC that was to be stacked.
pub record IsUnplaced {S : Type 0} (bus : Bus S) (c : Cause) (old : Regs) (new : Regs) (s t : S) : Type 0 where
  pub access : IsSome c.access
  pub fault : Fault
  pub refused : run bus (check_frames_of (frames_of c old)) s ≡ (Err fault, t)
  pub regs : new ≡ record old { pc = c.pc }

-- the long in the table of vectors can't be read
pub record IsUnread {S : Type 0} (bus : Bus S) (vector : ℕ) (vbr : ℕ) (s t : S) : Type 0 where
  pub fault : ReadFault
  pub refused : run bus (read_operand_of Super (sum vbr (4 * vector)) 4) s ≡ (Err fault, t)

-- The frames are checked and written, but the vector can't be read. The registers are as the frames leave them.
pub record HasNoHandler {S : Type 0} (bus : Bus S) (c : Cause) (old : Cpu) (new : Regs) (s t : S) : Type 0 where
  pub places : Places
  pub between : S
  pub checked : run bus (check_frames_of (frames_of c old.regs)) s ≡ (Ok places, between)
  pub unread : let (_, stacked) = run bus (put_frames_of (frames_of c old.regs) places) between in
      IsUnread bus c.vector old.vbr stacked t
  pub regs : new ≡ handler_regs c (frames_of c old.regs) old.regs

-- a double fault, by its cause
abbrev pub IsDoubleFault : {S : Type 0} → Bus S → Cause → Cpu → Regs → S → S → Type 0
IsDoubleFault bus c old new s t = IsUnplaced bus c old.regs new s t ⊎ HasNoHandler bus c old new s t

-- Where the vector was read PC alone is another, else nothing is.
abbrev pub LeavesCpu : Entered → Cpu → Cpu → Type 0
LeavesCpu entered.Done old new = new ≡ record old { regs = record old.regs { pc = new.regs.pc } }
LeavesCpu (entered.Faulted fault) old new = ⊥
LeavesCpu entered.DoubleFault old new = new ≡ old

-- the fact, where a check was refused
abbrev pub IfFaulted : Entered → (Fault → Type 0) → Type 0
IfFaulted entered.Done P = ⊤
IfFaulted (entered.Faulted fault) P = P fault
IfFaulted entered.DoubleFault P = ⊤

-- how a return ends that takes no frame: a format error, or a refused read
abbrev pub NotTaken : Ended → Type 0
NotTaken (ended.Done flow) = ⊥
NotTaken (ended.Trap vector) = ⊥
NotTaken (ended.Refused vector) = vector ≡ FORMAT_ERROR
NotTaken (ended.ReadFault refused) = Unit {0}
NotTaken (ended.WriteFault refused) = ⊥
NotTaken (ended.LineFault fault line) = ⊥
NotTaken (ended.Movem refused) = ⊥

-- how a MOVEM ends that goes on: its instruction changes the flow, or a transfer was refused again
abbrev pub WentOn : Ended → Type 0
WentOn (ended.Done flow) = flow ≡ true
WentOn (ended.Trap vector) = ⊥
WentOn (ended.Refused vector) = ⊥
WentOn (ended.ReadFault refused) = ⊥
WentOn (ended.WriteFault refused) = ⊥
WentOn (ended.LineFault fault line) = ⊥
WentOn (ended.Movem refused) = Unit {0}

-- A return is carried out, and T0 asks for a trace; or it is a format error or a refused read, and nothing of the
-- processor changed; or a transfer of a MOVEM was refused again.
abbrev pub ReturnEnds : Ended → Cpu → Cpu → Type 0
ReturnEnds (ended.Done flow) old new = flow ≡ true
ReturnEnds (ended.Trap vector) old new = ⊥
ReturnEnds (ended.Refused vector) old new = (vector ≡ FORMAT_ERROR) × (new ≡ old)
ReturnEnds (ended.ReadFault refused) old new = new ≡ old
ReturnEnds (ended.WriteFault refused) old new = ⊥
ReturnEnds (ended.LineFault fault line) old new = ⊥
ReturnEnds (ended.Movem refused) old new = Unit {0}
