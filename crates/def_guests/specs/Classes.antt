-- Why a step is carried out as it is: its class, by the accesses of its attempt in their order.
use Rattle.std.specs.Prelude.{ℕ, ◌||◌, nat_lt, Bool, true, false, if◌then◌else◌, Ok, Err, Option, Some, None, unwrap_or}
use Rattle.law_routines.specs.Until.{Until, run_until}
use Rattle.law_routines.specs.Until as until
use Rattle.mb_instr.specs.Registers.{plain_of}
use Rattle.mb_model.specs.declared.processor.Cpu.{Cpu}
use Rattle.mb_model.specs.Status.{space_of}
use Rattle.mb_writes.specs.declared.ends.Ended.{Ended}
use Rattle.mb_writes.specs.declared.ends.Ended.TheVariants as ended
use Rattle.def_instructions.specs.Ends.{Performed}
use Rattle.def_instructions.specs.Attempt.{attempt_of}
use Rattle.def_processor.specs.Raise.{traces_all, traces_flow}
use Rattle.def_processor.specs.Step.{interrupt_mask, rank}
use Rattle.def_guests.specs.declared.class.Class.{Class}
use Rattle.def_guests.specs.declared.class.Class.TheVariants.{Entered, Idle, Traced, Privileged, Denied, Trapped}
use Rattle.def_guests.specs.declared.class.Class.TheVariants.{Retired}
use Rattle.def_guests.specs.Guests.{Guest, may}
use Rattle.def_guests.specs.Bus.{guest_bus}
use Rattle.def_guests.specs.Refills.{refilled}

-- ---- an attempt

-- by how an instruction ended
abbrev pub class_of_end : Ended → Class
class_of_end (ended.Done flow) = Retired
class_of_end (ended.Trap vector) = Trapped
class_of_end (ended.Refused vector) = Privileged
class_of_end (ended.ReadFault refused) = Denied
class_of_end (ended.WriteFault refused) = Denied
class_of_end (ended.LineFault fault line) = Denied
class_of_end (ended.Movem refused) = Denied

-- by what an attempt answered
abbrev pub class_by : Performed → Class
class_by (Ok done) = Retired
class_by (Err stop) = class_of_end stop.ended

-- by how far an attempt came: to its end, or to an access that the shadow does not allow
abbrev pub class_at : Until Guest Performed → Class
class_at (until.Ended performed g) = class_by performed
class_at (until.Stopped rest g) = Denied

-- The instruction at PC is attempted, up to its end or to its first access that the shadow does not allow. An odd PC,
-- what is no instruction and a privileged one end the attempt refused, once the words before are fetched.
abbrev pub class_of_attempt : Cpu → Guest → Class
class_of_attempt cpu g =
    class_at (run_until may guest_bus (attempt_of (space_of cpu) (plain_of cpu.regs)) g)

-- ---- a step

-- T1 or T0 is set
abbrev pub is_traced : Cpu → Bool
is_traced cpu = traces_all cpu.regs.sr || traces_flow cpu.regs.sr

-- The class of a step that has begun in which the board has no part, the first that holds: an interrupt of this level
-- is entered, STOP holds the processor, or a trace bit is set.
abbrev pub assisted : (level : ℕ) → Cpu → Option Class
assisted level cpu =
    if nat_lt (interrupt_mask cpu) (rank level) then Some Entered else
    if cpu.stopped then Some Idle else
    if is_traced cpu then Some Traced else None

-- The class of a step that has begun: that, or else the class of its attempt, which is judged once each read that is
-- refilled has been.
abbrev pub class_of : (level : ℕ) → Cpu → Guest → Class
class_of level cpu g = unwrap_or (assisted level cpu) (class_of_attempt cpu (refilled cpu g).guest)

-- by its first attempt alone, as the board meets it
abbrev pub class_at_first : (level : ℕ) → Cpu → Guest → Class
class_at_first level cpu g = unwrap_or (assisted level cpu) (class_of_attempt cpu g)

-- does a board in user mode leave such an attempt by an exception
abbrev pub is_exit : Class → Bool
is_exit Retired = false
is_exit _ = true
