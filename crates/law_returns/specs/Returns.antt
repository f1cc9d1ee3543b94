-- RTE after the entry of an exception gives back what was saved.
use Rattle.std.specs.Prelude.{◌≡◌, ◌≢◌, ℕ, ◌<◌, ◌^◌, true, false, length, Option, Some, None, Ok}
use Rattle.mb_port.specs.Routine.{Bus, run}
use Rattle.mb_instr.specs.declared.registers.Regs.{Regs}
use Rattle.mb_instr.specs.Registers.{is_supervisor, is_master}
use Rattle.mb_frames.specs.declared.frame.Access.{Access}
use Rattle.mb_frames.specs.Layout.{IsFrame}
use Rattle.mb_model.specs.declared.processor.Cpu.{Cpu}
use Rattle.mb_model.specs.Status.{kept_status}
use Rattle.mb_ea.specs.Addresses.{sum}
use Rattle.def_processor.specs.declared.entering.Cause.{Cause}
use Rattle.def_processor.specs.declared.entering.Entered.TheVariants as entered
use Rattle.def_processor.specs.Entry.{Stacked, Frames, frame_of, throwaway_of, frames_of, handler_regs, enter_of}
use Rattle.def_processor.specs.Return.{Held, Taken, Returned, continues, can_continue, take_frames_of, return_from_of, done_with_flow}
use Rattle.law_returns.specs.Keeping.{Placing, Viewing, Keeps, Shows}

-- ---- what is entered

-- The frames of the cause are as the code holds them, the processor has the ranges of its type, and SR has no other
-- bits than its own.
pub record IsLawfulCause (c : Cause) (cpu : Cpu) : Type 0 where
  pub frame : IsFrame (frame_of cpu.regs.sr c)
  pub thrown : IsFrame (throwaway_of cpu.regs.sr c)
  pub status : kept_status cpu.regs.sr ≡ cpu.regs.sr
  pub level : c.level < 8
  pub isp : cpu.regs.isp < 2 ^ 32
  pub msp : cpu.regs.msp < 2 ^ 32

-- the frames of an entry
abbrev pub frames_at : Cause → Cpu → Frames
frames_at c cpu = frames_of c cpu.regs

-- a second frame has no byte of the first
abbrev pub AreApart : Stacked → Option Stacked → Type 0
AreApart first None = Unit {0}
AreApart first (Some second) =
    (j k : ℕ) → j < length first.bytes → k < length second.bytes → sum first.at j ≢ sum second.at k

-- a frame is seen where it stands, and so is a second one
abbrev pub IsSeen : (ℕ → Option ℕ) → Stacked → Type 0
IsSeen view s = Shows view s.at (length s.bytes) s.bytes

abbrev pub SecondIsSeen : (ℕ → Option ℕ) → Option Stacked → Type 0
SecondIsSeen view None = Unit {0}
SecondIsSeen view (Some s) = IsSeen view s

pub record AreSeen (view : ℕ → Option ℕ) (f : Frames) : Type 0 where
  pub first : IsSeen view f.first
  pub second : SecondIsSeen view f.second

-- ---- what is returned to

-- In supervisor mode, with the stacks and the M with which the handler began. All else may be another.
pub record IsHandlers (c : Cause) (cpu back : Cpu) : Type 0 where
  pub supervisor : is_supervisor back.regs.sr ≡ true
  pub master : is_master back.regs.sr ≡ is_master (handler_regs c (frames_at c cpu) cpu.regs).sr
  pub isp : back.regs.isp ≡ (handler_regs c (frames_at c cpu) cpu.regs).isp
  pub msp : back.regs.msp ≡ (handler_regs c (frames_at c cpu) cpu.regs).msp

-- SR, the PC that was stacked and both stack pointers as they were before the entry
abbrev pub given_back : Cause → Regs → Regs → Regs
given_back c before r = record r { sr = before.sr; pc = c.pc; isp = before.isp; msp = before.msp }

-- the frames that were stacked are those that RTE takes
abbrev pub taken_back : Cause → Cpu → Cpu → Taken
taken_back c cpu back = record { regs = given_back c cpu.regs back.regs; access = c.access }

-- what RTE tells of an access error's frame
abbrev pub held_of : Option Access → ℕ → Option Held
held_of None pc = None
held_of (Some access) pc = Some (record { access = access; pc = pc })

abbrev pub returned_back : Cause → Cpu → Cpu → Returned
returned_back c cpu back = record {
  ended = done_with_flow;
  cpu = record back { regs = given_back c cpu.regs back.regs };
  held = held_of c.access c.pc;
}

-- a frame that RTE takes: no MOVEM goes on by it, or one that can
abbrev pub CanReturn : Option Access → Type 0
CanReturn None = Unit {0}
CanReturn (Some access) = continues access ≡ true → can_continue access ≡ true

-- a frame by which no MOVEM goes on
abbrev pub IsPlain : Option Access → Type 0
IsPlain None = Unit {0}
IsPlain (Some access) = continues access ≡ false

-- ---- the laws

-- An exception is entered whose frames are apart: they stand in supervisor data.
abbrev pub EntryIsSeen : Type 0 → Type 0
EntryIsSeen S = (bus : Bus S) (place : Placing S) (view : Viewing S) (c : Cause) (cpu : Cpu) (s : S)
    → Keeps bus place view → IsLawfulCause c cpu → AreApart (frames_at c cpu).first (frames_at c cpu).second
    → let (entrance, after) = run bus (enter_of c cpu) s in let (end, _) = entrance in
    end ≡ entered.Done → AreSeen (view after) (frames_at c cpu)

-- By frames that stand there RTE gives back SR, PC and both stacks, and the fields of an access error, whatever the
-- format: $0, $2, $7, or $0 below a throwaway frame.
abbrev pub FramesAreTaken : Type 0 → Type 0
FramesAreTaken S = (bus : Bus S) (place : Placing S) (view : Viewing S) (c : Cause) (cpu back : Cpu) (s : S)
    → Keeps bus place view → IsLawfulCause c cpu → AreSeen (view s) (frames_at c cpu)
    → IsHandlers c cpu back → CanReturn c.access
    → let (taken, _) = run bus (take_frames_of back.regs) s in taken ≡ Ok (taken_back c cpu back)

-- So RTE after an entry, whatever was done between them that leaves the frames, and the handler's stacks where they
-- were.
abbrev pub EntryIsReturned : Type 0 → Type 0
EntryIsReturned S = (bus : Bus S) (place : Placing S) (view : Viewing S) (c : Cause) (cpu back : Cpu) (s t : S)
    → Keeps bus place view → IsLawfulCause c cpu → AreApart (frames_at c cpu).first (frames_at c cpu).second
    → let (entrance, after) = run bus (enter_of c cpu) s in let (end, _) = entrance in
    end ≡ entered.Done → (AreSeen (view after) (frames_at c cpu) → AreSeen (view t) (frames_at c cpu))
    → IsHandlers c cpu back → IsPlain c.access
    → let (returned, _) = run bus (return_from_of back) t in returned ≡ returned_back c cpu back
