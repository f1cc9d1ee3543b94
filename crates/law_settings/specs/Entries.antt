-- What the handler of an exception begins with.
use Rattle.std.specs.Prelude.{◌≡◌, ℕ, ◌<◌, ◌%◌, ◌^◌, ◌&&◌, not, true, false, if◌then◌else◌, Option, Some, None}
use Rattle.mb_port.specs.Routine.{Bus, run}
use Rattle.mb_instr.specs.Registers.{is_supervisor, is_master, active_stack}
use Rattle.mb_model.specs.declared.processor.Cpu.{Cpu}
use Rattle.def_processor.specs.declared.entering.Cause.{Cause}
use Rattle.def_processor.specs.declared.entering.Entered.TheVariants as entered
use Rattle.def_processor.specs.Entry.{is_interrupt, Stacked, frames_of, handler_regs, awake, enter_of}
use Rattle.def_processor.specs.Raise.{traces_all, traces_flow}
use Rattle.def_processor.specs.Step.{interrupt_mask}

-- the processor with its registers as the handler of a cause finds them, but for PC
abbrev pub at_handler : Cause → Cpu → Cpu
at_handler c cpu = record (awake cpu) { regs = handler_regs c (frames_of c cpu.regs) cpu.regs }

-- An entry that is done leaves that, with the PC of the handler.
abbrev pub EntryIsAtHandler : Type 0 → Type 0
EntryIsAtHandler S = (bus : Bus S) (c : Cause) (cpu : Cpu) (s : S)
    → let (entrance, _) = run bus (enter_of c cpu) s in let (end, after) = entrance in end ≡ entered.Done
    → (pc : ℕ) × (after ≡ (let begun = at_handler c cpu in record begun { regs = record begun.regs { pc = pc } }))

-- what holds of a handler's processor, beside the processor before the entry; a level is below 8
abbrev pub OfHandlers : (Cause → Cpu → Cpu → Type 0) → Type 0
OfHandlers P = (c : Cause) (cpu : Cpu) → c.level < 8 → P c cpu (at_handler c cpu)

-- It is in supervisor mode.
abbrev pub HandlersAreSupervisors : Type 0
HandlersAreSupervisors = OfHandlers (λ c before after. is_supervisor after.regs.sr ≡ true)

-- No trace is asked for, by T1 or by T0.
abbrev pub HandlersTraceNothing : Type 0
HandlersTraceNothing = OfHandlers (λ c before after. traces_all after.regs.sr ≡ false)

abbrev pub HandlersTraceNoFlow : Type 0
HandlersTraceNoFlow = OfHandlers (λ c before after. traces_flow after.regs.sr ≡ false)

-- The low byte of SR, which has the condition codes, is as it was.
abbrev pub HandlersHaveCodes : Type 0
HandlersHaveCodes = OfHandlers (λ c before after. after.regs.sr % 2 ^ 8 ≡ before.regs.sr % 2 ^ 8)

-- The mask is the level of an interrupt; else it is as it was.
abbrev pub HandlersHaveMask : Type 0
HandlersHaveMask = OfHandlers (λ c before after.
    interrupt_mask after ≡ (if is_interrupt c then c.level else interrupt_mask before))

-- M is clear behind an interrupt; else it is as it was.
abbrev pub HandlersHaveMaster : Type 0
HandlersHaveMaster = OfHandlers (λ c before after.
    is_master after.regs.sr ≡ not (is_interrupt c) && is_master before.regs.sr)

-- the address of the frame that is written last
abbrev pub last_frame : Stacked → Option Stacked → ℕ
last_frame first None = first.at
last_frame first (Some second) = second.at

-- A7 is the address of the frame, or of an interrupt's second one.
abbrev pub HandlersHaveFrames : Type 0
HandlersHaveFrames = OfHandlers (λ c before after.
    let frames = frames_of c before.regs in active_stack after.regs ≡ last_frame frames.first frames.second)
