-- Outcomes that show the same: a test, and what is the same, part by part.
use Rattle.std.specs.Prelude.{◌≡◌, ◌==◌, ◌&&◌, Bool, true, false}
use Rattle.std.specs.Bool.{beq}
use Rattle.std.specs.Str.{bytes_eq}
use Rattle.mb_port.specs.declared.types.Mmu.{Mmu}
use Rattle.mb_instr.specs.declared.registers.Regs.{Regs}
use Rattle.mb_model.specs.declared.processor.Cpu.{Cpu}
use Rattle.mb_model.specs.declared.outcome.RunState.{RunState}
use Rattle.mb_model.specs.declared.outcome.RunState.TheVariants.{Running, Stopped, Halted, Off}
use Rattle.mb_model.specs.Seen.{Seen}

-- ---- the test

abbrev pub same_registers : Regs → Regs → Bool
same_registers a b =
    bytes_eq a.d b.d && bytes_eq a.a b.a
    && (a.usp == b.usp) && (a.isp == b.isp) && (a.msp == b.msp) && (a.pc == b.pc) && (a.sr == b.sr)

abbrev pub same_cpu : Cpu → Cpu → Bool
same_cpu a b =
    same_registers a.regs b.regs && (a.vbr == b.vbr) && (a.sfc == b.sfc) && (a.dfc == b.dfc) && (a.cacr == b.cacr)
    && beq a.stopped b.stopped

abbrev pub same_mmu : Mmu → Mmu → Bool
same_mmu a b =
    (a.tc == b.tc) && (a.itt0 == b.itt0) && (a.itt1 == b.itt1) && (a.dtt0 == b.dtt0) && (a.dtt1 == b.dtt1)
    && (a.mmusr == b.mmusr) && (a.urp == b.urp) && (a.srp == b.srp)

abbrev pub same_state : RunState → RunState → Bool
same_state Running Running = true
same_state Stopped Stopped = true
same_state Halted Halted = true
same_state Off Off = true
same_state _ _ = false

-- Two outcomes show the same in all.
abbrev pub same_seen : Seen → Seen → Bool
same_seen a b =
    same_cpu a.cpu b.cpu && same_mmu a.mmu b.mmu
    && bytes_eq a.console b.console && (a.lost == b.lost) && bytes_eq a.queue b.queue && (a.ctrl == b.ctrl)
    && (a.status == b.status) && (a.period == b.period) && (a.count == b.count) && (a.pending == b.pending)
    && (a.steps == b.steps) && same_state a.state b.state && bytes_eq a.ram b.ram

-- ---- part by part

pub record SameProcessor (a b : Seen) : Type 0 where
  pub cpu : a.cpu ≡ b.cpu
  pub mmu : a.mmu ≡ b.mmu

pub record SameRun (a b : Seen) : Type 0 where
  pub steps : a.steps ≡ b.steps
  pub state : a.state ≡ b.state
  pub ram : a.ram ≡ b.ram

pub record SameLine (a b : Seen) : Type 0 where
  pub console : a.console ≡ b.console
  pub lost : a.lost ≡ b.lost
  pub queue : a.queue ≡ b.queue
  pub ctrl : a.ctrl ≡ b.ctrl
  pub status : a.status ≡ b.status

pub record SameTimer (a b : Seen) : Type 0 where
  pub period : a.period ≡ b.period
  pub count : a.count ≡ b.count
  pub pending : a.pending ≡ b.pending
