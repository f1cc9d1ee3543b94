-- The rest of a step from where it was left: what an attempt's end leaves to do, and how that is carried out.
use Rattle.std.specs.Prelude.{◌≡◌, ℕ, ◌≤◌, true, List, [], ◌∷◌}
use Rattle.mb_port.specs.Routine.{Bus, Routine, run}
use Rattle.mb_instr.specs.declared.instruction.Instr.{Instr}
use Rattle.mb_instr.specs.declared.registers.Plain.{Plain}
use Rattle.mb_instr.specs.Registers.{plain_of}
use Rattle.mb_frames.specs.declared.pend.Pend.{Pend}
use Rattle.mb_model.specs.declared.processor.Cpu.{Cpu}
use Rattle.mb_model.specs.Status.{space_of}
use Rattle.mb_writes.specs.declared.ends.Ended.{Ended}
use Rattle.mb_writes.specs.declared.ends.Ended.TheVariants as ended
use Rattle.mb_writes.specs.Transfers.{movem_in}
use Rattle.def_instructions.specs.Ends.{Carried}
use Rattle.def_processor.specs.SystemEnds.{with_registers}
use Rattle.def_processor.specs.Raise.{Stepped, cause_at}
use Rattle.def_processor.specs.Step.{movem_words, finish_instruction_of, interrupt_mask, step_of, rank}
use Rattle.law_tells.specs.Left.{completing_writes, completing_line, completing_transfers}
use Rattle.law_attempts.specs.Attempts.{IsUntraced, NoOther, is_attempted, fetched_by, attempted_by}
use Rattle.def_runs.specs.declared.left.LeftOver.{LeftOver}
use Rattle.def_runs.specs.declared.left.LeftOver.TheVariants.{Again, Writes, Line, Movem}
use Rattle.def_runs.specs.Finishes.{at_next, finish_trap_of, finish_writes_of, finish_line_of, finish_movem_of}

-- ---- what is left

-- pieces that are still to be written; where there are none, none was
abbrev pub left_pieces : List Pend → ℕ → LeftOver
left_pieces [] first = Again
left_pieces (piece ∷ pieces) first = Writes (record { items = piece ∷ pieces }) first

-- by the instruction, its end, and the registers then
abbrev pub left_by_end : Instr → Ended → Plain → LeftOver
left_by_end i (ended.WriteFault refused) after = left_pieces refused.rest.items refused.first
left_by_end i (ended.LineFault fault line) after = Line fault.at line
left_by_end i (ended.Movem refused) after = Movem (movem_words i) refused.first refused.done after.pc
left_by_end i _ after = Again

-- the registers that are handed on: a MOVEM has its own PC, and the next one beside
abbrev pub handed : Ended → (before after : Plain) → Plain
handed (ended.Movem refused) before after = record after { pc = before.pc }
handed _ before after = after

-- ---- how it is carried out

-- What was left, from the processor before the step and the registers now: the whole step once more, or a finish.
abbrev pub rest_by : LeftOver → (level : ℕ) → Cpu → Plain → Routine Stepped
rest_by Again level cpu p = step_of level cpu
rest_by (Writes pending first) level cpu p = finish_writes_of pending.items first (with_registers p cpu)
rest_by (Line at line) level cpu p = finish_line_of at line (with_registers p cpu)
rest_by (Movem words ea done next) level cpu p = finish_movem_of words ea done next (with_registers p cpu)

-- The rest of a step whose attempt ended so: a trap is entered, else what was left is carried out.
abbrev pub rest_of : (level : ℕ) → Cpu → Instr → Ended → Plain → Routine Stepped
rest_of level cpu i (ended.Trap vector) after =
    finish_trap_of (cause_at vector after.pc cpu.regs.pc) (plain_of cpu.regs) (with_registers after cpu)
rest_of level cpu i end after = rest_by (left_by_end i end after) level cpu (handed end (plain_of cpu.regs) after)

-- ---- the finishes are that rest, over every bus

-- The same routine, over every bus.
abbrev pub SameOver : (S : Type 0) → Routine Stepped → Routine Stepped → Type 0
SameOver S m n = (bus : Bus S) (s : S) → run bus m s ≡ run bus n s

-- An untraced instruction that traps is finished by the entry of its trap.
abbrev pub TrapsAreFinished : Type 0 → Type 0
TrapsAreFinished S = (i : Instr) (vector : ℕ) (before : Plain) (cpu : Cpu) → IsUntraced (with_registers before cpu)
    → SameOver S (finish_instruction_of i (ended.Trap vector) (with_registers before cpu) cpu)
    (finish_trap_of (cause_at vector cpu.regs.pc (with_registers before cpu).regs.pc) before cpu)

-- An untraced step begins an instruction: no interrupt is taken.
pub record Begins {S : Type 0} (bus : Bus S) (level : ℕ) (cpu : Cpu) (s : S) (i : Instr) : Type 0 where
  pub masked : rank level ≤ interrupt_mask cpu
  pub untraced : IsUntraced cpu
  pub found : let (found, _) = fetched_by bus cpu s in NoOther i found
  pub attempted : is_attempted i cpu ≡ true

-- Where its attempt goes on with pieces to be written, from some state, the step goes on by their finish.
abbrev pub DeniedWritesGoOn : Type 0 → Type 0
DeniedWritesGoOn S = (bus : Bus S) (level : ℕ) (cpu : Cpu) (s t : S) (i : Instr) (first : ℕ) (pieces : List Pend)
    (done : Carried) → Begins bus level cpu s i
    → attempted_by bus cpu s ≡ run bus (completing_writes (space_of cpu) first pieces done) t
    → run bus (step_of level cpu) s ≡ run bus (finish_writes_of pieces first (with_registers done.plain cpu)) t

-- The same with the line of a MOVE16,
abbrev pub DeniedLinesGoOn : Type 0 → Type 0
DeniedLinesGoOn S = (bus : Bus S) (level : ℕ) (cpu : Cpu) (s t : S) (i : Instr) (at : ℕ) (line : List ℕ)
    (done : Carried) → Begins bus level cpu s i
    → attempted_by bus cpu s ≡ run bus (completing_line (space_of cpu) at line done) t
    → run bus (step_of level cpu) s ≡ run bus (finish_line_of at line (with_registers done.plain cpu)) t

-- and with a MOVEM from a transfer on. The processor handed on has the registers of now, but the MOVEM's own PC.
pub record HandsOn (cpu now : Cpu) : Type 0 where
  pub space : space_of now ≡ space_of cpu
  pub pc : now.regs.pc ≡ cpu.regs.pc
  pub others : (p : Plain) → with_registers p now ≡ with_registers p cpu

abbrev pub DeniedTransfersGoOn : Type 0 → Type 0
DeniedTransfersGoOn S = (bus : Bus S) (level : ℕ) (cpu now : Cpu) (s t : S) (i : Instr) (ea done next : ℕ)
    → Begins bus level cpu s i → HandsOn cpu now
    → attempted_by bus cpu s
    ≡ run bus (completing_transfers (movem_in (movem_words i)) ea done (space_of cpu) (at_next next now)) t
    → run bus (step_of level cpu) s ≡ run bus (finish_movem_of (movem_words i) ea done next now) t
