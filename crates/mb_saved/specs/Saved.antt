-- What is saved of a machine, but for its disk, and what can be saved of a guest's.
use Rattle.std.specs.Prelude.{◌≡◌, ℕ, ◌+◌, ◌*◌, ◌/◌, ◌%◌, ◌<◌, ◌≤◌, ◌==◌, not, Bool, true, false}
use Rattle.std.specs.Prelude.{List, length, bit_and, All}
use Rattle.std.specs.List.{AllPairs, list_all}
use Rattle.std.specs.Int.{from_bool}
use Rattle.mb_port.specs.declared.types.Mmu.{Mmu}
use Rattle.mb_port.specs.declared.types.MmuReg.{MmuReg}
use Rattle.mb_port.specs.Registers.{mmu_register}
use Rattle.mb_instr.specs.declared.control.ControlRegister.TheVariants as control
use Rattle.mb_instr.specs.Control.{kept_bits}
use Rattle.mb_model.specs.declared.kept.Kept.{Kept}
use Rattle.mb_model.specs.declared.processor.Cpu.{Cpu}
use Rattle.mb_model.specs.declared.outcome.RunState.{RunState}
use Rattle.mb_model.specs.declared.outcome.RunState.TheVariants.{Running, Stopped, Halted, Off}
use Rattle.mb_model.specs.Keeping.{rule_k, Apart, NamesPages}
use Rattle.mb_model.specs.Status.{kept_status}
use Rattle.mb_saved.specs.declared.line.RamLine.{RamLine}
use Rattle.mb_saved.specs.declared.rooms.TheConstants.{LINE_BYTES, MOST_QUEUED, MOST_RAM, MOST_SENT, RAM_UNIT}

pub record Saved : Type 0 where
  -- the bytes of RAM
  pub ram : ℕ
  pub cpu : Cpu
  pub mmu : Mmu
  -- what is kept, the oldest first
  pub kept : List Kept
  pub steps : ℕ
  pub state : RunState
  -- the lines of RAM that are not all zero
  pub lines : List RamLine
  pub console : List ℕ
  pub lost : ℕ
  pub queue : List ℕ
  pub ctrl : ℕ
  pub status : ℕ
  pub period : ℕ
  pub count : ℕ
  pub pending : ℕ

abbrev pub is_stopped : RunState → Bool
is_stopped Running = false
is_stopped Stopped = true
is_stopped Halted = false
is_stopped Off = false

abbrev pub is_off : RunState → Bool
is_off Running = false
is_off Stopped = false
is_off Halted = false
is_off Off = true

-- ---- what is lawful

-- 64 to 16,384 KiB, a multiple of 64
abbrev pub IsRamBytes : ℕ → Type 0
IsRamBytes bytes = (RAM_UNIT ≤ bytes) × (bytes ≤ MOST_RAM) × (bytes % RAM_UNIT ≡ 0)

-- a number has no bits but these
abbrev pub Fits : ℕ → ℕ → Type 0
Fits bits value = bit_and value bits ≡ value

-- Registers have no bits but those that they keep.
pub record HasBits (cpu : Cpu) (mmu : Mmu) : Type 0 where
  pub status : kept_status cpu.regs.sr ≡ cpu.regs.sr
  pub source : Fits (kept_bits control.Sfc) cpu.sfc
  pub destination : Fits (kept_bits control.Dfc) cpu.dfc
  pub caches : Fits (kept_bits control.Cacr) cpu.cacr
  pub translation : (which : MmuReg) → Fits (kept_bits (control.Mmu which)) (mmu_register mmu which)

-- a row of bytes is all zero
abbrev pub is_zero : List ℕ → Bool
is_zero row = list_all (λ byte. byte == 0) row

-- A line lies in memory of so many bytes, and is not all zero.
pub record IsLine (size : ℕ) (line : RamLine) : Type 0 where
  pub aligned : line.at % LINE_BYTES ≡ 0
  pub inside : line.at + LINE_BYTES ≤ size
  pub count : length line.bytes ≡ LINE_BYTES
  pub some : is_zero line.bytes ≡ false

-- STATUS has bit 0 set exactly where bytes are queued, bit 1 set, bit 2 in either way, and no other.
abbrev pub AgreesWith : List ℕ → ℕ → Type 0
AgreesWith queue status = status ≡ from_bool (not (length queue == 0)) + 2 + 4 * (status / 4 % 2)

-- As many entries as a guest keeps at most, each of a page and of a frame, and at most one of a space and page.
pub record CanBeKept (kept : List Kept) : Type 0 where
  pub few : length kept ≤ rule_k.capacity
  pub names : All NamesPages kept
  pub apart : Apart kept

-- A guest's machine can be so. What stands in RAM, and whether what is kept lies in it, is left open.
pub record IsLawful (s : Saved) : Type 0 where
  pub ram : IsRamBytes s.ram
  pub bits : HasBits s.cpu s.mmu
  pub stopped : s.cpu.stopped ≡ is_stopped s.state
  pub kept : CanBeKept s.kept
  pub lines : All (IsLine s.ram) s.lines
  pub in_order : AllPairs (λ first later. first.at < later.at) s.lines
  pub console : length s.console ≤ MOST_SENT
  pub queue : length s.queue ≤ MOST_QUEUED
  pub status : AgreesWith s.queue s.status
  pub ctrl : s.ctrl < 2
  pub count : s.count ≤ s.period
  pub runs : 0 < s.period → 0 < s.count
  pub pending : s.pending < 2
