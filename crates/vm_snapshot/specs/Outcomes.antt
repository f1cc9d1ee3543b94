-- A guest's lines of a snapshot have the outcome text in them.
use Rattle.std.specs.Prelude.{◌≡◌, ℕ, ◌*◌, List, [], ◌∷◌, length, slice_index}
use Rattle.mb_model.specs.Seen.{Seen}
use Rattle.mb_report.specs.Text.{outcome_text}
use Rattle.mb_saved.specs.declared.line.RamLine.{RamLine}
use Rattle.vm_snapshot.specs.Memory.{AreBytes}
use Rattle.vm_snapshot.specs.Memories.{rows_of}
use Rattle.vm_snapshot.specs.Guests.{Front, Progress, Registers, Devices, rows_in, outcome}

abbrev pub progress_of : Seen → Progress
progress_of seen = record {
  state = seen.state;
  steps = seen.steps;
  console = seen.console;
  lost = seen.lost;
  queue = seen.queue;
}

abbrev pub registers_of : Seen → Registers
registers_of seen = record {
  data_values =
      slice_index seen.cpu.regs.d 0 ∷ slice_index seen.cpu.regs.d 1 ∷ slice_index seen.cpu.regs.d 2
      ∷ slice_index seen.cpu.regs.d 3 ∷ slice_index seen.cpu.regs.d 4 ∷ slice_index seen.cpu.regs.d 5
      ∷ slice_index seen.cpu.regs.d 6 ∷ slice_index seen.cpu.regs.d 7 ∷ [];
  address_values =
      slice_index seen.cpu.regs.a 0 ∷ slice_index seen.cpu.regs.a 1 ∷ slice_index seen.cpu.regs.a 2
      ∷ slice_index seen.cpu.regs.a 3 ∷ slice_index seen.cpu.regs.a 4 ∷ slice_index seen.cpu.regs.a 5
      ∷ slice_index seen.cpu.regs.a 6 ∷ [];
  control_values =
      seen.cpu.regs.usp ∷ seen.cpu.regs.isp ∷ seen.cpu.regs.msp ∷ seen.cpu.regs.pc ∷ seen.cpu.regs.sr
      ∷ seen.cpu.vbr ∷ seen.cpu.sfc ∷ seen.cpu.dfc ∷ seen.cpu.cacr ∷ [];
  translation_values =
      seen.mmu.tc ∷ seen.mmu.itt0 ∷ seen.mmu.itt1 ∷ seen.mmu.dtt0 ∷ seen.mmu.dtt1 ∷ seen.mmu.mmusr
      ∷ seen.mmu.urp ∷ seen.mmu.srp ∷ [];
}

abbrev pub devices_of : Seen → Devices
devices_of seen = record {
  ctrl = seen.ctrl;
  status = seen.status;
  period = seen.period;
  count = seen.count;
  pending = seen.pending;
}

-- the lines of RAM of so many KiB
abbrev pub lines_in : (kib : ℕ) → Seen → List RamLine
lines_in kib seen = rows_of 0 (rows_in kib) seen.ram

-- Its RAM has so many KiB, and its terminal has bytes.
pub record IsOfSize (kib : ℕ) (seen : Seen) : Type 0 where
  pub size : length seen.ram ≡ 16 * rows_in kib
  pub console : AreBytes seen.console
  pub queue : AreBytes seen.queue

-- What is written of an outcome is the outcome text.
abbrev pub OutcomesAreWritten : Type 0
OutcomesAreWritten = (i : ℕ) (first : Front) (seen : Seen) → IsOfSize first.ram seen
    → (outcome i first).write (progress_of seen, (registers_of seen, (devices_of seen, lines_in first.ram seen)))
    ≡ outcome_text i seen
