-- What contracts see of the code's answers.
use Rattle.std.specs.Prelude.{◌≡◌, List, [], ◌∷◌, ℕ, Result, Ok, Err}
use Rattle.mb_port.specs.declared.types.Mmu.{Mmu}
use Rattle.mb_saved.specs.declared.line.RamLine.{RamLine}
use Rattle.mb_spelling.specs.Spelling.{Reading, Read, Short, Wrong}
use Rattle.mb_spelling.specs.declared.stop.Stop.TheVariants as stop
use Rattle.vm_snapshot.specs.Guests.{Devices, Disk, Front, Progress, Registers}
use Rattle.vm_snapshot.specs.Inputs.{Abort, Bytes, Due, InputLine, SoFar}
use Rattle.vm_snapshot.specs.Runs.{lines_of}
use Rattle.vm_snapshot.specs.declared.device_reading.Devices as devices
use Rattle.vm_snapshot.specs.declared.told.DiskLines as disk
use Rattle.vm_snapshot.specs.declared.told.Front as front
use Rattle.vm_snapshot.specs.declared.told.Told as told
use Rattle.vm_snapshot.specs.declared.input_reading.Due as arriving
use Rattle.vm_snapshot.specs.declared.input_reading.Due.TheVariants as due
use Rattle.vm_snapshot.specs.declared.input_reading.InputLine as line
use Rattle.vm_snapshot.specs.declared.input_reading.SoFar as before
use Rattle.vm_snapshot.specs.declared.progress_reading.Progress as progress
use Rattle.vm_snapshot.specs.declared.refusal.Refusal.{Refusal}
use Rattle.vm_snapshot.specs.declared.refusal.Refusal.TheVariants as refusal
use Rattle.vm_snapshot.specs.declared.register_reading.Control as control
use Rattle.vm_snapshot.specs.declared.register_reading.Registers as registers

-- an answer that may also be want of memory, of which nothing is said
abbrev pub ReadsOr : {X A : Type 0} → (X → A) → Result X Refusal → List ℕ → Reading A → Type 0
ReadsOr view (Ok x) left reading = reading ≡ Read (view x) left
ReadsOr view (Err refusal.Memory) left reading = Unit {0}
ReadsOr view (Err (refusal.Stopped stop.Short)) left reading = reading ≡ Short
ReadsOr view (Err (refusal.Stopped stop.Wrong)) left reading = reading ≡ Wrong left

abbrev pub due_seen : arriving.Due → Due
due_seen (due.Bytes bytes) = Bytes bytes.items
due_seen due.Abort = Abort

abbrev pub line_seen : line.InputLine → InputLine
line_seen line = record { step = line.step; due = due_seen line.due }

abbrev pub so_far_seen : before.SoFar → SoFar
so_far_seen s = record { last = s.last; bytes = s.bytes; total = s.total }

abbrev pub front_seen : front.Front → Front
front_seen f = record { ram = f.ram; kept = f.kept.items; input = lines_of f.script }

abbrev pub progress_seen : progress.Progress → Progress
progress_seen p =
    record { state = p.state; steps = p.steps; console = p.console.items; lost = p.lost; queue = p.queue.items }

abbrev pub control_seen : control.Control → List ℕ
control_seen c = c.usp ∷ c.isp ∷ c.msp ∷ c.pc ∷ c.sr ∷ c.vbr ∷ c.sfc ∷ c.dfc ∷ c.cacr ∷ []

abbrev pub translation_seen : Mmu → List ℕ
translation_seen m = m.tc ∷ m.itt0 ∷ m.itt1 ∷ m.dtt0 ∷ m.dtt1 ∷ m.mmusr ∷ m.urp ∷ m.srp ∷ []

abbrev pub registers_seen : registers.Registers → Registers
registers_seen r = record {
  data_values = r.data;
  address_values = r.addresses;
  control_values = control_seen r.control;
  translation_values = translation_seen r.translation;
}

abbrev pub devices_seen : devices.Devices → Devices
devices_seen d =
    record { ctrl = d.ctrl; status = d.status; period = d.period; count = d.count; pending = d.pending }

abbrev pub told_seen : told.Told → Progress × (Registers × (Devices × List RamLine))
told_seen t = (progress_seen t.progress, (registers_seen t.registers, (devices_seen t.devices, t.lines.items)))

abbrev pub disk_seen : disk.DiskLines → Disk
disk_seen d = record {
  blocks = d.blocks;
  block = d.block;
  outcome = d.outcome;
  position = d.position;
  buffer = d.buffer.items;
  lines = d.lines.items;
}
