-- A guest's lines, and those of all guests.
use Rattle.std.specs.Prelude.{ℕ, ◌+◌, ◌-◌, ◌*◌, ◌==◌, min, Bool, List, [], ◌∷◌, ◌++◌, codes, decimal, Option}
use Rattle.mb_port.specs.declared.types.MmuReg.TheVariants.{Tc, Itt0, Itt1, Dtt0, Dtt1, Mmusr, Urp, Srp}
use Rattle.mb_instr.specs.declared.control.ControlRegister.{ControlRegister}
use Rattle.mb_instr.specs.declared.control.ControlRegister.TheVariants as control
use Rattle.mb_instr.specs.Control.{control_name, kept_bits}
use Rattle.mb_model.specs.declared.kept.Kept.{Kept}
use Rattle.mb_model.specs.declared.outcome.RunState.{RunState}
use Rattle.mb_model.specs.declared.outcome.RunState.TheVariants.{Running, Stopped, Halted, Off}
use Rattle.mb_model.specs.declared.status.TheConstants.{STATUS_BITS}
use Rattle.mb_saved.specs.declared.line.RamLine.{RamLine}
use Rattle.mb_spelling.specs.Spelling.{Spelling, Either, First, Second, both, either, behind, before, said, shaped, word, more, none}
use Rattle.mb_spelling.specs.Hex.{May, any_number, masked, within, among, number}
use Rattle.mb_spelling.specs.Decimals.{Range, from_to, ranged}
use Rattle.mb_spelling.specs.Lists.{listed}
use Rattle.mb_spelling.specs.Ends.{Chain, counted}
use Rattle.vm_snapshot.specs.Pages.{kept_lines}
use Rattle.vm_snapshot.specs.Inputs.{InputLine, MOST, counts_32, inputs}
use Rattle.vm_snapshot.specs.Memory.{dump, memory}

-- ---- lines with a name

abbrev pub named : List ℕ → Range → Spelling ℕ
named name r = behind (name ++ 32 ∷ []) (ranged r 10)

abbrev pub long : List ℕ → May → Spelling ℕ
long name may = behind (name ++ 32 ∷ []) (before (number may 8 0) (10 ∷ []))

-- registers in a row, each with its name and which values it can have
abbrev pub longs : List (List ℕ × May) → Spelling (List ℕ)
longs [] = none
longs ((name, may) ∷ others) = more (long name may) (λ value. longs others)

-- ---- before the outcome

abbrev pub rams : Range
rams = record { least = 64; most = 16384; unit = 64 }

-- What comes before a guest's outcome.
pub record Front : Type 0 where
  -- RAM in KiB
  pub ram : ℕ
  pub kept : List Kept
  -- what is still to come by the script
  pub input : List InputLine

abbrev pub front_said : ℕ × (List Kept × List InputLine) → Front
front_said v = record { ram = v.0; kept = v.1.0; input = v.1.1 }

abbrev pub front_parts : Front → ℕ × (List Kept × List InputLine)
front_parts front = (front.ram, (front.kept, front.input))

abbrev pub front : Spelling Front
front =
    shaped (both (named (codes "ram") rams) (λ ram. both kept_lines (λ kept. inputs))) front_said front_parts

-- ---- what the machine has done

abbrev pub is_letter : ℕ → ℕ → Bool
is_letter letter c = c == letter

abbrev pub State : Type 0
State = Either RunState (Either RunState (Either RunState RunState))

abbrev pub state_said : Either RunState (Either RunState (Either RunState RunState)) → RunState
state_said (First state) = state
state_said (Second (First state)) = state
state_said (Second (Second (First state))) = state
state_said (Second (Second (Second state))) = state

abbrev pub state_parts : RunState → Either RunState (Either RunState (Either RunState RunState))
state_parts Running = First Running
state_parts Stopped = Second (First Stopped)
state_parts Halted = Second (Second (First Halted))
state_parts Off = Second (Second (Second Off))

abbrev pub states : Spelling RunState
states =
    shaped (either (is_letter 114) (said (codes "running\n") Running)
    (either (is_letter 115) (said (codes "stopped\n") Stopped)
    (either (is_letter 104) (said (codes "halted\n") Halted) (said (codes "off\n") Off)))) state_said state_parts

-- below the step of the first line that is still to come
abbrev pub steps_below : List InputLine → Range
steps_below [] = counts_32
steps_below (line ∷ lines) = from_to 0 (line.step - 1)

abbrev pub counts_64 : Range
counts_64 = from_to 0 18446744073709551615

pub record Progress : Type 0 where
  pub state : RunState
  pub steps : ℕ
  pub console : List ℕ
  pub lost : ℕ
  pub queue : List ℕ

abbrev pub progress_said : RunState × (ℕ × (List ℕ × (ℕ × List ℕ))) → Progress
progress_said v =
    record { state = v.0; steps = v.1.0; console = v.1.1.0; lost = v.1.1.1.0; queue = v.1.1.1.1 }

abbrev pub progress_parts : Progress → RunState × (ℕ × (List ℕ × (ℕ × List ℕ)))
progress_parts p = (p.state, (p.steps, (p.console, (p.lost, p.queue))))

-- of guest i, for which such input is still to come
abbrev pub progress : (i : ℕ) → List InputLine → Spelling Progress
progress i input =
    shaped (both (behind (codes "guest " ++ (decimal i ++ codes "\nstate ")) states) (λ state.
    both (named (codes "steps") (steps_below input)) (λ steps.
    both (behind (codes "console ") (listed (from_to 0 65536) 10 dump)) (λ console.
    both (named (codes "lost") counts_64) (λ lost. behind (codes "queue ") (listed (from_to 0 16) 10 dump))))))
    progress_said progress_parts

-- ---- the registers

abbrev pub data_registers : List (List ℕ × May)
data_registers =
    (codes "D0", any_number) ∷ (codes "D1", any_number) ∷ (codes "D2", any_number) ∷ (codes "D3", any_number)
    ∷ (codes "D4", any_number) ∷ (codes "D5", any_number) ∷ (codes "D6", any_number) ∷ (codes "D7", any_number) ∷ []

abbrev pub address_registers : List (List ℕ × May)
address_registers =
    (codes "A0", any_number) ∷ (codes "A1", any_number) ∷ (codes "A2", any_number) ∷ (codes "A3", any_number)
    ∷ (codes "A4", any_number) ∷ (codes "A5", any_number) ∷ (codes "A6", any_number) ∷ []

-- a control register that keeps all bits, and one that keeps some
abbrev pub whole : ControlRegister → List ℕ × May
whole register = (control_name register, any_number)

abbrev pub partial : ControlRegister → List ℕ × May
partial register = (control_name register, masked (kept_bits register))

abbrev pub control_registers : List (List ℕ × May)
control_registers =
    whole control.Usp ∷ whole control.Isp ∷ whole control.Msp ∷ (codes "PC", any_number)
    ∷ (codes "SR", masked STATUS_BITS) ∷ whole control.Vbr ∷ partial control.Sfc ∷ partial control.Dfc
    ∷ partial control.Cacr ∷ []

abbrev pub translation_registers : List (List ℕ × May)
translation_registers =
    partial (control.Mmu Tc) ∷ partial (control.Mmu Itt0) ∷ partial (control.Mmu Itt1) ∷ partial (control.Mmu Dtt0)
    ∷ partial (control.Mmu Dtt1) ∷ partial (control.Mmu Mmusr) ∷ partial (control.Mmu Urp) ∷ partial (control.Mmu Srp)
    ∷ []

-- The values of the registers, in the order of their lines.
pub record Registers : Type 0 where
  pub data_values : List ℕ
  pub address_values : List ℕ
  pub control_values : List ℕ
  pub translation_values : List ℕ

abbrev pub registers_said : List ℕ × (List ℕ × (List ℕ × List ℕ)) → Registers
registers_said v =
    record { data_values = v.0; address_values = v.1.0; control_values = v.1.1.0; translation_values = v.1.1.1 }

abbrev pub registers_parts : Registers → List ℕ × (List ℕ × (List ℕ × List ℕ))
registers_parts r = (r.data_values, (r.address_values, (r.control_values, r.translation_values)))

abbrev pub registers : Spelling Registers
registers =
    shaped (both (longs data_registers) (λ d. both (longs address_registers) (λ a. both (longs control_registers) (λ c.
    longs translation_registers)))) registers_said registers_parts

-- ---- the devices

-- 0 or 1
abbrev pub bit : May
bit = among (0 ∷ 1 ∷ [])

-- bit 0 where a byte is queued, bit 1 always, and bit 2 or not
abbrev pub status_for : (queue : List ℕ) → ℕ
status_for [] = 2
status_for (b ∷ queue) = 3

abbrev pub status : (queue : List ℕ) → May
status queue = among (status_for queue ∷ (status_for queue + 4) ∷ [])

-- at most the period, and 0 exactly where the period is
abbrev pub count : (period : ℕ) → May
count period = within (min 1 period) period

pub record Devices : Type 0 where
  pub ctrl : ℕ
  pub status : ℕ
  pub period : ℕ
  pub count : ℕ
  pub pending : ℕ

abbrev pub devices_said : ℕ × (ℕ × (ℕ × (ℕ × ℕ))) → Devices
devices_said v =
    record { ctrl = v.0; status = v.1.0; period = v.1.1.0; count = v.1.1.1.0; pending = v.1.1.1.1 }

abbrev pub devices_parts : Devices → ℕ × (ℕ × (ℕ × (ℕ × ℕ)))
devices_parts d = (d.ctrl, (d.status, (d.period, (d.count, d.pending))))

-- of a machine with such a queue
abbrev pub devices : (queue : List ℕ) → Spelling Devices
devices queue =
    shaped (both (long (codes "CTRL") bit) (λ ctrl. both (long (codes "STATUS") (status queue)) (λ status_value.
    both (long (codes "PERIOD") any_number) (λ period. both (long (codes "COUNT") (count period)) (λ count_value.
    long (codes "PENDING") bit))))) devices_said devices_parts

-- ---- a guest

-- rows of 16 bytes in so many KiB
abbrev pub rows_in : (kib : ℕ) → ℕ
rows_in kib = 64 * kib

pub record Guest : Type 0 where
  pub front : Front
  pub progress : Progress
  pub registers : Registers
  pub devices : Devices
  -- RAM
  pub lines : List RamLine

abbrev pub guest_said : Front × (Progress × (Registers × (Devices × List RamLine))) → Guest
guest_said v =
    record { front = v.0; progress = v.1.0; registers = v.1.1.0; devices = v.1.1.1.0; lines = v.1.1.1.1 }

abbrev pub guest_parts : Guest → Front × (Progress × (Registers × (Devices × List RamLine)))
guest_parts g = (g.front, (g.progress, (g.registers, (g.devices, g.lines))))

-- what follows the first lines of guest i
abbrev pub outcome : (i : ℕ) → Front → Spelling (Progress × (Registers × (Devices × List RamLine)))
outcome i first =
    both (progress i first.input) (λ p. both registers (λ r. both (devices p.queue) (λ d. memory (rows_in first.ram))))

abbrev pub guest : (i : ℕ) → Spelling Guest
guest i = shaped (both front (outcome i)) guest_said guest_parts

-- ---- a disk

pub record Disk : Type 0 where
  pub blocks : ℕ
  pub block : ℕ
  -- RESULT
  pub outcome : ℕ
  pub position : ℕ
  pub buffer : List ℕ
  -- the bytes of the blocks
  pub lines : List RamLine

abbrev pub disk_said : ℕ × (ℕ × (ℕ × (ℕ × (List ℕ × List RamLine)))) → Disk
disk_said v =
    record {
      blocks = v.0;
      block = v.1.0;
      outcome = v.1.1.0;
      position = v.1.1.1.0;
      buffer = v.1.1.1.1.0;
      lines = v.1.1.1.1.1;
    }

abbrev pub disk_parts : Disk → ℕ × (ℕ × (ℕ × (ℕ × (List ℕ × List RamLine))))
disk_parts d = (d.blocks, (d.block, (d.outcome, (d.position, (d.buffer, d.lines)))))

-- what follows the first line of a disk of so many blocks
abbrev pub disk_rest : (blocks : ℕ) → Spelling (ℕ × (ℕ × (ℕ × (List ℕ × List RamLine))))
disk_rest blocks =
    both (long (codes "BLOCK") any_number) (λ block. both (long (codes "RESULT") bit) (λ result.
    both (long (codes "POSITION") (masked 0x1FC)) (λ position. both (dump 512) (λ buffer. memory (32 * blocks)))))

abbrev pub disk : (i : ℕ) → Spelling Disk
disk i =
    shaped (both (behind (codes "disk " ++ (decimal i ++ codes " blocks ")) (ranged (from_to 1 32768) 10)) disk_rest)
    disk_said disk_parts

-- ---- all guests

abbrev pub is_disk : ℕ → Bool
is_disk c = c == 100

-- guest i, its disk if it has one, and then the next
abbrev pub guests : Chain Guest Disk ℕ
guests = record { test = is_disk; item = guest; extra = disk; next = λ i. i + 1 }

abbrev pub boards : Range
boards = record { least = 128; most = 65536; unit = 64 }

-- The board in KiB, the steps of a turn, and the guests, each with its disk if it has one.
pub record Snapshot : Type 0 where
  pub board : ℕ
  pub slice : ℕ
  pub guests : List (Guest × Option Disk)

abbrev pub snapshot_said : ℕ × (ℕ × (Unit {0} × List (Guest × Option Disk))) → Snapshot
snapshot_said v = record { board = v.0; slice = v.1.0; guests = v.1.1.1 }

abbrev pub snapshot_parts : Snapshot → ℕ × (ℕ × (Unit {0} × List (Guest × Option Disk)))
snapshot_parts s = (s.board, (s.slice, (tt, s.guests)))

-- The text of a snapshot.
abbrev pub snapshot : Spelling Snapshot
snapshot =
    shaped (both (behind (codes "snapshot 1\n") (named (codes "board") boards)) (λ board.
    both (named (codes "slice") (from_to 1 MOST)) (λ slice.
    both (word (codes "guests ")) (λ v. counted guests (from_to 1 16) 10 1)))) snapshot_said snapshot_parts
