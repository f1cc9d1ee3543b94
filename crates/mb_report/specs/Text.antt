-- The outcome text: lines of ASCII, each ended by LF.
use Rattle.std.specs.Prelude.{ℕ, ◌+◌, ◌-◌, ◌*◌, ◌/◌, ◌++◌, ◌==◌, zero, suc, Bool, List, [], ◌∷◌, length, take, drop}
use Rattle.std.specs.Prelude.{slice_index, if◌then◌else◌, codes, decimal}
use Rattle.std.specs.List.{list_all, flat_map}
use Rattle.mb_report.specs.Digits.{digits, hex8}
use Rattle.mb_model.specs.declared.outcome.RunState.{RunState}
use Rattle.mb_model.specs.declared.outcome.RunState.TheVariants.{Running, Stopped, Halted, Off}
use Rattle.mb_model.specs.Seen.{Seen}

-- a name, a space and a word
abbrev pub word_line : List ℕ → List ℕ → List ℕ
word_line name word = name ++ 32 ∷ [] ++ word ++ 10 ∷ []

-- a name and a decimal number
abbrev pub count_line : List ℕ → ℕ → List ℕ
count_line name n = word_line name (decimal n)

-- Rows of `width` bytes, each written by `line` with the place where it begins: the first `count`.
abbrev pub first_rows : (ℕ → List ℕ → List ℕ) → ℕ → List ℕ → ℕ → List ℕ
first_rows line width bytes zero = []
first_rows line width bytes (suc count) =
    first_rows line width bytes count ++ line (width * count) (take width (drop (width * count) bytes))

-- all of them; the last row has what is left
abbrev pub all_rows : (ℕ → List ℕ → List ℕ) → ℕ → List ℕ → List ℕ
all_rows line width bytes = first_rows line width bytes ((length bytes + (width - 1)) / width)

abbrev pub state_word : RunState → List ℕ
state_word Running = codes "running"
state_word Stopped = codes "stopped"
state_word Halted = codes "halted"
state_word Off = codes "off"

-- a row of a dump: two digits a byte
abbrev pub dump_line : ℕ → List ℕ → List ℕ
dump_line at row = digits row ++ 10 ∷ []

-- a name with how many bytes there are, and the bytes in rows of 32
abbrev pub bytes_text : List ℕ → List ℕ → List ℕ
bytes_text name bytes = count_line name (length bytes) ++ all_rows dump_line 32 bytes

-- how a line of the text shows its value
pub data Shown : Type 0 where
  -- in decimal
  number : ℕ → Shown
  -- as a word
  word : List ℕ → Shown
  -- how many bytes there are, in decimal, and then the bytes
  bytes : List ℕ → Shown
  -- in eight digits
  long : ℕ → Shown

-- a name and a value
abbrev pub line_text : List ℕ × Shown → List ℕ
line_text (name, number n) = count_line name n
line_text (name, word w) = word_line name w
line_text (name, bytes shown) = bytes_text name shown
line_text (name, long value) = word_line name (hex8 value)

-- A line is its name, and its value as it is shown. First what the machine did, and its terminal.
abbrev pub head_lines : ℕ → Seen → List (List ℕ × Shown)
head_lines guest seen =
    (codes "guest", number guest)
    ∷ (codes "state", word (state_word seen.state))
    ∷ (codes "steps", number seen.steps)
    ∷ (codes "console", bytes seen.console)
    ∷ (codes "lost", number seen.lost)
    ∷ (codes "queue", bytes seen.queue)
    ∷ []

-- the processor's registers, and those of translation
abbrev pub register_lines : Seen → List (List ℕ × Shown)
register_lines seen =
    (codes "D0", long (slice_index seen.cpu.regs.d 0))
    ∷ (codes "D1", long (slice_index seen.cpu.regs.d 1))
    ∷ (codes "D2", long (slice_index seen.cpu.regs.d 2))
    ∷ (codes "D3", long (slice_index seen.cpu.regs.d 3))
    ∷ (codes "D4", long (slice_index seen.cpu.regs.d 4))
    ∷ (codes "D5", long (slice_index seen.cpu.regs.d 5))
    ∷ (codes "D6", long (slice_index seen.cpu.regs.d 6))
    ∷ (codes "D7", long (slice_index seen.cpu.regs.d 7))
    ∷ (codes "A0", long (slice_index seen.cpu.regs.a 0))
    ∷ (codes "A1", long (slice_index seen.cpu.regs.a 1))
    ∷ (codes "A2", long (slice_index seen.cpu.regs.a 2))
    ∷ (codes "A3", long (slice_index seen.cpu.regs.a 3))
    ∷ (codes "A4", long (slice_index seen.cpu.regs.a 4))
    ∷ (codes "A5", long (slice_index seen.cpu.regs.a 5))
    ∷ (codes "A6", long (slice_index seen.cpu.regs.a 6))
    ∷ (codes "USP", long seen.cpu.regs.usp)
    ∷ (codes "ISP", long seen.cpu.regs.isp)
    ∷ (codes "MSP", long seen.cpu.regs.msp)
    ∷ (codes "PC", long seen.cpu.regs.pc)
    ∷ (codes "SR", long seen.cpu.regs.sr)
    ∷ (codes "VBR", long seen.cpu.vbr)
    ∷ (codes "SFC", long seen.cpu.sfc)
    ∷ (codes "DFC", long seen.cpu.dfc)
    ∷ (codes "CACR", long seen.cpu.cacr)
    ∷ (codes "TC", long seen.mmu.tc)
    ∷ (codes "ITT0", long seen.mmu.itt0)
    ∷ (codes "ITT1", long seen.mmu.itt1)
    ∷ (codes "DTT0", long seen.mmu.dtt0)
    ∷ (codes "DTT1", long seen.mmu.dtt1)
    ∷ (codes "MMUSR", long seen.mmu.mmusr)
    ∷ (codes "URP", long seen.mmu.urp)
    ∷ (codes "SRP", long seen.mmu.srp)
    ∷ []

-- the devices
abbrev pub device_lines : Seen → List (List ℕ × Shown)
device_lines seen =
    (codes "CTRL", long seen.ctrl)
    ∷ (codes "STATUS", long seen.status)
    ∷ (codes "PERIOD", long seen.period)
    ∷ (codes "COUNT", long seen.count)
    ∷ (codes "PENDING", long seen.pending)
    ∷ []

-- the lines before those of memory, in their order
abbrev pub lines_of : ℕ → Seen → List (List ℕ × Shown)
lines_of guest seen = head_lines guest seen ++ register_lines seen ++ device_lines seen

abbrev pub is_zero : List ℕ → Bool
is_zero row = list_all (λ byte. byte == 0) row

-- a row of memory with its address
abbrev pub row_line : ℕ → List ℕ → List ℕ
row_line at row = word_line (hex8 at) (digits row)

-- the same, or nothing where it is all zero
abbrev pub memory_line : ℕ → List ℕ → List ℕ
memory_line at row = if is_zero row then [] else row_line at row

abbrev pub memory_text : List ℕ → List ℕ
memory_text ram = all_rows memory_line 16 ram

-- the whole text of a guest's outcome
abbrev pub outcome_text : ℕ → Seen → List ℕ
outcome_text guest seen = flat_map line_text (lines_of guest seen) ++ memory_text seen.ram ++ codes "end\n"
