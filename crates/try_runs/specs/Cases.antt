-- What a case says of a machine, and when it passes.
use Rattle.std.specs.Prelude.{◌≡◌, ℕ, ◌<◌, List, [], ◌∷◌, map, replicate, slice_index, slice_set, bit_and, bit_xor}
use Rattle.std.specs.Prelude.{false, if◌then◌else◌}
use Rattle.std.specs.Int.{from_bool}
use Rattle.mb_port.specs.declared.types.Mmu.{Mmu}
use Rattle.mb_model.specs.declared.processor.Cpu.{Cpu}
use Rattle.mb_model.specs.declared.outcome.RunState.TheVariants.{Running}
use Rattle.mb_model.specs.Keeping.{rule_a}
use Rattle.mb_model.specs.Seen.{Seen}
use Rattle.def_machine.specs.Machine.{diskless, run_of, seen_machine, start}
use Rattle.mb_walk.specs.Memory.{Contents, with_contents}
use Rattle.try_runs.specs.declared.cases.chunk.Chunk.{Chunk}
use Rattle.try_runs.specs.declared.cases.chunk.UnsaidBits.{UnsaidBits}
use Rattle.try_runs.specs.declared.cases.chunk.TheConstants.{RAM_SIZE}
use Rattle.try_runs.specs.declared.cases.registers.TheConstants.{COUNT}
use Rattle.try_runs.specs.declared.cases.case.Case.{Case}
use Rattle.try_runs.specs.declared.cases.case.TheConstants.{PERIOD}

-- ---- what may be either

-- a number as it is said, but with the unsaid bits that the machine has
abbrev pub settled : (unsaid said got : ℕ) → ℕ
settled unsaid said got = bit_xor said (bit_and (bit_xor said got) unsaid)

-- memory as it is said, but with the unsaid bits that the machine has
abbrev pub settled_in : List UnsaidBits → (said got : List ℕ) → List ℕ
settled_in [] said got = said
settled_in (unsaid ∷ others) said got =
    let byte = settled unsaid.bits (slice_index said unsaid.at) (slice_index got unsaid.at) in
    settled_in others (slice_set said unsaid.at byte) got

-- ---- registers

-- all registers of a machine, in one order
abbrev pub registers_of : Cpu → Mmu → List ℕ
registers_of cpu mmu =
    let d = slice_index cpu.regs.d in
    let a = slice_index cpu.regs.a in
    d 0 ∷ d 1 ∷ d 2 ∷ d 3 ∷ d 4 ∷ d 5 ∷ d 6 ∷ d 7 ∷ a 0 ∷ a 1 ∷ a 2 ∷ a 3 ∷ a 4 ∷ a 5 ∷ a 6
    ∷ cpu.regs.usp ∷ cpu.regs.isp ∷ cpu.regs.msp ∷ cpu.regs.pc ∷ cpu.regs.sr
    ∷ cpu.vbr ∷ cpu.sfc ∷ cpu.dfc ∷ cpu.cacr
    ∷ mmu.tc ∷ mmu.urp ∷ mmu.srp ∷ mmu.itt0 ∷ mmu.itt1 ∷ mmu.dtt0 ∷ mmu.dtt1 ∷ mmu.mmusr ∷ []

-- each register is as the case says, but for its unsaid bits
abbrev pub HasRegisters : Case → List ℕ → Type 0
HasRegisters case got =
    (i : ℕ) → i < COUNT
    → slice_index got i ≡ settled (slice_index case.unsaid i) (slice_index case.after i) (slice_index got i)

-- ---- the machine before and after

-- an image: addresses, each with the bytes that stand from there on
abbrev pub contents_of : List Chunk → Contents
contents_of chunks = map (λ chunk. (chunk.at, chunk.bytes.items)) chunks

-- RAM before the case
abbrev pub memory_before : Case → List ℕ
memory_before case = with_contents (replicate RAM_SIZE 0) (contents_of case.image.items)

-- What the case says of a machine that shows so much, with this memory before unsaid bits are settled, and beside its
-- registers: that it runs, that so many steps were taken, and that of the devices at most the timer has been set. How
-- much of its period is left then is not said.
abbrev pub said_of : Case → List ℕ → Seen → Seen
said_of case memory got = record {
  cpu = record got.cpu { stopped = false };
  mmu = got.mmu;
  console = [];
  lost = 0;
  queue = [];
  ctrl = 0;
  status = 2;
  period = if case.interrupted then PERIOD else 0;
  count = if case.interrupted then got.count else 0;
  pending = from_bool case.interrupted;
  steps = case.steps;
  state = Running;
  ram = settled_in case.unsaid_bits.items memory got.ram;
}

pub record IsAsSaid (case : Case) (memory : List ℕ) (got : Seen) : Type 0 where
  pub registers : HasRegisters case (registers_of got.cpu got.mmu)
  pub beside : got ≡ said_of case memory got

-- A case passes where the machine with its image shows, after its steps, all that the case says.
abbrev pub Passes : Case → Type 0
Passes case =
    let after = run_of rule_a [] case.steps (start rule_a (diskless (contents_of case.image.items)) RAM_SIZE) in
    IsAsSaid case (with_contents (memory_before case) (contents_of case.changes.items)) (seen_machine after)
