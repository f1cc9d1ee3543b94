-- The bus of a machine by a rule of keeping.
use Rattle.std.specs.Prelude.{ℕ, Bool, true, false, bit_and, Option, Some, None, Result, Ok, Err}
use Rattle.std.specs.Prelude.{ok_or, unwrap_or}
use Rattle.mb_port.specs.Routine.{Bus, Call, Fetch, Read, Write, ReadLine, WriteLine, Probe, Get, Put, ReadMmu, SetMmu}
use Rattle.mb_port.specs.Routine.{FlushKept, Test, ResetDevices}
use Rattle.mb_port.specs.declared.types.Space.{Space}
use Rattle.mb_port.specs.declared.types.Place.{Place}
use Rattle.mb_port.specs.declared.types.Fault.{Fault}
use Rattle.mb_port.specs.declared.types.MmuReg.{MmuReg}
use Rattle.mb_port.specs.Registers.{with_mmu_register}
use Rattle.mb_instr.specs.declared.control.ControlRegister.TheVariants as control
use Rattle.mb_instr.specs.Control.{kept_bits}
use Rattle.mb_model.specs.Keeping.{KeptLists, Rule, flushed, after_ptest, after_movec}
use Rattle.mb_walk.specs.Search.{Searched, status_of}
use Rattle.mb_devices.specs.Devices.{reset_of}
use Rattle.def_machine.specs.declared.reference.Reference.{Reference}
use Rattle.def_machine.specs.World.{World}
use Rattle.def_machine.specs.Places.{taken, stored, checked, taken_line, stored_line}
use Rattle.mb_model.specs.Pages.{page_of, has_big_pages}
use Rattle.def_machine.specs.Access.{matched, page_search, translated}
use Rattle.def_machine.specs.declared.registers.TheConstants.{MMUSR_MATCHED}

-- ---- references

abbrev pub fetching_of : Space → ℕ → Reference
fetching_of space at = record { code = true; space = space; at = at; write = false }

abbrev pub reading_of : Space → ℕ → Reference
reading_of space at = record { code = false; space = space; at = at; write = false }

abbrev pub writing_of : Space → ℕ → Reference
writing_of space at = record { code = false; space = space; at = at; write = true }

-- the reference that a call translates
abbrev pub reference_of : Call → Option Reference
reference_of (Fetch space at) = Some (fetching_of space at)
reference_of (Read space p) = Some (reading_of space p.at)
reference_of (Write space p value) = Some (writing_of space p.at)
reference_of (ReadLine space at) = Some (reading_of space at)
reference_of (WriteLine space at line) = Some (writing_of space at)
reference_of (Probe space p) = Some (writing_of space p.at)
reference_of other = None

-- A reference to so many bytes is refused: by its translation, or, with ATC clear, since nothing stands at its place.
abbrev pub fault_of : Reference → ℕ → Bool → Fault
fault_of r len atc = record { at = r.at; len = len; space = r.space; code = r.code; write = r.write; atc = atc }

abbrev pub place_at : ℕ → ℕ → Place
place_at at len = record { at = at; len = len }

-- ---- reads and writes behind their translation

-- what a place answers, or the fault
abbrev pub faulting : {A : Type 0} → Option A × World → Fault → Result A Fault × World
faulting (answer, after) fault = (ok_or answer fault, after)

-- what reads a place
abbrev pub Take : Type 0 → Type 0
Take A = Place → World → Option A × World

-- what is read at the place, or the fault
abbrev pub read_at : {A : Type 0} → Reference → ℕ → Take A → Option ℕ → World → Result A Fault × World
read_at r len take (Some at) w = faulting (take (place_at at len) w) (fault_of r len false)
read_at r len take None w = (Err (fault_of r len true), w)

abbrev pub read_by : {A : Type 0} → Rule → Reference → ℕ → Take A → World → Result A Fault × World
read_by rule r len take w = let (at, after) = translated rule r w in read_at r len take at after

-- the world after the write, or the fault
abbrev pub wrote : World → Option World → Fault → Result (Unit {0}) Fault × World
wrote w (Some after) fault = (Ok tt, after)
wrote w None fault = (Err fault, w)

-- what writes a place
abbrev pub Store : Type 0
Store = Place → World → Option World

abbrev pub written_at : Reference → ℕ → Store → Option ℕ → World → Result (Unit {0}) Fault × World
written_at r len store (Some at) w = wrote w (store (place_at at len) w) (fault_of r len false)
written_at r len store None w = (Err (fault_of r len true), w)

abbrev pub written_by : Rule → Reference → ℕ → Store → World → Result (Unit {0}) Fault × World
written_by rule r len store w = let (at, after) = translated rule r w in written_at r len store at after

-- ---- registers and tests

-- a register of the memory management unit is written: its bits are kept, and the rule says whether all is forgotten
abbrev pub after_set_mmu : Rule → MmuReg → ℕ → World → World
after_set_mmu rule which value w = record w {
  mmu = with_mmu_register w.mmu which (bit_and value (kept_bits (control.Mmu which)));
  kept = after_movec rule which w.kept;
}

abbrev pub after_test : World → KeptLists → Searched → ℕ × World
after_test w kept s = (status_of s.found, record w { ram = s.ram; kept = kept })

abbrev pub tested_by : World → Space → ℕ → Bool → Option Bool → ℕ × World
tested_by w space page write (Some protected) = (MMUSR_MATCHED, w)
tested_by w space page write None =
    after_test w (after_ptest (has_big_pages w.mmu) space page w.kept) (page_search w space page write)

-- PTEST: unless a transparent register matches, the kept entries of the page are dropped, where pages have 8 KiB of
-- both halves, and the tables are searched, whether translation is on or not. Nothing is kept.
abbrev pub tested : Space → ℕ → Bool → World → ℕ × World
tested space page write w = tested_by w space page write (matched false w.mmu space page)

-- ---- the calls

-- Each call. A line stands in RAM alone; `Get` and `Put` go to a place without translation.
abbrev pub bus_of : Rule → Bus World
bus_of rule (Fetch space at) w = read_by rule (fetching_of space at) 2 taken w
bus_of rule (Read space p) w = read_by rule (reading_of space p.at) p.len taken w
bus_of rule (Write space p value) w = written_by rule (writing_of space p.at) p.len (λ place. stored place value) w
bus_of rule (ReadLine space at) w = read_by rule (reading_of space at) 16 taken_line w
bus_of rule (WriteLine space at line) w = written_by rule (writing_of space at) 16 (λ place. stored_line place line) w
bus_of rule (Probe space p) w = read_by rule (writing_of space p.at) p.len checked w
bus_of rule (Get place) w = let (value, after) = taken place w in (unwrap_or value 0, after)
bus_of rule (Put place value) w = (tt, unwrap_or (stored place value w) w)
bus_of rule ReadMmu w = (w.mmu, w)
bus_of rule (SetMmu which value) w = (tt, after_set_mmu rule which value w)
bus_of rule (FlushKept what) w = (tt, record w { kept = flushed what w.kept })
bus_of rule (Test space at write) w = tested space (page_of at) write w
bus_of rule ResetDevices w = (tt, record w { devices = reset_of w.devices })
