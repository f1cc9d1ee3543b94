-- The table of control registers: code, name, and the bits that each keeps.
use Rattle.std.specs.Prelude.{ℕ, Bool, ◌==◌, List, [], ◌∷◌, Option, codes, is_some}
use Rattle.std.specs.List.{find}
use Rattle.std.specs.Str.{str_eq_ignore_ascii_case}
use Rattle.mb_port.specs.declared.types.MmuReg.TheVariants.{Tc, Itt0, Itt1, Dtt0, Dtt1, Mmusr, Urp, Srp}
use Rattle.mb_instr.specs.declared.control.ControlRegister.{ControlRegister}
use Rattle.mb_instr.specs.declared.control.ControlRegister.TheVariants.{Sfc, Dfc, Cacr, Usp, Vbr, Msp, Isp, Mmu}

pub record ControlRow : Type 0 where
  -- its code in the word behind MOVEC
  pub code : ℕ
  -- its name in capital letters
  pub name : List ℕ
  -- the bits that it keeps of what is written to it
  pub kept : ℕ

abbrev pub control : (code : ℕ) → (name : List ℕ) → (kept : ℕ) → ControlRow
control code name kept = record { code = code; name = name; kept = kept }

-- the table: a line a register
abbrev pub control_row : ControlRegister → ControlRow
control_row Sfc = control 0x000 (codes "SFC") 0x7
control_row Dfc = control 0x001 (codes "DFC") 0x7
control_row Cacr = control 0x002 (codes "CACR") 0x80008000
control_row (Mmu Tc) = control 0x003 (codes "TC") 0xC000
control_row (Mmu Itt0) = control 0x004 (codes "ITT0") 0xFFFFE364
control_row (Mmu Itt1) = control 0x005 (codes "ITT1") 0xFFFFE364
control_row (Mmu Dtt0) = control 0x006 (codes "DTT0") 0xFFFFE364
control_row (Mmu Dtt1) = control 0x007 (codes "DTT1") 0xFFFFE364
control_row Usp = control 0x800 (codes "USP") 0xFFFFFFFF
control_row Vbr = control 0x801 (codes "VBR") 0xFFFFFFFF
control_row Msp = control 0x803 (codes "MSP") 0xFFFFFFFF
control_row Isp = control 0x804 (codes "ISP") 0xFFFFFFFF
control_row (Mmu Mmusr) = control 0x805 (codes "MMUSR") 0xFFFFFFF7
control_row (Mmu Urp) = control 0x806 (codes "URP") 0xFFFFFE00
control_row (Mmu Srp) = control 0x807 (codes "SRP") 0xFFFFFE00

-- the registers, in the order of the table
abbrev pub controls : List ControlRegister
controls =
    Sfc ∷ Dfc ∷ Cacr ∷ Mmu Tc ∷ Mmu Itt0 ∷ Mmu Itt1 ∷ Mmu Dtt0 ∷ Mmu Dtt1
    ∷ Usp ∷ Vbr ∷ Msp ∷ Isp ∷ Mmu Mmusr ∷ Mmu Urp ∷ Mmu Srp ∷ []

abbrev pub code_of : ControlRegister → ℕ
code_of register = (control_row register).code

abbrev pub control_name : ControlRegister → List ℕ
control_name register = (control_row register).name

abbrev pub kept_bits : ControlRegister → ℕ
kept_bits register = (control_row register).kept

-- the register with a code
abbrev pub control_of : ℕ → Option ControlRegister
control_of code = find (λ register. code == code_of register) controls

-- the register of a name, in either case
abbrev pub control_named : List ℕ → Option ControlRegister
control_named name = find (λ register. str_eq_ignore_ascii_case (control_name register) name) controls

-- whether a register has the code
abbrev pub is_control_code : ℕ → Bool
is_control_code code = is_some (control_of code)
