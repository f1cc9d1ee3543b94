-- MOVEC reads back what it wrote, and no other control register changes.
use Rattle.std.proofs.Common.{◌≡◌, ◌≢◌, ◌∙◌, ℕ, List, [], ◌∷◌, get_or, length, refl, ap, sym}
use Rattle.std.proofs.lemmas.List.{get_or-set_other}
use Rattle.std.proofs.lemmas.Nat.{and_assoc}
use Rattle.std.specs.Int.Bits.{and_self}
use Rattle.std.specs.Prelude.{bit_and, slice_index, slice_set}
use Rattle.mb_port.specs.Routine.{ReadMmu}
use Rattle.mb_port.specs.Registers.{mmu_register, with_mmu_register}
use Rattle.mb_port.specs.declared.types.Mmu.{Mmu}
use Rattle.mb_port.specs.declared.types.MmuReg.{MmuReg}
use Rattle.mb_port.specs.declared.types.MmuReg.TheVariants.{Tc, Itt0, Itt1, Dtt0, Dtt1, Mmusr, Urp, Srp}
use Rattle.mb_instr.specs.declared.control.ControlRegister.{ControlRegister}
use Rattle.mb_instr.specs.declared.control.ControlRegister.TheVariants as control
use Rattle.mb_instr.specs.Control.{kept_bits}
use Rattle.mb_instr.specs.Registers.{plain_of, register_of, with_register}
use Rattle.mb_model.specs.declared.processor.Cpu.{Cpu}
use Rattle.def_processor.specs.SystemEnds.{with_registers}
use Rattle.law_settings.specs.Control.{Fits, MachineKeepsRegisters, written_to, set_by, SetIsHeld, OthersStay}
use Rattle.law_settings.specs.Control.{SameRest, RestStays, HasRegisters, MovedIsReadBack}
use Rattle.law_settings.proofs.Registers.{register_again}

-- ---- the registers of memory management, as a list

abbrev fields : Mmu → List ℕ
fields m = m.tc ∷ m.itt0 ∷ m.itt1 ∷ m.dtt0 ∷ m.dtt1 ∷ m.mmusr ∷ m.urp ∷ m.srp ∷ []

abbrev names : List MmuReg
names = Tc ∷ Itt0 ∷ Itt1 ∷ Dtt0 ∷ Dtt1 ∷ Mmusr ∷ Urp ∷ Srp ∷ []

abbrev index : MmuReg → ℕ
index Tc = 0
index Itt0 = 1
index Itt1 = 2
index Dtt0 = 3
index Dtt1 = 4
index Mmusr = 5
index Urp = 6
index Srp = 7

named : (which : MmuReg) → get_or names (index which) Tc ≡ which
named Tc = refl
named Itt0 = refl
named Itt1 = refl
named Dtt0 = refl
named Dtt1 = refl
named Mmusr = refl
named Urp = refl
named Srp = refl

apart : (other which : MmuReg) → other ≢ which → index other ≢ index which
apart other which ne e = ne (sym (named other) ∙ ap (λ (n : ℕ). get_or names n Tc) e ∙ named which)

field : (m : Mmu) (which : MmuReg) → mmu_register m which ≡ slice_index (fields m) (index which)
field m Tc = refl
field m Itt0 = refl
field m Itt1 = refl
field m Dtt0 = refl
field m Dtt1 = refl
field m Mmusr = refl
field m Urp = refl
field m Srp = refl

set_field : (m : Mmu) (which : MmuReg) (v : ℕ) → fields (with_mmu_register m which v) ≡ slice_set (fields m) (index which) v
set_field m Tc v = refl
set_field m Itt0 v = refl
set_field m Itt1 v = refl
set_field m Dtt0 v = refl
set_field m Dtt1 v = refl
set_field m Mmusr v = refl
set_field m Urp v = refl
set_field m Srp v = refl

held : (m : Mmu) (which : MmuReg) (v : ℕ) → mmu_register (with_mmu_register m which v) which ≡ v
held m Tc v = refl
held m Itt0 v = refl
held m Itt1 v = refl
held m Dtt0 v = refl
held m Dtt1 v = refl
held m Mmusr v = refl
held m Urp v = refl
held m Srp v = refl

stays : (m : Mmu) (which other : MmuReg) (v : ℕ) → other ≢ which → mmu_register (with_mmu_register m which v) other ≡ mmu_register m other
stays m which other v ne =
    field (with_mmu_register m which v) other
    ∙ ap (λ (xs : List ℕ). slice_index xs (index other)) (set_field m which v)
    ∙ get_or-set_other (fields m) (index which) (index other) v 0 (apart other which ne)
    ∙ sym (field m other)

pub machine_keeps_registers : MachineKeepsRegisters
machine_keeps_registers rule = record {
  written = λ which value w fits. held w.mmu which (bit_and value (kept_bits (control.Mmu which))) ∙ fits;
  others = λ which other value w ne. stays w.mmu which other (bit_and value (kept_bits (control.Mmu which))) ne;
  unchanged = λ w. refl;
}

-- ---- a control register that is set

abbrev pair : {S : Type 0} → ℕ → S → ℕ × S
pair n s = (n, s)

pub set_is_held : {S : Type 0} → SetIsHeld S
set_is_held bus control.Sfc value cpu s keeps fits = refl
set_is_held bus control.Dfc value cpu s keeps fits = refl
set_is_held bus control.Cacr value cpu s keeps fits = refl
set_is_held bus control.Usp value cpu s keeps fits = refl
set_is_held bus control.Vbr value cpu s keeps fits = refl
set_is_held bus control.Msp value cpu s keeps fits = refl
set_is_held bus control.Isp value cpu s keeps fits = refl
set_is_held {S = S} bus (control.Mmu which) value cpu s keeps fits =
    let t = written_to bus which value s in
    ap (λ (n : ℕ). pair n (bus ReadMmu t).1) (keeps.written which value s fits) ∙ ap (λ (u : S). pair value u) (keeps.unchanged t)

pub others_stay : {S : Type 0} → OthersStay S
others_stay bus control.Sfc control.Sfc value cpu s keeps ne = absurd (ne refl)
others_stay bus control.Sfc control.Dfc value cpu s keeps ne = refl
others_stay bus control.Sfc control.Cacr value cpu s keeps ne = refl
others_stay bus control.Sfc control.Usp value cpu s keeps ne = refl
others_stay bus control.Sfc control.Vbr value cpu s keeps ne = refl
others_stay bus control.Sfc control.Msp value cpu s keeps ne = refl
others_stay bus control.Sfc control.Isp value cpu s keeps ne = refl
others_stay bus control.Sfc (control.Mmu other) value cpu s keeps ne = refl
others_stay bus control.Dfc control.Sfc value cpu s keeps ne = refl
others_stay bus control.Dfc control.Dfc value cpu s keeps ne = absurd (ne refl)
others_stay bus control.Dfc control.Cacr value cpu s keeps ne = refl
others_stay bus control.Dfc control.Usp value cpu s keeps ne = refl
others_stay bus control.Dfc control.Vbr value cpu s keeps ne = refl
others_stay bus control.Dfc control.Msp value cpu s keeps ne = refl
others_stay bus control.Dfc control.Isp value cpu s keeps ne = refl
others_stay bus control.Dfc (control.Mmu other) value cpu s keeps ne = refl
others_stay bus control.Cacr control.Sfc value cpu s keeps ne = refl
others_stay bus control.Cacr control.Dfc value cpu s keeps ne = refl
others_stay bus control.Cacr control.Cacr value cpu s keeps ne = absurd (ne refl)
others_stay bus control.Cacr control.Usp value cpu s keeps ne = refl
others_stay bus control.Cacr control.Vbr value cpu s keeps ne = refl
others_stay bus control.Cacr control.Msp value cpu s keeps ne = refl
others_stay bus control.Cacr control.Isp value cpu s keeps ne = refl
others_stay bus control.Cacr (control.Mmu other) value cpu s keeps ne = refl
others_stay bus control.Usp control.Sfc value cpu s keeps ne = refl
others_stay bus control.Usp control.Dfc value cpu s keeps ne = refl
others_stay bus control.Usp control.Cacr value cpu s keeps ne = refl
others_stay bus control.Usp control.Usp value cpu s keeps ne = absurd (ne refl)
others_stay bus control.Usp control.Vbr value cpu s keeps ne = refl
others_stay bus control.Usp control.Msp value cpu s keeps ne = refl
others_stay bus control.Usp control.Isp value cpu s keeps ne = refl
others_stay bus control.Usp (control.Mmu other) value cpu s keeps ne = refl
others_stay bus control.Vbr control.Sfc value cpu s keeps ne = refl
others_stay bus control.Vbr control.Dfc value cpu s keeps ne = refl
others_stay bus control.Vbr control.Cacr value cpu s keeps ne = refl
others_stay bus control.Vbr control.Usp value cpu s keeps ne = refl
others_stay bus control.Vbr control.Vbr value cpu s keeps ne = absurd (ne refl)
others_stay bus control.Vbr control.Msp value cpu s keeps ne = refl
others_stay bus control.Vbr control.Isp value cpu s keeps ne = refl
others_stay bus control.Vbr (control.Mmu other) value cpu s keeps ne = refl
others_stay bus control.Msp control.Sfc value cpu s keeps ne = refl
others_stay bus control.Msp control.Dfc value cpu s keeps ne = refl
others_stay bus control.Msp control.Cacr value cpu s keeps ne = refl
others_stay bus control.Msp control.Usp value cpu s keeps ne = refl
others_stay bus control.Msp control.Vbr value cpu s keeps ne = refl
others_stay bus control.Msp control.Msp value cpu s keeps ne = absurd (ne refl)
others_stay bus control.Msp control.Isp value cpu s keeps ne = refl
others_stay bus control.Msp (control.Mmu other) value cpu s keeps ne = refl
others_stay bus control.Isp control.Sfc value cpu s keeps ne = refl
others_stay bus control.Isp control.Dfc value cpu s keeps ne = refl
others_stay bus control.Isp control.Cacr value cpu s keeps ne = refl
others_stay bus control.Isp control.Usp value cpu s keeps ne = refl
others_stay bus control.Isp control.Vbr value cpu s keeps ne = refl
others_stay bus control.Isp control.Msp value cpu s keeps ne = refl
others_stay bus control.Isp control.Isp value cpu s keeps ne = absurd (ne refl)
others_stay bus control.Isp (control.Mmu other) value cpu s keeps ne = refl
others_stay bus (control.Mmu which) control.Sfc value cpu s keeps ne = refl
others_stay bus (control.Mmu which) control.Dfc value cpu s keeps ne = refl
others_stay bus (control.Mmu which) control.Cacr value cpu s keeps ne = refl
others_stay bus (control.Mmu which) control.Usp value cpu s keeps ne = refl
others_stay bus (control.Mmu which) control.Vbr value cpu s keeps ne = refl
others_stay bus (control.Mmu which) control.Msp value cpu s keeps ne = refl
others_stay bus (control.Mmu which) control.Isp value cpu s keeps ne = refl
others_stay bus (control.Mmu which) (control.Mmu other) value cpu s keeps ne =
    keeps.others which other value s (λ e. ne (ap (λ (w : MmuReg). control.Mmu w) e))

pub rest_stays : {S : Type 0} → RestStays S
rest_stays bus control.Sfc value cpu s =
    record { data_registers = refl; address_registers = refl; counter = refl; status = refl; stopped = refl }
rest_stays bus control.Dfc value cpu s =
    record { data_registers = refl; address_registers = refl; counter = refl; status = refl; stopped = refl }
rest_stays bus control.Cacr value cpu s =
    record { data_registers = refl; address_registers = refl; counter = refl; status = refl; stopped = refl }
rest_stays bus control.Usp value cpu s =
    record { data_registers = refl; address_registers = refl; counter = refl; status = refl; stopped = refl }
rest_stays bus control.Vbr value cpu s =
    record { data_registers = refl; address_registers = refl; counter = refl; status = refl; stopped = refl }
rest_stays bus control.Msp value cpu s =
    record { data_registers = refl; address_registers = refl; counter = refl; status = refl; stopped = refl }
rest_stays bus control.Isp value cpu s =
    record { data_registers = refl; address_registers = refl; counter = refl; status = refl; stopped = refl }
rest_stays bus (control.Mmu which) value cpu s =
    record { data_registers = refl; address_registers = refl; counter = refl; status = refl; stopped = refl }

-- ---- MOVEC twice

fits_kept : (register : ControlRegister) (x : ℕ) → Fits register (bit_and x (kept_bits register))
fits_kept register x = and_assoc (kept_bits register) x (kept_bits register) ∙ ap (λ (k : ℕ). bit_and x k) (and_self (kept_bits register))

same_registers : (before after : Cpu) → SameRest before after → HasRegisters before.regs → HasRegisters after.regs
same_registers before after same has = record {
  data_registers = ap (λ (xs : List ℕ). length xs) same.data_registers ∙ has.data_registers;
  address_registers = ap (λ (xs : List ℕ). length xs) same.address_registers ∙ has.address_registers;
}

pub moved_is_read_back : {S : Type 0} → MovedIsReadBack S
moved_is_read_back {S = S} bus register n m cpu s keeps has small =
    let value = bit_and (register_of (plain_of cpu.regs) n) (kept_bits register) in
    let after : Cpu = (set_by bus register value cpu s).0 in
    ap (λ (q : ℕ × S). register_of (plain_of (with_registers (with_register (plain_of after.regs) m q.0) after).regs) m)
    (set_is_held bus register value cpu s keeps (fits_kept register (register_of (plain_of cpu.regs) n)))
    ∙ register_again after.regs m value (same_registers cpu after (rest_stays bus register value cpu s) has) small
