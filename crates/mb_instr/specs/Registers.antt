-- The registers that user mode sees, as a part of all registers.
use Rattle.std.specs.Prelude.{ℕ, ◌+◌, ◌-◌, ◌/◌, ◌%◌, ◌^◌, Bool, nat_lt, [], ◌∷◌, ◌++◌, take, slice_index, slice_set, if◌then◌else◌}
use Rattle.mb_port.specs.Bits.{has_bit}
use Rattle.mb_instr.specs.declared.status.TheConstants.{I, LEVELS, M, S}
use Rattle.mb_instr.specs.declared.registers.Plain.{Plain}
use Rattle.mb_instr.specs.declared.registers.Regs.{Regs}

-- S: supervisor mode
abbrev pub is_supervisor : ℕ → Bool
is_supervisor sr = has_bit sr S

-- M: the master stack
abbrev pub is_master : ℕ → Bool
is_master sr = has_bit sr M

-- the interrupt mask
abbrev pub interrupt_mask : ℕ → ℕ
interrupt_mask sr = sr / I % LEVELS

-- A7: USP where S is clear, ISP where S is set and M is clear, MSP where both are set
abbrev pub active_stack : Regs → ℕ
active_stack r = if is_supervisor r.sr then (if is_master r.sr then r.msp else r.isp) else r.usp

abbrev pub plain_of : Regs → Plain
plain_of r = record { d = r.d; a = r.a ++ active_stack r ∷ []; pc = r.pc; ccr = r.sr % 2 ^ 5 }

-- the status register with other condition codes
abbrev pub with_ccr : ℕ → ℕ → ℕ
with_ccr sr ccr = sr - sr % 2 ^ 5 + ccr % 2 ^ 5

-- the active stack pointer becomes this
abbrev pub with_stack : Regs → ℕ → Regs
with_stack r top =
    if is_supervisor r.sr then (if is_master r.sr then record r { msp = top } else record r { isp = top })
    else record r { usp = top }

abbrev pub with_plain : Regs → Plain → Regs
with_plain r p = record (with_stack r (slice_index p.a 7)) {
  d = p.d;
  a = take 7 p.a;
  pc = p.pc;
  sr = with_ccr r.sr p.ccr;
}

-- ---- one register

-- data register n
abbrev pub data_register : Plain → ℕ → ℕ
data_register p n = slice_index p.d n

abbrev pub with_data_register : Plain → ℕ → ℕ → Plain
with_data_register p n value = record p { d = slice_set p.d n value }

-- address register n; A7 is the active stack pointer
abbrev pub address_register : Plain → ℕ → ℕ
address_register p n = slice_index p.a n

abbrev pub with_address_register : Plain → ℕ → ℕ → Plain
with_address_register p n value = record p { a = slice_set p.a n value }

-- register n of all sixteen: 0 to 7 are the data registers, 8 to 15 the address registers
abbrev pub register_of : Plain → ℕ → ℕ
register_of p n = if nat_lt n 8 then data_register p n else address_register p (n - 8)

abbrev pub with_register : Plain → ℕ → ℕ → Plain
with_register p n value =
    if nat_lt n 8 then with_data_register p n value else with_address_register p (n - 8) value
