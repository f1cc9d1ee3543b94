-- What MOVE to SR and MOVE to USP set is found again.
use Rattle.std.specs.Prelude.{◌≡◌, ℕ, ◌<◌, Ok, Err}
use Rattle.mb_port.specs.Routine.{Bus, Routine, ◌>>=◌, run}
use Rattle.mb_instr.specs.declared.size.Size.TheVariants.{Word}
use Rattle.mb_instr.specs.declared.operand.Ea.TheVariants.{Dn}
use Rattle.mb_instr.specs.declared.control.ControlRegister.TheVariants as control
use Rattle.mb_instr.specs.Registers.{plain_of, register_of, address_register}
use Rattle.mb_instr.specs.Sizes.{low_of}
use Rattle.mb_model.specs.declared.processor.Cpu.{Cpu}
use Rattle.mb_model.specs.Status.{kept_status}
use Rattle.def_processor.specs.SystemEnds.{SystemRowed}
use Rattle.def_processor.specs.Status.{move_to_status_of, move_from_status_of, move_to_usp_of, move_from_usp_of}
use Rattle.law_settings.specs.Control.{HasRegisters, held_in}

-- The row was carried out, and this holds of the processor then.
abbrev pub CarriedOut : (Cpu → Type 0) → SystemRowed → Type 0
CarriedOut P (Ok done) = P done.cpu
CarriedOut P (Err other) = ⊥

-- the low word of register n of all sixteen
abbrev pub word_in : Cpu → ℕ → ℕ
word_in cpu n = low_of Word (register_of (plain_of cpu.regs) n)

-- address register n; A7 is the active stack pointer
abbrev pub address_in : Cpu → ℕ → ℕ
address_in cpu n = address_register (plain_of cpu.regs) n

-- MOVE from data register n to SR
abbrev pub to_status : ℕ → Cpu → Routine SystemRowed
to_status n cpu = move_to_status_of (Dn n) cpu.regs.pc cpu

-- and then from SR to data register m
abbrev pub to_status_and_back : (n m : ℕ) → Cpu → Routine SystemRowed
to_status_and_back n m cpu = to_status n cpu >>= λ done. move_from_status_of (Dn m) done.cpu.regs.pc done.cpu

-- SR becomes those bits of the word that it has.
abbrev pub StatusIsKept : Type 0 → Type 0
StatusIsKept S = (bus : Bus S) (n : ℕ) (cpu : Cpu) (s : S)
    → let (rowed, _) = run bus (to_status n cpu) s in
    CarriedOut (λ after. after.regs.sr ≡ kept_status (word_in cpu n)) rowed

-- They are read back.
abbrev pub StatusIsReadBack : Type 0 → Type 0
StatusIsReadBack S = (bus : Bus S) (n m : ℕ) (cpu : Cpu) (s : S) → HasRegisters cpu.regs → m < 8
    → let (rowed, _) = run bus (to_status_and_back n m cpu) s in
    CarriedOut (λ after. word_in after m ≡ kept_status (word_in cpu n)) rowed

-- USP that was moved from An is read back to Am.
abbrev pub UspIsReadBack : Type 0
UspIsReadBack = (n m : ℕ) (cpu : Cpu) → HasRegisters cpu.regs → m < 8
    → address_in (move_from_usp_of m (move_to_usp_of n cpu)) m ≡ address_in cpu n

-- MOVEC knows it too.
abbrev pub UspIsControl : Type 0 → Type 0
UspIsControl S = (bus : Bus S) (n : ℕ) (cpu : Cpu) (s : S)
    → held_in bus control.Usp (move_to_usp_of n cpu) s ≡ (address_in cpu n, s)
