-- MOVEM: its transfers, one after the other.
use Rattle.std.specs.Prelude.{ℕ, ◌+◌, ◌-◌, ◌*◌, ◌%◌, ◌^◌, ◌==◌, if◌then◌else◌, Result, Ok, Err}
use Rattle.std.specs.Prelude.{List, [], ◌∷◌, drop, length}
use Rattle.mb_port.specs.Routine.{Routine, Return, ◌>>=◌, ◌>>◌, failing, choose}
use Rattle.mb_port.specs.declared.types.Space.{Space}
use Rattle.mb_port.specs.declared.types.Fault.{Fault}
use Rattle.mb_instr.specs.declared.size.Size.{Size}
use Rattle.mb_instr.specs.declared.registers.Plain.{Plain}
use Rattle.mb_instr.specs.Sizes.{bytes_of, sign_extended}
use Rattle.mb_instr.specs.Registers.{register_of, with_register, with_address_register}
use Rattle.mb_ea.specs.Reading.{read_operand_of}
use Rattle.mb_writes.specs.declared.ends.MovemFault.{MovemFault}
use Rattle.mb_writes.specs.declared.transfers.Movem.{Movem}
use Rattle.mb_writes.specs.declared.transfers.MovemMode.{MovemMode}
use Rattle.mb_writes.specs.declared.transfers.MovemMode.TheVariants.{Control, Post, Pre}
use Rattle.mb_writes.specs.declared.transfers.Transfer.{Transfer}
use Rattle.mb_writes.specs.Transfers.{transfers_of}
use Rattle.mb_writes.specs.Writing.{write_operand_of}

-- a refused transfer: the address of the first one, and how many were done
abbrev pub refused_at : ℕ → ℕ → Fault → MovemFault
refused_at first done fault = record { fault = fault; first = first; done = done }

-- what is stored of a register; of the one of -(An) its present value less the operand's size
abbrev pub stored_of : MovemMode → Size → Plain → ℕ → ℕ
stored_of Control size p r = register_of p r
stored_of (Post n) size p r = register_of p r
stored_of (Pre n) size p r =
    if r == 8 + n then (register_of p r + (2 ^ 32 - bytes_of size)) % 2 ^ 32 else register_of p r

-- registers go to memory in the order of the transfers
abbrev pub store_all_of : Movem → Space → Plain → ℕ → ℕ → List Transfer → Routine (Result (Unit {0}) MovemFault)
store_all_of m space p first done [] = Return (Ok tt)
store_all_of m space p first done (t ∷ ts) = do
  failing (λ refused. refused_at first done refused.fault)
      (write_operand_of space t.at (bytes_of m.size) (stored_of m.mode m.size p t.register))
  store_all_of m space p first (done + 1) ts

-- a value goes to a register with its sign; what is read for the register of (An)+ is dropped
abbrev pub loaded_of : MovemMode → Size → Plain → ℕ → ℕ → Plain
loaded_of Control size p r value = with_register p r (sign_extended size value)
loaded_of (Post n) size p r value = if r == 8 + n then p else with_register p r (sign_extended size value)
loaded_of (Pre n) size p r value = with_register p r (sign_extended size value)

-- A transfer that was refused, and the registers then: what was loaded stays.
pub record Halfway : Type 0 where
  pub fault : MovemFault
  pub plain : Plain

-- registers come from memory in the order of the transfers
abbrev pub load_all_of : Movem → Space → ℕ → ℕ → List Transfer → Plain → Routine (Result Plain Halfway)
load_all_of m space first done [] p = Return (Ok p)
load_all_of m space first done (t ∷ ts) p = do
  value ← failing (λ refused. record { fault = refused_at first done refused.fault; plain = p })
      (read_operand_of space t.at (bytes_of m.size))
  load_all_of m space first (done + 1) ts (loaded_of m.mode m.size p t.register value)

-- The address register of (An)+ and -(An) afterwards, by the first transfer's address and the number of
-- transfers.
abbrev pub stepped_of : MovemMode → Size → ℕ → ℕ → Plain → Plain
stepped_of Control size ea count p = p
stepped_of (Post n) size ea count p = with_address_register p n ((ea + count * bytes_of size) % 2 ^ 32)
stepped_of (Pre n) size ea count p =
    with_address_register p n ((ea + bytes_of size + (2 ^ 32 - count * bytes_of size)) % 2 ^ 32)

abbrev pub storing : Movem → ℕ → ℕ → Space → Plain → Routine (Result Plain Halfway)
storing m ea done space p = do
  failing (λ fault. record { fault = fault; plain = p })
      (store_all_of m space p ea done (drop done (transfers_of m ea)))
  Return (Ok p)

-- MOVEM from a transfer on: `done` of them were done before
abbrev pub transfer_of : Movem → ℕ → ℕ → Space → Plain → Routine (Result Plain Halfway)
transfer_of m ea done space p = do
  moved ← choose m.is_load (load_all_of m space ea done (drop done (transfers_of m ea)) p) (storing m ea done space p)
  Return (Ok (stepped_of m.mode m.size ea (length (transfers_of m ea)) moved))

-- what a call answered, with the registers after it
abbrev pub halfway : Result (Unit {0}) MovemFault → Plain → Result Plain Halfway
halfway (Ok done) p = Ok p
halfway (Err fault) p = Err (record { fault = fault; plain = p })
