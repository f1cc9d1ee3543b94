-- MOVEP.
use Rattle.std.specs.Prelude.{refl, ℕ, ◌+◌, ◌%◌, ◌^◌, Bool}
use Rattle.law_routines.specs.Twin.{returned}
use Rattle.law_routines.specs.Between.{Setting, SameFault, between}
use Rattle.law_routines.proofs.Twinned.{twins_choose}
use Rattle.law_routines.proofs.Between.{twin_write}
use Rattle.mb_instr.specs.declared.size.Size.{Size}
use Rattle.mb_instr.specs.declared.size.Size.TheVariants.{Byte, Word, Long}
use Rattle.mb_instr.specs.declared.registers.Plain.{Plain}
use Rattle.mb_instr.specs.Sizes.{bytes_of, sign_extended}
use Rattle.mb_instr.specs.Registers.{data_register, address_register}
use Rattle.mb_ea.specs.declared.addresses.Target.TheVariants.{Reg}
use Rattle.mb_ea.specs.Addresses.{sum}
use Rattle.mb_writes.specs.Writing.{part_of, parts_of, apart, write_apart_of}
use Rattle.def_instructions.specs.Peripheral.{read_apart_of, load_peripheral_of, store_peripheral_of, movep_of}
use Rattle.law_twins.specs.Twins.{SameRead, SameWrite}
use Rattle.law_twins.proofs.Parts.{SameCut, SameRowed, Rows, Reads, Writes, then_twins, failing_twins, reading_twins, writing_twins}
use Rattle.law_twins.proofs.Operands.{pieces_twins, write_all_twins, storing_twins}

read_apart_twins : (x : Setting) (at : ℕ) (size : Size) → Reads x (read_apart_of x.here at size) (read_apart_of x.there at size)
read_apart_twins x at size =
    failing_twins x (SameFault x) (SameRead x) (λ e f h. record { fault = h; first = refl }) (pieces_twins x (apart at (bytes_of size)) 0)

put_apart_twins : (x : Setting) (at : ℕ) (size : Size) (value : ℕ) → Writes x (write_apart_of x.here at size value) (write_apart_of x.there at size value)
put_apart_twins x at Byte value = write_all_twins x at (parts_of (apart at 1) 1 value)
put_apart_twins x at Word value = write_all_twins x at (parts_of (apart at 2) 2 value)
put_apart_twins x at Long value =
    then_twins x (SameWrite x)
    (failing_twins x (SameFault x) (SameWrite x) (λ e f h. record { fault = h; first = refl; rest = refl })
    (twin_write x (record { at = at; len = 1 }) (part_of value 4 1)))
    (λ done. write_all_twins x at (parts_of (apart ((at + 2) % 2 ^ 32) 3) 3 value))

load_twins : (x : Setting) (n : ℕ) (size : Size) (place : ℕ) (p : Plain)
    → Rows x (load_peripheral_of n size place x.here p) (load_peripheral_of n size place x.there p)
load_twins x n size place p =
    then_twins x (SameCut x) (reading_twins x (read_apart_twins x place size)) (λ value. storing_twins x (Reg n) size value p)

store_twins : (x : Setting) (n : ℕ) (size : Size) (place : ℕ) (p : Plain)
    → Rows x (store_peripheral_of n size place x.here p) (store_peripheral_of n size place x.there p)
store_twins x n size place p =
    then_twins x (SameCut x) (writing_twins x p (put_apart_twins x place size (data_register p n))) (λ done. returned refl)

pub movep_twins : (x : Setting) (n : ℕ) (is_store : Bool) (size : Size) (address displacement : ℕ) (p : Plain)
    → Rows x (movep_of n is_store size address displacement x.here p) (movep_of n is_store size address displacement x.there p)
movep_twins x n is_store size address displacement p =
    let place = sum (address_register p address) (sign_extended Word displacement) in
    twins_choose (between x) (SameRowed x) is_store _ _ _ _ (store_twins x n size place p) (load_twins x n size place p)
