-- EXG of data registers, and BTST of one.
use Rattle.std.proofs.Common.{ℕ, ◌<◌, refl, false}
use Rattle.mb_port.specs.Routine.{Bus, run}
use Rattle.mb_port.specs.declared.types.Space.{Space}
use Rattle.mb_instr.specs.declared.size.Size.TheVariants.{Long}
use Rattle.mb_instr.specs.declared.kinds.BitKind.TheVariants.{Test}
use Rattle.mb_instr.specs.declared.kinds.Exchange.TheVariants as exchange
use Rattle.mb_instr.specs.declared.operand.Ea.TheVariants.{Dn}
use Rattle.mb_instr.specs.declared.instruction.Instr.TheVariants as instr
use Rattle.mb_instr.specs.declared.instruction.Arith.TheVariants as arith_row
use Rattle.mb_instr.specs.declared.instruction.Move.TheVariants as move_row
use Rattle.mb_instr.specs.declared.registers.Plain.{Plain}
use Rattle.mb_instr.specs.Sizes.{low_of}
use Rattle.mb_instr.specs.Registers.{data_register, with_data_register}
use Rattle.def_instructions.specs.Attempt.{past}
use Rattle.def_instructions.specs.Bits.{change_bit_of}
use Rattle.mb_short.specs.Taken.{Goes}
use Rattle.mb_short.proofs.Moves.{is_data}
use Rattle.mb_short.proofs.Goings.{one_goes, two_go}
use Rattle.mb_short.proofs.Operands.{data_fetched}

pub exchange_goes : {S : Type 0} (bus : Bus S) (n m : ℕ) (space : Space) (p : Plain) (s : S) → n < 8 → m < 8
    → Goes bus (instr.Move (move_row.Exg n exchange.Data m)) 1 space p s false
    (with_data_register (with_data_register (past 1 p) n (data_register p m)) m (data_register p n)) s
exchange_goes bus n m space p s h k =
    one_goes bus (instr.Move (move_row.Exg n exchange.Data m)) space p
    (with_data_register (with_data_register (past 1 p) n (data_register p m)) m (data_register p n)) s s (rw (is_data n h, is_data m k) refl)

pub bit_goes : {S : Type 0} (bus : Bus S) (n d : ℕ) (space : Space) (p : Plain) (s : S) → n < 8
    → Goes bus (instr.Arith (arith_row.BitImm Test (Dn n) d)) 2 space p s false
    (record (past 2 p) { ccr = (change_bit_of Test d Long (low_of Long (data_register p n)) p.ccr).ccr }) s
bit_goes bus n d space p s h =
    two_go bus (instr.Arith (arith_row.BitImm Test (Dn n) d)) space p
    (record (past 2 p) { ccr = (change_bit_of Test d Long (low_of Long (data_register p n)) p.ccr).ccr }) s s
    (rw (run, data_fetched bus Long n space (past 2 p) s h) refl)

pub ruleset exchanges = (exchange_goes, bit_goes)
