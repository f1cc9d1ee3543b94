-- What the row of MOVE makes of an operand in memory that it moves to another one there.
use Rattle.std.proofs.Common.{◌≡◌, ℕ, ◌<◌, refl, sym, subst, false, Ok}
use Rattle.mb_port.specs.Routine.{Bus, run}
use Rattle.mb_port.specs.declared.types.Space.{Space}
use Rattle.mb_instr.specs.declared.size.Size.{Size}
use Rattle.mb_instr.specs.declared.size.Size.TheVariants.{Word}
use Rattle.mb_instr.specs.declared.operand.Ea.{Ea}
use Rattle.mb_instr.specs.declared.operand.Ea.TheVariants.{Ind, Disp}
use Rattle.mb_instr.specs.declared.registers.Plain.{Plain}
use Rattle.mb_instr.specs.Codes.{IsInstr}
use Rattle.mb_instr.specs.Operands.{lower}
use Rattle.mb_instr.specs.Sizes.{bytes_of, sign_extended}
use Rattle.mb_instr.specs.Registers.{address_register}
use Rattle.mb_ea.specs.Addresses.{sum}
use Rattle.mb_ea.specs.Reading.{read_operand_of}
use Rattle.mb_ea.specs.Resolve.{step_over_of}
use Rattle.mb_writes.specs.Writing.{write_operand_of}
use Rattle.def_instructions.specs.Attempt.{past}
use Rattle.def_instructions.specs.Ends.{carried}
use Rattle.def_instructions.specs.Moves.{move_flags}
use Rattle.def_instructions.specs.Rows.{row_of}
use Rattle.mb_table.specs.declared.forms.Place.{Place}
use Rattle.mb_table.specs.declared.forms.Place.TheVariants as place
use Rattle.mb_table.specs.Forms.{place_ea, copy_of}
use Rattle.mb_short.specs.Operands.{place_at}
use Rattle.mb_short.specs.Taken.{Goes}
use Rattle.mb_short.proofs.Goings.{two_go}
use Rattle.mb_short.proofs.Operands.{Finds, place_found, near_found, memory_fetched, same_place}

-- instructions of the table have registers
pub has_copied : (size : Size) (to from : Ea) → IsInstr (copy_of size to from) → lower from < 8
has_copied size to from h = h.fields.lower

pub has_copy : (size : Size) (to from : Ea) → IsInstr (copy_of size to from) → lower to < 8
has_copy size to from h = h.fields.upper

copies : {S : Type 0} (bus : Bus S) (size : Size) (to from : Ea) (there here value at : ℕ) (space : Space) (p q r : Plain) (s t : S)
    → Finds bus size from space p s here q → run bus (read_operand_of space here (bytes_of size)) s ≡ (Ok value, s)
    → Finds bus size to space q s there r → run bus (write_operand_of space there (bytes_of size) value) s ≡ (Ok tt, t)
    → run bus (row_of (copy_of size to from) at space p) s ≡ (carried (move_flags size value r), t)
copies bus size to from there here value at space p q r s t found read reached put =
    rw (run, memory_fetched bus size from here value space p q s found read, reached, put) refl

pub copies_near : {S : Type 0} (bus : Bus S) (size : Size) (place : Place) (m d value : ℕ) (space : Space) (p : Plain) (s t : S)
    → run bus (read_operand_of space (sum (address_register p m) (sign_extended Word d)) (bytes_of size)) s ≡ (Ok value, s)
    → run bus (write_operand_of space (place_at place size p) (bytes_of size) value) s ≡ (Ok tt, t)
    → Goes bus (copy_of size (place_ea place) (Disp m d)) 2 space p s false (move_flags size value (step_over_of (place_ea place) size (past 2 p))) t
copies_near bus size place m d value space p s t read put =
    let moved = past 2 p in
    let after = step_over_of (place_ea place) size moved in
    let here = sum (address_register p m) (sign_extended Word d) in
    let written = subst (λ (n : ℕ). run bus (write_operand_of space n (bytes_of size) value) s ≡ (Ok tt, t)) (sym (same_place place size 2 p)) put in
    two_go bus (copy_of size (place_ea place) (Disp m d)) space p (move_flags size value after) s t
    (copies bus size (place_ea place) (Disp m d) (place_at place size moved) here value p.pc space moved moved after s t
    (near_found bus size m d space moved s) read (place_found bus size place space moved s) written)

pub copies_to_near : {S : Type 0} (bus : Bus S) (size : Size) (n m d value : ℕ) (space : Space) (p : Plain) (s t : S)
    → run bus (read_operand_of space (address_register p n) (bytes_of size)) s ≡ (Ok value, s)
    → run bus (write_operand_of space (sum (address_register p m) (sign_extended Word d)) (bytes_of size) value) s ≡ (Ok tt, t)
    → Goes bus (copy_of size (Disp m d) (Ind n)) 2 space p s false (move_flags size value (past 2 p)) t
copies_to_near bus size n m d value space p s t read put =
    let moved = past 2 p in
    let there = sum (address_register p m) (sign_extended Word d) in
    two_go bus (copy_of size (Disp m d) (Ind n)) space p (move_flags size value moved) s t
    (copies bus size (Disp m d) (Ind n) there (address_register p n) value p.pc space moved moved moved s t
    (place_found bus size (place.At n) space moved s) read (near_found bus size m d space moved s) put)

pub ruleset copying = (has_copied, has_copy)
