-- What rows make of an operand in memory that they read, change and write back.
use Rattle.std.proofs.Common.{◌≡◌, ℕ, ◌<◌, refl, sym, subst, false, Ok, None}
use Rattle.mb_port.specs.Routine.{Bus, run}
use Rattle.mb_port.specs.declared.types.Space.{Space}
use Rattle.mb_instr.specs.declared.size.Size.{Size}
use Rattle.mb_instr.specs.declared.size.Size.TheVariants.{Word}
use Rattle.mb_instr.specs.declared.operand.Ea.{Ea}
use Rattle.mb_instr.specs.declared.operand.Ea.TheVariants.{Dn, Disp}
use Rattle.mb_instr.specs.declared.registers.Plain.{Plain}
use Rattle.mb_instr.specs.Codes.{IsInstr}
use Rattle.mb_instr.specs.Operands.{lower, address_number}
use Rattle.mb_instr.specs.Sizes.{bytes_of, sign_extended}
use Rattle.mb_instr.specs.Registers.{address_register}
use Rattle.mb_alu.specs.declared.conditions.Flagged.{Flagged}
use Rattle.mb_ea.specs.declared.addresses.Target.TheVariants.{Reg}
use Rattle.mb_ea.specs.Addresses.{sum}
use Rattle.mb_ea.specs.Reading.{read_operand_of}
use Rattle.mb_ea.specs.Resolve.{step_over_of}
use Rattle.mb_writes.specs.Writing.{write_operand_of}
use Rattle.def_instructions.specs.Attempt.{past}
use Rattle.def_instructions.specs.Ends.{carried}
use Rattle.def_instructions.specs.Operands.{behind_of, fetch_operand_of}
use Rattle.def_instructions.specs.Arithmetic.{combine_of, combine_either_way_of, combine_quick_of}
use Rattle.def_instructions.specs.Modifying.{modify_of}
use Rattle.def_instructions.specs.Rows.{row_of}
use Rattle.mb_table.specs.declared.forms.Place.{Place}
use Rattle.mb_table.specs.declared.forms.Place.TheVariants as place
use Rattle.mb_table.specs.declared.forms.Update.{Update}
use Rattle.mb_table.specs.declared.forms.Update.TheVariants as update
use Rattle.mb_table.specs.Forms.{place_ea, update_of}
use Rattle.mb_short.specs.Operands.{place_at}
use Rattle.mb_short.specs.Updates.{HasData, updated_by}
use Rattle.mb_short.specs.Taken.{Goes}
use Rattle.mb_short.proofs.Goings.{one_goes, two_go}
use Rattle.mb_short.proofs.Operands.{Finds, place_found, near_found, data_fetched, memory_fetched, same_place}

-- ---- instructions of the table have registers

pub has_data : (u : Update) (size : Size) (ea : Ea) → IsInstr (update_of u size ea) → HasData u
has_data (update.Add n) size ea h = h.fields.upper
has_data (update.Subtract n) size ea h = h.fields.upper
has_data (update.And n) size ea h = h.fields.upper
has_data (update.Or n) size ea h = h.fields.upper
has_data (update.ExclusiveOr n) size ea h = h.fields.upper
has_data (update.AddQuick quick) size ea h = tt
has_data (update.SubtractQuick quick) size ea h = tt
has_data update.Negate size ea h = tt
has_data update.Complement size ea h = tt

pub has_updated : (u : Update) (size : Size) (ea : Ea) → IsInstr (update_of u size ea) → lower ea < 8
has_updated (update.Add n) size ea h = h.fields.lower
has_updated (update.Subtract n) size ea h = h.fields.lower
has_updated (update.And n) size ea h = h.fields.lower
has_updated (update.Or n) size ea h = h.fields.lower
has_updated (update.ExclusiveOr n) size ea h = h.fields.lower
has_updated (update.AddQuick quick) size ea h = h.fields.lower
has_updated (update.SubtractQuick quick) size ea h = h.fields.lower
has_updated update.Negate size ea h = h.fields.lower
has_updated update.Complement size ea h = h.fields.lower

-- ---- rows

-- what they make of an operand does not depend on PC
same_update : (u : Update) (size : Size) (value n : ℕ) (p : Plain) → updated_by u size value (past n p) ≡ updated_by u size value p
same_update (update.Add m) size value n p = refl
same_update (update.Subtract m) size value n p = refl
same_update (update.And m) size value n p = refl
same_update (update.Or m) size value n p = refl
same_update (update.ExclusiveOr m) size value n p = refl
same_update (update.AddQuick quick) size value n p = refl
same_update (update.SubtractQuick quick) size value n p = refl
same_update update.Negate size value n p = refl
same_update update.Complement size value n p = refl

combined : {S : Type 0} (bus : Bus S) (operation : ℕ → ℕ → ℕ → Flagged) (size : Size) (n : ℕ) (ea : Ea) (to value word_at : ℕ) (space : Space)
    (p q : Plain) (s t : S) (source : ℕ) → n < 8 → Finds bus size ea space p s to q → q.ccr ≡ p.ccr
    → run bus (read_operand_of space to (bytes_of size)) s ≡ (Ok value, s)
    → run bus (fetch_operand_of size (Dn n) word_at space p) s ≡ (Ok (record { target = Reg n; value = source; plain = p }), s)
    → run bus (write_operand_of space to (bytes_of size) (operation source value p.ccr).value) s ≡ (Ok tt, t)
    → run bus (combine_of operation size (Dn n) ea word_at space p) s ≡ (carried (record q { ccr = (operation source value p.ccr).ccr }), t)
combined bus operation size n ea to value word_at space p q s t source h found same read from put =
    let at = behind_of size (Dn n) word_at in
    rw (run, from, memory_fetched bus size ea to value space p q s found read at, same, put) refl

modified : {S : Type 0} (bus : Bus S) (change : ℕ → ℕ → Flagged) (size : Size) (ea : Ea) (to value word_at : ℕ) (space : Space)
    (p q : Plain) (s t : S) → Finds bus size ea space p s to q → q.ccr ≡ p.ccr
    → run bus (read_operand_of space to (bytes_of size)) s ≡ (Ok value, s)
    → run bus (write_operand_of space to (bytes_of size) (change value p.ccr).value) s ≡ (Ok tt, t)
    → run bus (modify_of change size ea word_at space p) s ≡ (carried (record q { ccr = (change value p.ccr).ccr }), t)
modified bus change size ea to value word_at space p q s t found same read put =
    rw (run, memory_fetched bus size ea to value space p q s found read word_at, same, put) refl

updates : {S : Type 0} (bus : Bus S) (u : Update) (size : Size) (ea : Ea) (to value at : ℕ) (space : Space) (p q : Plain) (s t : S)
    → HasData u → address_number ea ≡ None → Finds bus size ea space p s to q → q.ccr ≡ p.ccr
    → run bus (read_operand_of space to (bytes_of size)) s ≡ (Ok value, s)
    → run bus (write_operand_of space to (bytes_of size) (updated_by u size value p).value) s ≡ (Ok tt, t)
    → run bus (row_of (update_of u size ea) at space p) s ≡ (carried (record q { ccr = (updated_by u size value p).ccr }), t)
unfolding combine_either_way_of combine_quick_of
updates bus (update.Add n) size ea to value at space p q s t h none found same read put =
    combined bus _ size n ea to value _ space p q s t _ h found same read (data_fetched bus size n space p s h _) put
updates bus (update.Subtract n) size ea to value at space p q s t h none found same read put =
    combined bus _ size n ea to value _ space p q s t _ h found same read (data_fetched bus size n space p s h _) put
updates bus (update.And n) size ea to value at space p q s t h none found same read put =
    combined bus _ size n ea to value _ space p q s t _ h found same read (data_fetched bus size n space p s h _) put
updates bus (update.Or n) size ea to value at space p q s t h none found same read put =
    combined bus _ size n ea to value _ space p q s t _ h found same read (data_fetched bus size n space p s h _) put
updates bus (update.ExclusiveOr n) size ea to value at space p q s t h none found same read put =
    combined bus _ size n ea to value _ space p q s t _ h found same read (data_fetched bus size n space p s h _) put
updates bus (update.AddQuick quick) size ea to value at space p q s t h none found same read put =
    rw none (modified bus _ size ea to value _ space p q s t found same read put)
updates bus (update.SubtractQuick quick) size ea to value at space p q s t h none found same read put =
    rw none (modified bus _ size ea to value _ space p q s t found same read put)
updates bus update.Negate size ea to value at space p q s t h none found same read put =
    modified bus _ size ea to value _ space p q s t found same read put
updates bus update.Complement size ea to value at space p q s t h none found same read put =
    modified bus _ size ea to value _ space p q s t found same read put

no_number : (place : Place) → address_number (place_ea place) ≡ None
no_number (place.At n) = refl
no_number (place.Up n) = refl
no_number (place.Down n) = refl

same_codes : (place : Place) (size : Size) (p : Plain) → (step_over_of (place_ea place) size p).ccr ≡ p.ccr
same_codes (place.At n) size p = refl
same_codes (place.Up n) size p = refl
same_codes (place.Down n) size p = refl

pub updates_memory : {S : Type 0} (bus : Bus S) (u : Update) (size : Size) (place : Place) (value : ℕ) (space : Space) (p : Plain) (s t : S)
    → IsInstr (update_of u size (place_ea place))
    → run bus (read_operand_of space (place_at place size p) (bytes_of size)) s ≡ (Ok value, s)
    → run bus (write_operand_of space (place_at place size p) (bytes_of size) (updated_by u size value p).value) s ≡ (Ok tt, t)
    → Goes bus (update_of u size (place_ea place)) 1 space p s false
    (record (step_over_of (place_ea place) size (past 1 p)) { ccr = (updated_by u size value p).ccr }) t
updates_memory bus u size place value space p s t valid read put =
    let moved = past 1 p in
    let after = step_over_of (place_ea place) size moved in
    let at = same_place place size 1 p in
    let same = same_update u size value 1 p in
    let here = subst (λ (n : ℕ). run bus (read_operand_of space n (bytes_of size)) s ≡ (Ok value, s)) (sym at) read in
    let there = subst (λ (n : ℕ). run bus (write_operand_of space n (bytes_of size) (updated_by u size value p).value) s ≡ (Ok tt, t)) (sym at) put in
    let written = subst (λ (f : Flagged). run bus (write_operand_of space (place_at place size moved) (bytes_of size) f.value) s
    ≡ (Ok tt, t)) (sym same) there in
    let row = updates bus u size (place_ea place) (place_at place size moved) value p.pc space moved after s t (has_data u size (place_ea place) valid)
    (no_number place) (place_found bus size place space moved s) (same_codes place size moved) here written in
    one_goes bus (update_of u size (place_ea place)) space p (record after { ccr = (updated_by u size value p).ccr }) s t
    (subst (λ (f : Flagged). run bus (row_of (update_of u size (place_ea place)) p.pc space moved) s ≡ (carried (record after { ccr = f.ccr }), t)) same row)

pub updates_near : {S : Type 0} (bus : Bus S) (u : Update) (size : Size) (m d value : ℕ) (space : Space) (p : Plain) (s t : S)
    → IsInstr (update_of u size (Disp m d))
    → run bus (read_operand_of space (sum (address_register p m) (sign_extended Word d)) (bytes_of size)) s ≡ (Ok value, s)
    → run bus (write_operand_of space (sum (address_register p m) (sign_extended Word d)) (bytes_of size) (updated_by u size value p).value) s ≡ (Ok tt, t)
    → Goes bus (update_of u size (Disp m d)) 2 space p s false (record (past 2 p) { ccr = (updated_by u size value p).ccr }) t
updates_near bus u size m d value space p s t valid read put =
    let moved = past 2 p in
    let at = sum (address_register p m) (sign_extended Word d) in
    let same = same_update u size value 2 p in
    let written = subst (λ (f : Flagged). run bus (write_operand_of space at (bytes_of size) f.value) s ≡ (Ok tt, t)) (sym same) put in
    let row = updates bus u size (Disp m d) at value p.pc space moved moved s t (has_data u size (Disp m d) valid)
    refl (near_found bus size m d space moved s) refl read written in
    two_go bus (update_of u size (Disp m d)) space p (record moved { ccr = (updated_by u size value p).ccr }) s t
    (subst (λ (f : Flagged). run bus (row_of (update_of u size (Disp m d)) p.pc space moved) s ≡ (carried (record moved { ccr = f.ccr }), t)) same row)

pub ruleset updating = (has_data, has_updated)
