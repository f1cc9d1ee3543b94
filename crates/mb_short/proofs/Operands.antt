-- What the routines of rows find at the operands of short forms, and what they make of them.
use Rattle.std.proofs.Common.{◌≡◌, ℕ, ◌+◌, ◌-◌, ◌<◌, refl, sym, subst, false, Ok, arith}
use Rattle.std.specs.Prelude.{nat_lt}
use Rattle.std.proofs.lemmas.Bool.Decides.{nat_tests}
use Rattle.mb_port.specs.Routine.{Bus, run}
use Rattle.mb_port.specs.declared.types.Space.{Space}
use Rattle.mb_instr.specs.declared.size.Size.{Size}
use Rattle.mb_instr.specs.declared.size.Size.TheVariants.{Word}
use Rattle.mb_instr.specs.declared.operand.Ea.{Ea}
use Rattle.mb_instr.specs.declared.operand.Ea.TheVariants.{Dn, An, Disp, Index, AbsL}
use Rattle.mb_instr.specs.declared.operand.Ext.TheVariants.{Brief}
use Rattle.mb_instr.specs.declared.registers.Plain.{Plain}
use Rattle.mb_instr.specs.Codes.{IsInstr}
use Rattle.mb_instr.specs.Operands.{lower}
use Rattle.mb_instr.specs.Sizes.{low_of, bytes_of, sign_extended}
use Rattle.mb_instr.specs.Registers.{data_register, address_register, with_address_register}
use Rattle.mb_alu.specs.declared.conditions.Flagged.{Flagged}
use Rattle.mb_alu.specs.Sums.{compare_of}
use Rattle.mb_ea.specs.declared.addresses.Target.{Target}
use Rattle.mb_ea.specs.declared.addresses.Target.TheVariants.{Reg, Memory}
use Rattle.mb_ea.specs.Addresses.{sum}
use Rattle.mb_ea.specs.Reading.{read_operand_of}
use Rattle.mb_ea.specs.Resolve.{resolve_of, step_over_of}
use Rattle.mb_writes.specs.Writing.{write_operand_of}
use Rattle.def_instructions.specs.Attempt.{past}
use Rattle.def_instructions.specs.Ends.{Rowed, carried}
use Rattle.def_instructions.specs.Operands.{behind_of, fetch_operand_of}
use Rattle.def_instructions.specs.Moves.{move_operand_of, movea_of, move_flags}
use Rattle.def_instructions.specs.Arithmetic.{combine_of, compare_pair_of, combine_either_way_of, take_of}
use Rattle.def_instructions.specs.Unary.{put_in_register_of}
use Rattle.def_instructions.specs.Rows.{row_of}
use Rattle.mb_table.specs.declared.forms.Place.{Place}
use Rattle.mb_table.specs.declared.forms.Place.TheVariants as place
use Rattle.mb_table.specs.declared.forms.Register.{Register}
use Rattle.mb_table.specs.declared.forms.Register.TheVariants as register
use Rattle.mb_table.specs.declared.forms.Taking.{Taking}
use Rattle.mb_table.specs.declared.forms.Taking.TheVariants as take
use Rattle.mb_table.specs.declared.forms.Putting.{Putting}
use Rattle.mb_table.specs.declared.forms.Putting.TheVariants as write
use Rattle.mb_table.specs.Forms.{place_ea, register_ea, taking_of, putting_of}
use Rattle.mb_short.specs.Moved.{moved_to}
use Rattle.mb_short.specs.Operands.{place_at, indexed_at, register_value, HasRegister, taken_by, HasSource, put_value}
use Rattle.mb_short.specs.Taken.{Goes}
use Rattle.mb_short.proofs.Moves.{is_data}
use Rattle.mb_short.proofs.Goings.{one_goes, two_go, three_go}

is_address : (n : ℕ) → nat_lt (8 + n) 8 ≡ false
is_address n = grind (arith, nat_tests)

less_eight : (n : ℕ) → (8 + n) - 8 ≡ n
less_eight n = omega arith

-- ---- instructions of the table have registers

pub has_register : (t : Taking) (size : Size) (ea : Ea) → IsInstr (taking_of t size ea) → HasRegister t
has_register (take.Move n) size ea h = h.fields.upper
has_register (take.MoveAddress n) size ea h = h.fields.upper
has_register (take.Add n) size ea h = h.fields.upper
has_register (take.Subtract n) size ea h = h.fields.upper
has_register (take.And n) size ea h = h.fields.upper
has_register (take.Or n) size ea h = h.fields.upper
has_register (take.Compare n) size ea h = h.fields.upper
has_register (take.AddAddress n) size ea h = h.fields.upper
has_register (take.SubtractAddress n) size ea h = h.fields.upper
has_register (take.CompareAddress n) size ea h = h.fields.upper
has_register take.Test size ea h = tt

pub has_operand : (t : Taking) (size : Size) (ea : Ea) → IsInstr (taking_of t size ea) → lower ea < 8
has_operand (take.Move n) size ea h = h.fields.lower
has_operand (take.MoveAddress n) size ea h = h.fields.lower
has_operand (take.Add n) size ea h = h.fields.lower
has_operand (take.Subtract n) size ea h = h.fields.lower
has_operand (take.And n) size ea h = h.fields.lower
has_operand (take.Or n) size ea h = h.fields.lower
has_operand (take.Compare n) size ea h = h.fields.lower
has_operand (take.AddAddress n) size ea h = h.fields.lower
has_operand (take.SubtractAddress n) size ea h = h.fields.lower
has_operand (take.CompareAddress n) size ea h = h.fields.lower
has_operand take.Test size ea h = h.fields.lower

pub has_source : (t : Putting) (size : Size) (ea : Ea) → IsInstr (putting_of t size ea) → HasSource t
has_source (write.Data n) size ea h = h.fields.lower
has_source (write.Address n) size ea h = h.fields.lower
has_source write.Zero size ea h = tt

pub has_place : (t : Putting) (size : Size) (ea : Ea) → IsInstr (putting_of t size ea) → lower ea < 8
has_place (write.Data n) size ea h = h.fields.upper
has_place (write.Address n) size ea h = h.fields.upper
has_place write.Zero size ea h = h.fields.lower

-- ---- where an operand stands, and its value

abbrev pub Finds : {S : Type 0} → Bus S → Size → Ea → Space → Plain → S → ℕ → Plain → Type 0
Finds bus size ea space p s at q =
    (word_at : ℕ) → run bus (resolve_of ea size word_at space p) s ≡ (Ok (record { target = Memory at; plain = q }), s)

abbrev pub Fetches : {S : Type 0} → Bus S → Size → Ea → Space → Plain → S → Target → ℕ → Plain → Type 0
Fetches bus size ea space p s target value q =
    (word_at : ℕ) → run bus (fetch_operand_of size ea word_at space p) s ≡ (Ok (record { target = target; value = value; plain = q }), s)

pub place_found : {S : Type 0} (bus : Bus S) (size : Size) (place : Place) (space : Space) (p : Plain) (s : S)
    → Finds bus size (place_ea place) space p s (place_at place size p) (step_over_of (place_ea place) size p)
unfolding resolve_of
place_found bus size (place.At n) space p s word_at = refl
place_found bus size (place.Up n) space p s word_at = refl
place_found bus size (place.Down n) space p s word_at = refl

pub near_found : {S : Type 0} (bus : Bus S) (size : Size) (m d : ℕ) (space : Space) (p : Plain) (s : S)
    → Finds bus size (Disp m d) space p s (sum (address_register p m) (sign_extended Word d)) p
unfolding resolve_of
near_found bus size m d space p s word_at = refl

indexed_found : {S : Type 0} (bus : Bus S) (size : Size) (m w : ℕ) (space : Space) (p : Plain) (s : S)
    → Finds bus size (Index m (Brief w)) space p s (indexed_at m w p) p
unfolding resolve_of
indexed_found bus size m w space p s word_at = refl

absolute_found : {S : Type 0} (bus : Bus S) (size : Size) (at : ℕ) (space : Space) (p : Plain) (s : S) → Finds bus size (AbsL at) space p s at p
unfolding resolve_of
absolute_found bus size at space p s word_at = refl

pub data_fetched : {S : Type 0} (bus : Bus S) (size : Size) (n : ℕ) (space : Space) (p : Plain) (s : S) → n < 8
    → Fetches bus size (Dn n) space p s (Reg n) (low_of size (data_register p n)) p
unfolding resolve_of
data_fetched bus size n space p s h word_at = rw (is_data n h) refl

address_fetched : {S : Type 0} (bus : Bus S) (size : Size) (n : ℕ) (space : Space) (p : Plain) (s : S)
    → Fetches bus size (An n) space p s (Reg (8 + n)) (low_of size (address_register p n)) p
unfolding resolve_of
address_fetched bus size n space p s word_at = rw (is_address n, less_eight n) refl

pub memory_fetched : {S : Type 0} (bus : Bus S) (size : Size) (ea : Ea) (at value : ℕ) (space : Space) (p q : Plain) (s : S)
    → Finds bus size ea space p s at q → run bus (read_operand_of space at (bytes_of size)) s ≡ (Ok value, s)
    → Fetches bus size ea space p s (Memory at) value q
memory_fetched bus size ea at value space p q s found read word_at = rw (run, found word_at, read) refl

-- ---- what is made of an operand's value

pub moved : {S : Type 0} (bus : Bus S) (size : Size) (n : ℕ) (ea : Ea) (target : Target) (value word_at : ℕ) (space : Space) (p q : Plain) (s : S)
    → n < 8 → Fetches bus size ea space p s target value q
    → run bus (move_operand_of size (Dn n) ea word_at space p) s ≡ (carried (moved_to n size value q), s)
unfolding resolve_of
moved bus size n ea target value word_at space p q s h fetched = rw (run, fetched word_at, is_data n h) refl

pub moved_address : {S : Type 0} (bus : Bus S) (size : Size) (n : ℕ) (ea : Ea) (target : Target) (value word_at : ℕ) (space : Space) (p q : Plain)
    (s : S) → Fetches bus size ea space p s target value q
    → run bus (movea_of size n ea word_at space p) s ≡ (carried (with_address_register q n (sign_extended size value)), s)
moved_address bus size n ea target value word_at space p q s fetched = rw (run, fetched word_at) refl

pub combined : {S : Type 0} (bus : Bus S) (operation : ℕ → ℕ → ℕ → Flagged) (size : Size) (n : ℕ) (ea : Ea) (target : Target) (value word_at : ℕ)
    (space : Space) (p q : Plain) (s : S) → n < 8 → Fetches bus size ea space p s target value q
    → run bus (combine_of operation size ea (Dn n) word_at space p) s
    ≡ (carried (put_in_register_of n size (operation value (low_of size (data_register q n)) q.ccr) q), s)
combined bus operation size n ea target value word_at space p q s h fetched =
    let destination = data_fetched bus size n space q s h (behind_of size ea word_at) in
    rw (run, fetched word_at, destination, is_data n h) refl

pub compared : {S : Type 0} (bus : Bus S) (size : Size) (n : ℕ) (ea : Ea) (target : Target) (value word_at : ℕ) (space : Space) (p q : Plain) (s : S)
    → n < 8 → Fetches bus size ea space p s target value q
    → run bus (compare_pair_of size ea (Dn n) word_at space p) s
    ≡ (carried (record q { ccr = compare_of size value (low_of size (data_register q n)) q.ccr }), s)
compared bus size n ea target value word_at space p q s h fetched =
    let destination = data_fetched bus size n space q s h (behind_of size ea word_at) in
    rw (run, fetched word_at, destination) refl

pub taken : {S : Type 0} (bus : Bus S) (effect : ℕ → Plain → Rowed) (size : Size) (ea : Ea) (target : Target) (value word_at : ℕ) (space : Space)
    (p q : Plain) (s : S) → Fetches bus size ea space p s target value q
    → run bus (take_of effect size ea word_at space p) s ≡ (effect value q, s)
taken bus effect size ea target value word_at space p q s fetched = rw (run, fetched word_at) refl

takes : {S : Type 0} (bus : Bus S) (t : Taking) (size : Size) (ea : Ea) (target : Target) (value at : ℕ) (space : Space) (p q : Plain) (s : S)
    → HasRegister t → Fetches bus size ea space p s target value q
    → run bus (row_of (taking_of t size ea) at space p) s ≡ (carried (taken_by t size value q), s)
unfolding combine_either_way_of
takes bus (take.Move n) size ea target value at space p q s h fetched = moved bus size n ea target value _ space p q s h fetched
takes bus (take.MoveAddress n) size ea target value at space p q s h fetched = moved_address bus size n ea target value _ space p q s fetched
takes bus (take.Add n) size ea target value at space p q s h fetched = combined bus _ size n ea target value _ space p q s h fetched
takes bus (take.Subtract n) size ea target value at space p q s h fetched = combined bus _ size n ea target value _ space p q s h fetched
takes bus (take.And n) size ea target value at space p q s h fetched = combined bus _ size n ea target value _ space p q s h fetched
takes bus (take.Or n) size ea target value at space p q s h fetched = combined bus _ size n ea target value _ space p q s h fetched
takes bus (take.Compare n) size ea target value at space p q s h fetched = compared bus size n ea target value _ space p q s h fetched
takes bus (take.AddAddress n) size ea target value at space p q s h fetched = taken bus _ size ea target value _ space p q s fetched
takes bus (take.SubtractAddress n) size ea target value at space p q s h fetched = taken bus _ size ea target value _ space p q s fetched
takes bus (take.CompareAddress n) size ea target value at space p q s h fetched = taken bus _ size ea target value _ space p q s fetched
takes bus take.Test size ea target value at space p q s h fetched = taken bus _ size ea target value _ space p q s fetched

-- where operands stand, and what registers have, does not depend on PC
same_register : (r : Register) (n : ℕ) (p : Plain) → register_value r (past n p) ≡ register_value r p
same_register (register.Data m) n p = refl
same_register (register.Address m) n p = refl

pub same_place : (place : Place) (size : Size) (n : ℕ) (p : Plain) → place_at place size (past n p) ≡ place_at place size p
same_place (place.At m) size n p = refl
same_place (place.Up m) size n p = refl
same_place (place.Down m) size n p = refl

same_put : (t : Putting) (size : Size) (n : ℕ) (p : Plain) → put_value t size (past n p) ≡ put_value t size p
same_put (write.Data m) size n p = refl
same_put (write.Address m) size n p = refl
same_put write.Zero size n p = refl

register_takes : {S : Type 0} (bus : Bus S) (t : Taking) (size : Size) (r : Register) (at : ℕ) (space : Space) (p : Plain) (s : S)
    → lower (register_ea r) < 8 → HasRegister t
    → run bus (row_of (taking_of t size (register_ea r)) at space p) s ≡ (carried (taken_by t size (low_of size (register_value r p)) p), s)
register_takes bus t size (register.Data n) at space p s k h =
    takes bus t size (Dn n) (Reg n) (low_of size (data_register p n)) at space p p s h (data_fetched bus size n space p s k)
register_takes bus t size (register.Address n) at space p s k h =
    takes bus t size (An n) (Reg (8 + n)) (low_of size (address_register p n)) at space p p s h (address_fetched bus size n space p s)

pub takes_register : {S : Type 0} (bus : Bus S) (t : Taking) (size : Size) (r : Register) (space : Space) (p : Plain) (s : S)
    → IsInstr (taking_of t size (register_ea r))
    → Goes bus (taking_of t size (register_ea r)) 1 space p s false (taken_by t size (low_of size (register_value r p)) (past 1 p)) s
takes_register bus t size r space p s valid =
    let row = register_takes bus t size r p.pc space (past 1 p) s (has_operand t size (register_ea r) valid) (has_register t size (register_ea r) valid) in
    one_goes bus (taking_of t size (register_ea r)) space p (taken_by t size (low_of size (register_value r p)) (past 1 p)) s s
    (subst
    (λ (value : ℕ). run bus (row_of (taking_of t size (register_ea r)) p.pc space (past 1 p)) s ≡ (carried (taken_by t size (low_of size value) (past 1 p)), s))
    (same_register r 1 p) row)

pub takes_memory : {S : Type 0} (bus : Bus S) (t : Taking) (size : Size) (place : Place) (value : ℕ) (space : Space) (p : Plain) (s : S)
    → IsInstr (taking_of t size (place_ea place))
    → run bus (read_operand_of space (place_at place size p) (bytes_of size)) s ≡ (Ok value, s)
    → Goes bus (taking_of t size (place_ea place)) 1 space p s false (taken_by t size value (step_over_of (place_ea place) size (past 1 p))) s
takes_memory bus t size place value space p s valid read =
    let moved = past 1 p in
    let after = step_over_of (place_ea place) size moved in
    let here = subst (λ (at : ℕ). run bus (read_operand_of space at (bytes_of size)) s ≡ (Ok value, s)) (sym (same_place place size 1 p)) read in
    one_goes bus (taking_of t size (place_ea place)) space p (taken_by t size value after) s s
    (takes bus t size (place_ea place) (Memory (place_at place size moved)) value p.pc space moved after s (has_register t size (place_ea place) valid)
    (memory_fetched bus size (place_ea place) (place_at place size moved) value space moved after s (place_found bus size place space moved s) here))

-- by two words, at an address that was found
takes_found : {S : Type 0} (bus : Bus S) (t : Taking) (size : Size) (ea : Ea) (at value : ℕ) (space : Space) (p : Plain) (s : S)
    → IsInstr (taking_of t size ea) → Finds bus size ea space (past 2 p) s at (past 2 p)
    → run bus (read_operand_of space at (bytes_of size)) s ≡ (Ok value, s)
    → Goes bus (taking_of t size ea) 2 space p s false (taken_by t size value (past 2 p)) s
takes_found bus t size ea at value space p s valid found read =
    let moved = past 2 p in
    two_go bus (taking_of t size ea) space p (taken_by t size value moved) s s
    (takes bus t size ea (Memory at) value p.pc space moved moved s (has_register t size ea valid)
    (memory_fetched bus size ea at value space moved moved s found read))

pub takes_near : {S : Type 0} (bus : Bus S) (t : Taking) (size : Size) (m d value : ℕ) (space : Space) (p : Plain) (s : S)
    → IsInstr (taking_of t size (Disp m d))
    → run bus (read_operand_of space (sum (address_register p m) (sign_extended Word d)) (bytes_of size)) s ≡ (Ok value, s)
    → Goes bus (taking_of t size (Disp m d)) 2 space p s false (taken_by t size value (past 2 p)) s
takes_near bus t size m d value space p s valid read =
    takes_found bus t size (Disp m d) (sum (address_register p m) (sign_extended Word d)) value space p s valid
    (near_found bus size m d space (past 2 p) s) read

pub takes_indexed : {S : Type 0} (bus : Bus S) (t : Taking) (size : Size) (m w value : ℕ) (space : Space) (p : Plain) (s : S)
    → IsInstr (taking_of t size (Index m (Brief w)))
    → run bus (read_operand_of space (indexed_at m w p) (bytes_of size)) s ≡ (Ok value, s)
    → Goes bus (taking_of t size (Index m (Brief w))) 2 space p s false (taken_by t size value (past 2 p)) s
takes_indexed bus t size m w value space p s valid read =
    takes_found bus t size (Index m (Brief w)) (indexed_at m w p) value space p s valid (indexed_found bus size m w space (past 2 p) s) read

pub takes_absolute : {S : Type 0} (bus : Bus S) (t : Taking) (size : Size) (at value : ℕ) (space : Space) (p : Plain) (s : S)
    → IsInstr (taking_of t size (AbsL at)) → run bus (read_operand_of space at (bytes_of size)) s ≡ (Ok value, s)
    → Goes bus (taking_of t size (AbsL at)) 3 space p s false (taken_by t size value (past 3 p)) s
takes_absolute bus t size at value space p s valid read =
    let moved = past 3 p in
    three_go bus (taking_of t size (AbsL at)) space p (taken_by t size value moved) s s
    (takes bus t size (AbsL at) (Memory at) value p.pc space moved moved s (has_register t size (AbsL at) valid)
    (memory_fetched bus size (AbsL at) at value space moved moved s (absolute_found bus size at space moved s) read))

-- ---- what is written

puts : {S : Type 0} (bus : Bus S) (t : Putting) (size : Size) (ea : Ea) (to at : ℕ) (space : Space) (p q : Plain) (s u : S)
    → HasSource t → Finds bus size ea space p s to q
    → run bus (write_operand_of space to (bytes_of size) (put_value t size p)) s ≡ (Ok tt, u)
    → run bus (row_of (putting_of t size ea) at space p) s ≡ (carried (move_flags size (put_value t size p) q), u)
puts bus (write.Data n) size ea to at space p q s u h found put = rw (run, data_fetched bus size n space p s h, found, put) refl
puts bus (write.Address n) size ea to at space p q s u h found put = rw (run, address_fetched bus size n space p s, found, put) refl
puts bus write.Zero size ea to at space p q s u h found put = rw (run, found, put) refl

pub puts_memory : {S : Type 0} (bus : Bus S) (t : Putting) (size : Size) (place : Place) (space : Space) (p : Plain) (s u : S)
    → IsInstr (putting_of t size (place_ea place))
    → run bus (write_operand_of space (place_at place size p) (bytes_of size) (put_value t size p)) s ≡ (Ok tt, u)
    → Goes bus (putting_of t size (place_ea place)) 1 space p s false
    (move_flags size (put_value t size p) (step_over_of (place_ea place) size (past 1 p))) u
puts_memory bus t size place space p s u valid put =
    let moved = past 1 p in
    let after = step_over_of (place_ea place) size moved in
    let there = subst (λ (at : ℕ). run bus (write_operand_of space at (bytes_of size) (put_value t size p)) s ≡ (Ok tt, u))
    (sym (same_place place size 1 p)) put in
    let here = subst (λ (value : ℕ). run bus (write_operand_of space (place_at place size moved) (bytes_of size) value) s ≡ (Ok tt, u))
    (sym (same_put t size 1 p)) there in
    let row = puts bus t size (place_ea place) (place_at place size moved) p.pc space moved after s u (has_source t size (place_ea place) valid)
    (place_found bus size place space moved s) here in
    one_goes bus (putting_of t size (place_ea place)) space p (move_flags size (put_value t size p) after) s u
    (subst (λ (value : ℕ). run bus (row_of (putting_of t size (place_ea place)) p.pc space moved) s ≡ (carried (move_flags size value after), u))
    (same_put t size 1 p) row)

-- by two words, to an address that was found
puts_found : {S : Type 0} (bus : Bus S) (t : Putting) (size : Size) (ea : Ea) (at : ℕ) (space : Space) (p : Plain) (s u : S)
    → IsInstr (putting_of t size ea) → Finds bus size ea space (past 2 p) s at (past 2 p)
    → run bus (write_operand_of space at (bytes_of size) (put_value t size p)) s ≡ (Ok tt, u)
    → Goes bus (putting_of t size ea) 2 space p s false (move_flags size (put_value t size p) (past 2 p)) u
puts_found bus t size ea at space p s u valid found put =
    let moved = past 2 p in
    let here = subst (λ (value : ℕ). run bus (write_operand_of space at (bytes_of size) value) s ≡ (Ok tt, u)) (sym (same_put t size 2 p)) put in
    let row = puts bus t size ea at p.pc space moved moved s u (has_source t size ea valid) found here in
    two_go bus (putting_of t size ea) space p (move_flags size (put_value t size p) moved) s u
    (subst (λ (value : ℕ). run bus (row_of (putting_of t size ea) p.pc space moved) s ≡ (carried (move_flags size value moved), u)) (same_put t size 2 p) row)

pub puts_near : {S : Type 0} (bus : Bus S) (t : Putting) (size : Size) (m d : ℕ) (space : Space) (p : Plain) (s u : S)
    → IsInstr (putting_of t size (Disp m d))
    → run bus (write_operand_of space (sum (address_register p m) (sign_extended Word d)) (bytes_of size) (put_value t size p)) s ≡ (Ok tt, u)
    → Goes bus (putting_of t size (Disp m d)) 2 space p s false (move_flags size (put_value t size p) (past 2 p)) u
puts_near bus t size m d space p s u valid put =
    puts_found bus t size (Disp m d) (sum (address_register p m) (sign_extended Word d)) space p s u valid (near_found bus size m d space (past 2 p) s) put

pub puts_indexed : {S : Type 0} (bus : Bus S) (t : Putting) (size : Size) (m w : ℕ) (space : Space) (p : Plain) (s u : S)
    → IsInstr (putting_of t size (Index m (Brief w)))
    → run bus (write_operand_of space (indexed_at m w p) (bytes_of size) (put_value t size p)) s ≡ (Ok tt, u)
    → Goes bus (putting_of t size (Index m (Brief w))) 2 space p s false (move_flags size (put_value t size p) (past 2 p)) u
puts_indexed bus t size m w space p s u valid put =
    puts_found bus t size (Index m (Brief w)) (indexed_at m w p) space p s u valid (indexed_found bus size m w space (past 2 p) s) put

pub puts_absolute : {S : Type 0} (bus : Bus S) (t : Putting) (size : Size) (at : ℕ) (space : Space) (p : Plain) (s u : S)
    → IsInstr (putting_of t size (AbsL at)) → run bus (write_operand_of space at (bytes_of size) (put_value t size p)) s ≡ (Ok tt, u)
    → Goes bus (putting_of t size (AbsL at)) 3 space p s false (move_flags size (put_value t size p) (past 3 p)) u
puts_absolute bus t size at space p s u valid put =
    let moved = past 3 p in
    let here = subst (λ (value : ℕ). run bus (write_operand_of space at (bytes_of size) value) s ≡ (Ok tt, u)) (sym (same_put t size 3 p)) put in
    let row = puts bus t size (AbsL at) at p.pc space moved moved s u (has_source t size (AbsL at) valid) (absolute_found bus size at space moved s) here in
    three_go bus (putting_of t size (AbsL at)) space p (move_flags size (put_value t size p) moved) s u
    (subst (λ (value : ℕ). run bus (row_of (putting_of t size (AbsL at)) p.pc space moved) s ≡ (carried (move_flags size value moved), u))
    (same_put t size 3 p) row)

pub ruleset operands = (has_register, has_operand, has_source, has_place)
