-- The registers at a MOVEM's refused transfer: eight address registers, and five condition codes.
use Rattle.std.proofs.Common.{◌≡◌, ◌∙◌, ℕ, ◌+◌, ◌-◌, ◌%◌, ◌^◌, ◌<◌, ◌==◌, Bool, true, false, cond, nat_lt, List, [], ◌∷◌, ◌++◌, take, drop, length, Result, Ok}
use Rattle.std.proofs.Common.{Err, arith, refl, ap, sym, subst}
use Rattle.std.specs.Prelude.{slice_index}
use Rattle.std.proofs.lemmas.List.{length-append, length-set}
use Rattle.mb_port.specs.Routine.{Return, Bus, run, choose, tried, other_fault, ◌>>=◌}
use Rattle.mb_port.specs.declared.types.Space.{Space}
use Rattle.mb_instr.specs.declared.size.Size.{Size}
use Rattle.mb_instr.specs.Sizes.{bytes_of, sign_extended}
use Rattle.mb_instr.specs.declared.operand.Ea.{Ea}
use Rattle.mb_instr.specs.declared.instruction.Instr.{Instr}
use Rattle.mb_instr.specs.declared.instruction.Instr.TheVariants as instr
use Rattle.mb_instr.specs.declared.instruction.Move.TheVariants as move
use Rattle.mb_instr.specs.declared.registers.Plain.{Plain}
use Rattle.mb_instr.specs.declared.registers.Regs.{Regs}
use Rattle.mb_instr.specs.Registers.{active_stack, plain_of, with_register, with_data_register, with_address_register}
use Rattle.mb_instr.specs.Rows.{move_row}
use Rattle.mb_instr.specs.Shapes.{operands_at}
use Rattle.mb_ea.specs.declared.reading.ReadFault.{ReadFault}
use Rattle.mb_ea.specs.Reading.{read_operand_of}
use Rattle.mb_writes.specs.declared.ends.MovemFault.{MovemFault}
use Rattle.mb_writes.specs.declared.transfers.Movem.{Movem}
use Rattle.mb_writes.specs.declared.transfers.MovemMode.{MovemMode}
use Rattle.mb_writes.specs.declared.transfers.MovemMode.TheVariants.{Control, Post, Pre}
use Rattle.mb_writes.specs.declared.transfers.Transfer.{Transfer}
use Rattle.mb_writes.specs.Transfers.{transfers_of}
use Rattle.mb_writes.specs.Moving.{Halfway, refused_at, loaded_of, load_all_of, store_all_of, stepped_of, storing, transfer_of}
use Rattle.def_instructions.specs.Ends.{Performed, Rowed, OtherEnd, Cut, Unread, Stop, restored, carried}
use Rattle.def_instructions.specs.Moves.{movem_by, movem_of, transferring}
use Rattle.def_instructions.specs.Operands.{find_address_of}
use Rattle.def_instructions.specs.Rows.{perform_of}
use Rattle.def_instructions.specs.Attempt.{FoundInstr, past, fetched_of, attempt_of}
use Rattle.law_attempts.proofs.Attempts.{attempts_perform}
use Rattle.law_tells.specs.Laws.{moves, moves_fetched}
use Rattle.law_turns.proofs.Registers.{IsTidy}

pub record IsEight (p : Plain) : Type 0 where
  pub registers : length p.a ≡ 8
  pub codes : p.ccr < 2 ^ 5

eight_list : (xs : List ℕ) → length xs ≡ 8 → take 7 xs ++ slice_index xs 7 ∷ [] ≡ xs
eight_list [] n = absurd (let z : ⊥ = omega arith in z)
eight_list (a ∷ []) n = absurd (let z : ⊥ = omega arith in z)
eight_list (a ∷ b ∷ []) n = absurd (let z : ⊥ = omega arith in z)
eight_list (a ∷ b ∷ c ∷ []) n = absurd (let z : ⊥ = omega arith in z)
eight_list (a ∷ b ∷ c ∷ d ∷ []) n = absurd (let z : ⊥ = omega arith in z)
eight_list (a ∷ b ∷ c ∷ d ∷ e ∷ []) n = absurd (let z : ⊥ = omega arith in z)
eight_list (a ∷ b ∷ c ∷ d ∷ e ∷ f ∷ []) n = absurd (let z : ⊥ = omega arith in z)
eight_list (a ∷ b ∷ c ∷ d ∷ e ∷ f ∷ g ∷ []) n = absurd (let z : ⊥ = omega arith in z)
eight_list (a ∷ b ∷ c ∷ d ∷ e ∷ f ∷ g ∷ h ∷ []) n = refl
eight_list (a ∷ b ∷ c ∷ d ∷ e ∷ f ∷ g ∷ h ∷ i ∷ xs) n = absurd (let z : ⊥ = omega arith in z)

pub eight_tidy : (p : Plain) → IsEight p → IsTidy p
eight_tidy p e =
    ap (λ (a : List ℕ). (let q : Plain = record { d = p.d; a = a; pc = p.pc; ccr = p.ccr % 2 ^ 5 } in q)) (eight_list p.a e.registers)
    ∙ ap (λ (ccr : ℕ). (let q : Plain = record { d = p.d; a = p.a; pc = p.pc; ccr = ccr } in q)) (let h = e.codes in let z : p.ccr % 2 ^ 5 ≡ p.ccr =
    omega arith in z)

pub eight_plain : (r : Regs) → length r.a ≡ 7 → IsEight (plain_of r)
eight_plain r seven = record {
  registers = length-append r.a (active_stack r ∷ []) ∙ ap (λ (n : ℕ). n + 1) seven;
  codes = omega arith;
}

-- ---- one register

set_eight : (p : Plain) (n value : ℕ) → IsEight p → (b : Bool) → IsEight (cond b (with_data_register p n value) (with_address_register p (n - 8) value))
set_eight p n value e true = record { registers = e.registers; codes = e.codes }
set_eight p n value e false = record { registers = length-set p.a (n - 8) value ∙ e.registers; codes = e.codes }

register_eight : (p : Plain) (n value : ℕ) → IsEight p → IsEight (with_register p n value)
register_eight p n value e = set_eight p n value e (nat_lt n 8)

or_same : (b : Bool) (p q : Plain) → IsEight p → IsEight q → IsEight (cond b p q)
or_same true p q e f = e
or_same false p q e f = f

loaded_eight : (m : MovemMode) (size : Size) (p : Plain) (r value : ℕ) → IsEight p → IsEight (loaded_of m size p r value)
loaded_eight Control size p r value e = register_eight p r (sign_extended size value) e
loaded_eight (Post n) size p r value e =
    let q = with_register p r (sign_extended size value) in or_same (r == 8 + n) p q e (register_eight p r (sign_extended size value) e)
loaded_eight (Pre n) size p r value e = register_eight p r (sign_extended size value) e

-- ---- the transfers, over every bus

abbrev IsHalfEight : Result Plain Halfway → Type 0
IsHalfEight (Ok moved) = Unit {0}
IsHalfEight (Err halfway) = IsEight halfway.plain

-- how it ended otherwise, it has eight
abbrev pub StopsEight : Performed → Type 0
StopsEight (Ok done) = Unit {0}
StopsEight (Err stop) = IsEight stop.plain

-- how its row is cut short otherwise than by a read
abbrev CutsEight : Rowed → Type 0
CutsEight (Ok done) = Unit {0}
CutsEight (Err (Unread refused)) = Unit {0}
CutsEight (Err (Stop stop)) = IsEight stop.plain

restored_eight : (p : Plain) → IsEight p → (row : Rowed) → CutsEight row → StopsEight (other_fault (restored p) row)
restored_eight p e (Ok done) c = tt
restored_eight p e (Err (Unread refused)) c = e
restored_eight p e (Err (Stop stop)) c = c

module _ {S : Type 0} (bus : Bus S) (m : Movem) (space : Space) (first : ℕ) where
  load_one : (done : ℕ) (t : Transfer) (ts : List Transfer) (p : Plain) → IsEight p
      → ((q : Plain) → IsEight q → (u : S) → IsHalfEight (run bus (load_all_of m space first (done + 1) ts q) u).0)
      → (answer : Result ℕ ReadFault) (u : S)
      → IsHalfEight (run bus (tried (other_fault (λ refused. (let h : Halfway = record { fault = refused_at first done refused.fault; plain = p } in h)) answer)
      (λ value. load_all_of m space first (done + 1) ts (loaded_of m.mode m.size p t.register value))) u).0
  load_one done t ts p e more (Ok value) u = more (loaded_of m.mode m.size p t.register value) (loaded_eight m.mode m.size p t.register value e) u
  load_one done t ts p e more (Err refused) u = e

  loads_eight : (ts : List Transfer) (done : ℕ) (p : Plain) → IsEight p → (u : S) → IsHalfEight (run bus (load_all_of m space first done ts p) u).0
  loads_eight [] done p e u = tt
  loads_eight (t ∷ ts) done p e u =
      let q = run bus (read_operand_of space t.at (bytes_of m.size)) u in
      load_one done t ts p e (loads_eight ts (done + 1)) q.0 q.1

  stores_eight : (p : Plain) → IsEight p → (answer : Result (Unit {0}) MovemFault) (u : S)
      → IsHalfEight (run bus (tried (other_fault (λ fault. (let h : Halfway = record { fault = fault; plain = p } in h)) answer) (λ done. Return (Ok p))) u).0
  stores_eight p e (Ok done) u = tt
  stores_eight p e (Err fault) u = e

  chosen_eight : (b : Bool) (done : ℕ) (p : Plain) → IsEight p → (u : S)
      → IsHalfEight (run bus (choose b (load_all_of m space first done (drop done (transfers_of m first)) p) (storing m first done space p)) u).0
  chosen_eight true done p e u = loads_eight (drop done (transfers_of m first)) done p e u
  chosen_eight false done p e u =
      let q = run bus (store_all_of m space p first done (drop done (transfers_of m first))) u in stores_eight p e q.0 q.1

  stepped_eight : (answer : Result Plain Halfway) (u : S) → IsHalfEight answer
      → IsHalfEight (run bus (tried answer (λ moved. Return (Ok (stepped_of m.mode m.size first (length (transfers_of m first)) moved)))) u).0
  stepped_eight (Ok moved) u e = tt
  stepped_eight (Err halfway) u e = e

  transfers_eight : (done : ℕ) (p : Plain) → IsEight p → (u : S) → IsHalfEight (run bus (transfer_of m first done space p) u).0
  transfers_eight done p e u =
      let q = run bus (choose m.is_load (load_all_of m space first done (drop done (transfers_of m first)) p) (storing m first done space p)) u in
      stepped_eight q.0 q.1 (chosen_eight m.is_load done p e u)

  moved_eight : (answer : Result Plain Halfway) (u : S) → IsHalfEight answer
      → CutsEight (run bus (transferring (Return answer) >>= λ moved. Return (carried moved)) u).0
  moved_eight (Ok moved) u e = tt
  moved_eight (Err halfway) u e = e

-- ---- a MOVEM

module _ {S : Type 0} (bus : Bus S) (space : Space) where
  placed_eight : (m : Movem) (p : Plain) → IsEight p → (answer : Result ℕ ReadFault) (u : S)
      → CutsEight (run bus (tried (other_fault (λ refused. (let cut : Cut OtherEnd = Unread refused in cut)) answer)
      (λ place. transferring (transfer_of m place 0 space p) >>= λ moved. Return (carried moved))) u).0
  placed_eight m p e (Ok place) u =
      let q = run bus (transfer_of m place 0 space p) u in moved_eight bus m space place q.0 q.1 (transfers_eight bus m space place 0 p e u)
  placed_eight m p e (Err refused) u = tt

  movems_eight : (is_load : Bool) (size : Size) (ea : Ea) (mask at : ℕ) (p : Plain) → IsEight p → (u : S)
      → CutsEight (run bus (movem_of is_load size ea mask at space p) u).0
  movems_eight is_load size ea mask at p e u =
      let q = run bus (find_address_of size ea at space p) u in placed_eight (movem_by is_load size ea mask) p e q.0 q.1

  rows_eight : (i : Instr) (m : Movem) (at : ℕ) (p : Plain) → moves i m → IsEight p → (u : S) → StopsEight (run bus (perform_of i at space p) u).0
  rows_eight (instr.Move (move.MovemLoad size ea mask)) m at p is e u =
      let word_at = operands_at (move_row (move.MovemLoad size ea mask)) at in
      restored_eight p e (run bus (movem_of true size ea mask word_at space p) u).0 (movems_eight true size ea mask word_at p e u)
  rows_eight (instr.Move (move.MovemStore size ea mask)) m at p is e u =
      let word_at = operands_at (move_row (move.MovemStore size ea mask)) at in
      restored_eight p e (run bus (movem_of false size ea mask word_at space p) u).0 (movems_eight false size ea mask word_at p e u)
  rows_eight _ m at p is e u = absurd is

  -- an attempt whose fetch found it
  pub attempts_eight : (p : Plain) (u : S) (m : Movem) → moves_fetched bus space p.pc u m → IsEight p → StopsEight (run bus (attempt_of space p) u).0
  attempts_eight p u m (i, n, found, is) e =
      let q = run bus (fetched_of space p.pc) u in
      let at : q ≡ (Ok (i, n), q.1) = ap (λ (a : FoundInstr). (let o : FoundInstr × S = (a, q.1) in o)) found in
      subst (λ (r : Performed × S). StopsEight r.0) (sym (attempts_perform bus space p u q.1 i n at))
      (rows_eight i m p.pc (past n p) is (record { registers = e.registers; codes = e.codes }) q.1)
