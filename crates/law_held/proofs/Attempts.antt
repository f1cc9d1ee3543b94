-- What is left of a whole attempt.
use Rattle.std.proofs.Common.{◌≡◌, ◌⊎◌, ◌∙◌, ℕ, Ok, Err, refl, ap, sym, subst, inl, inr}
use Rattle.mb_port.specs.Routine.{run}
use Rattle.mb_port.specs.declared.types.Space.{Space}
use Rattle.mb_instr.specs.declared.instruction.Instr.{Instr}
use Rattle.mb_instr.specs.declared.registers.Plain.{Plain}
use Rattle.mb_instr.specs.Codes.{IsInstr}
use Rattle.mb_ea.specs.declared.reading.ReadFault.{ReadFault}
use Rattle.mb_writes.specs.declared.transfers.Movem.{Movem}
use Rattle.mb_writes.specs.declared.ends.Ended.{Ended}
use Rattle.mb_writes.specs.declared.ends.Ended.TheVariants as ended
use Rattle.def_instructions.specs.Ends.{OtherEnd, Performed}
use Rattle.def_instructions.specs.Rows.{perform_of}
use Rattle.def_instructions.specs.Attempt.{Unfound, NoInstruction, Unfetched, FoundInstr, found_none, fetched_of, past}
use Rattle.law_attempts.proofs.Attempts.{attempts_perform, attempts_find_none}
use Rattle.law_tells.specs.Laws.{HasLongs, moves, moves_fetched}
use Rattle.def_guests.specs.Guests.{Guest}
use Rattle.def_guests.specs.Bus.{guest_bus}
use Rattle.def_guests.specs.Held.{held_bus}
use Rattle.law_held.specs.Sound.{Sound}
use Rattle.law_held.specs.Denied.{AttemptGoesOn, IsAllowed, IsDenied, IsFound, by_held, by_guest, AttemptsGoOn}
use Rattle.law_held.proofs.Rows.{fetches_go_on, rows_go_on}

-- it may be said of more MOVEMs
goes_on_by : (space : Space) (these those : Movem → Type 0) → ((m : Movem) → these m → those m)
    → (begun now : Guest) (end : Ended) (after : Plain) (whole : Performed × Guest)
    → AttemptGoesOn space these begun now end after whole → AttemptGoesOn space those begun now end after whole
goes_on_by space these those f begun now (ended.ReadFault refused) after whole h = h
goes_on_by space these those f begun now (ended.WriteFault refused) after whole h = h
goes_on_by space these those f begun now (ended.LineFault fault line) after whole h = h
goes_on_by space these those f begun now (ended.Movem refused) after whole (m, is, h) = (m, f m is, h)
goes_on_by space these those f begun now (ended.Done flow) after whole h = h
goes_on_by space these those f begun now (ended.Trap vector) after whole h = h
goes_on_by space these those f begun now (ended.Refused vector) after whole h = h

module _ (space : Space) (size : ℕ) (p : Plain) (g : Guest) (longs : HasLongs p) (sound : Sound size g) where
  abbrev Fetched : Movem → Type 0
  Fetched = moves_fetched held_bus space p.pc g

  abbrev Outcome : Performed × Guest → Performed × Guest → Type 0
  Outcome held own = (IsAllowed g held own ⊎ IsDenied space Fetched g held own) × Sound size held.1

  outcomes : (held own k q : Performed × Guest) → held ≡ k → own ≡ q → Outcome k q → Outcome held own
  outcomes held own k q e h o = subst (λ (a : Performed × Guest). Outcome a own) (sym e) (subst (λ (b : Performed × Guest). Outcome k b) (sym h) o)

  row_outcome : (i : Instr) (n : ℕ) → IsInstr i → run held_bus (fetched_of space p.pc) g ≡ (Ok (i, n), g)
      → let q = perform_of i p.pc space (past n p) in Outcome (run held_bus q g) (run guest_bus q g)
  row_outcome i n is fetched =
      let law = rows_go_on space size i p.pc (past n p) g is longs sound in
      let named : (m : Movem) → moves i m → Fetched m = λ m moved. (i, n, ap (λ (r : FoundInstr × Guest). r.0) fetched, moved) in (
        elim law.0 [
          | inl allowed ↦ inl allowed
          | inr (stop, ends, goes) ↦ inr (stop, ends, goes_on_by space (moves i) Fetched named g _ stop.ended stop.plain _ goes)
        ],
        law.1,
      )

  -- by what the held guest fetched, and the guest itself
  by_fetch : (r : FoundInstr) → run held_bus (fetched_of space p.pc) g ≡ (r, g)
      → ((run guest_bus (fetched_of space p.pc) g ≡ (r, g)) × IsFound r) ⊎ ((refused : ReadFault) × (r ≡ Err (Unfetched refused)))
      → Outcome (by_held space p g) (by_guest space p g)
  by_fetch (Ok (i, n)) held (inl (own, is)) =
      outcomes _ _ _ _ (attempts_perform held_bus space p g g i n held) (attempts_perform guest_bus space p g g i n own) (row_outcome i n is held)
  by_fetch (Ok (i, n)) held (inr (refused, is)) = absurd (let z : (let o : FoundInstr = Ok (i, n) in o) ≡ Err (Unfetched refused) = is in let y : ⊥ = cc in y)
  by_fetch (Err (NoInstruction vector)) held (inl (own, is)) =
      let none : Unfound = NoInstruction vector in
      outcomes _ _ _ _ (attempts_find_none held_bus space p g g none held) (attempts_find_none guest_bus space p g g none own) (inl (refl, tt, refl), sound)
  by_fetch (Err (NoInstruction vector)) held (inr (refused, is)) =
      absurd (let z : (let o : FoundInstr = Err (NoInstruction vector) in o) ≡ Err (Unfetched refused) = is in let y : ⊥ = cc in y)
  by_fetch (Err (Unfetched refused)) held (inl (own, is)) = absurd is
  by_fetch (Err (Unfetched refused)) held (inr (other, is)) =
      let stop : OtherEnd = record { ended = ended.ReadFault refused; plain = p } in
      let e : by_held space p g ≡ (found_none (Unfetched refused) p, g) = attempts_find_none held_bus space p g g (Unfetched refused) held in
      subst (λ (a : Performed × Guest). Outcome a (by_guest space p g)) (sym e) (inr (stop, refl, refl), sound)

pub attempts_go_on : AttemptsGoOn
attempts_go_on space size p g longs lt sound =
    let held = run held_bus (fetched_of space p.pc) g in
    let (still, outcome) = fetches_go_on space size p.pc g lt sound in
    let at : held ≡ (held.0, g) = ap (λ (h : Guest). (let q : FoundInstr × Guest = (held.0, h) in q)) still in
    by_fetch space size p g longs sound held.0 at (elim outcome [
      | inl (own, is) ↦ inl (own ∙ at, is)
      | inr refused ↦ inr refused
    ])
