-- Refills end.
use Rattle.std.proofs.Common.{◌≡◌, ◌⊎◌, ◌∙◌, ℕ, zero, suc, ◌+◌, ◌^◌, ◌<◌, ◌≤◌, Bool, true, refl, ap, sym, subst, arith, inl, inr, Option, Some, None, cond}
use Rattle.std.proofs.lemmas.Bool.{cases_Bool}
use Rattle.std.proofs.lemmas.Option.{same_Some}
use Rattle.mb_port.specs.declared.types.Space.{Space}
use Rattle.mb_instr.specs.declared.counts.TheConstants.{MOST_WORDS}
use Rattle.mb_instr.specs.declared.registers.Plain.{Plain}
use Rattle.mb_instr.specs.Registers.{plain_of}
use Rattle.mb_model.specs.declared.processor.Cpu.{Cpu}
use Rattle.mb_model.specs.Status.{space_of}
use Rattle.def_instructions.specs.Attempt.{attempt_of}
use Rattle.law_tells.specs.Laws.{HasLongs}
use Rattle.def_machine.specs.declared.reference.Reference.{Reference}
use Rattle.def_guests.specs.Guests.{Guest, may}
use Rattle.def_guests.specs.Held.{held_bus}
use Rattle.def_guests.specs.Refills.{denied_read, can_refill, after_access, refilled_at, begun_again, Refilled, once_more, going_on, refilled_by, refilled}
use Rattle.def_guests.specs.declared.limits.TheConstants.{MOST_REFILLS}
use Rattle.law_held.specs.Denied.{by_held}
use Rattle.law_held.specs.Truth.{Fine}
use Rattle.law_held.specs.Refills.{again_at}
use Rattle.law_held.proofs.Refills.{attempts_begin_again}
use Rattle.law_calls.specs.Calls.{IsUnread, IsReadFault, most_reads}
use Rattle.law_calls.proofs.Rows.{attempt_early}
use Rattle.law_refills.specs.Refills.{RefillsEnd, BoundIsNotMet}
use Rattle.law_refills.proofs.Passing.{passed_few}
use Rattle.law_refills.proofs.Further.{reached, Unread, unread, comes_further}

-- ---- once more

-- the read that was denied, and is refilled
record Refill (space : Space) (p : Plain) (g h : Guest) : Type 0 where
  pub read : Reference
  pub denied : Unread (by_held space p g).0 read
  pub can : can_refill g read ≡ true
  pub later : h ≡ after_access read g

refill_of : (space : Space) (p : Plain) (g h : Guest) → again_at space p g ≡ Some h → Refill space p g h
refill_of space p g h e = by_read (denied_read (by_held space p g).0) refl e
  where
    by_read : (o : Option Reference) → denied_read (by_held space p g).0 ≡ o → refilled_at g o ≡ Some h → Refill space p g h
    by_read None is e = absurd (let z : None ≡ Some h = e in let y : ⊥ = cc in y)
    by_read (Some r) is e = elim (cases_Bool (can_refill g r)) [
      | inl can ↦ record {
        read = r;
        denied = unread (by_held space p g).0 r is;
        can = can;
        later = sym (same_Some (after_access r g) h (sym (ap (λ (b : Bool). cond b (Some (after_access r g)) None) can) ∙ e));
      }
      | inr cannot ↦ absurd (let z : None ≡ Some h = sym (ap (λ (b : Bool). cond b (Some (after_access r g)) None) cannot) ∙ e in let y : ⊥ = cc in y)
    ]

-- one that begins again has not come far
reached_few : (space : Space) (p : Plain) (g h : Guest) → again_at space p g ≡ Some h → reached space p g ≤ MOST_WORDS + most_reads
reached_few space p g h e =
    let refill = refill_of space p g h e in
    let u = refill.denied in
    let unread_q : IsUnread (by_held space p g).0 = subst IsUnread (sym u.is) (subst IsReadFault (sym u.ended) tt) in
    let few = attempt_early held_bus space p g unread_q in
    let passed = passed_few may held_bus (attempt_of space p) g in omega arith

further : (size : ℕ) (space : Space) (p : Plain) (g h : Guest) → HasLongs p → p.pc < 2 ^ 32 → Fine size g → again_at space p g ≡ Some h
    → Fine size h × (reached space p g + 1 ≤ reached space p h)
further size space p g h longs lt fine e =
    let refill = refill_of space p g h e in
    let (ahead, begins) = attempts_begin_again space size p g h longs lt fine e in
    (ahead.fine, comes_further space size p g h refill.read fine ahead refill.can refill.later refill.denied longs lt)

-- ---- so often

module _ (size : ℕ) (cpu : Cpu) (longs : HasLongs (plain_of cpu.regs)) (counter : cpu.regs.pc < 2 ^ 32) where
  abbrev far : Guest → ℕ
  far g = reached (space_of cpu) (plain_of cpu.regs) g

  -- it has begun again not at all, or not often; and either as often as it may, or it begins again no more
  abbrev Last : ℕ → Guest → Refilled → Type 0
  Last n g r = ((r.refills ≡ 0) ⊎ (far g + r.refills ≤ MOST_WORDS + most_reads + 1)) × ((r.refills ≡ n) ⊎ (begun_again cpu r.guest ≡ None))

  last_by : (n : ℕ) (g : Guest) → Fine size g → ((h : Guest) → Fine size h → Last n h (refilled_by n cpu h)) → (o : Option Guest) → begun_again cpu g ≡ o
      → Last (suc n) g (going_on (refilled_by n cpu) g o)
  last_by n g fine next None e = (inl refl, inr e)
  last_by n g fine next (Some h) e =
      let few = reached_few (space_of cpu) (plain_of cpu.regs) g h e in
      let (fine_h, more) = further size (space_of cpu) (plain_of cpu.regs) g h longs counter fine e in
      let (seldom, end) = next h fine_h in (
        inr (elim seldom [ inl none ↦ omega arith | inr at_most ↦ omega arith ]),
        elim end [ inl all ↦ inl (omega arith) | inr none ↦ inr none ],
      )

  last : (n : ℕ) (g : Guest) → Fine size g → Last n g (refilled_by n cpu g)
  unfolding refilled_by
  last zero g fine = (inl refl, inl refl)
  last (suc n) g fine = last_by n g fine (λ h fine_h. last n h fine_h) (begun_again cpu g) refl

pub refills_end : RefillsEnd
refills_end size cpu g longs counter fine =
    let r = refilled cpu g in
    let (seldom, end) = last size cpu longs counter MOST_REFILLS g fine in
    let few : r.refills < MOST_REFILLS = elim seldom [ inl none ↦ omega arith | inr at_most ↦ omega arith ] in (
      elim end [ inl all ↦ absurd (omega arith) | inr none ↦ none ],
      few,
    )

-- ---- a greater bound

abbrev Stays : ℕ → ℕ → Cpu → Guest → Type 0
Stays n m cpu g = (refilled_by n cpu g).refills < n → refilled_by m cpu g ≡ refilled_by n cpu g

stays_by : (n m : ℕ) (cpu : Cpu) (g : Guest) → ((h : Guest) → Stays n m cpu h) → (o : Option Guest)
    → (going_on (refilled_by n cpu) g o).refills < suc n → going_on (refilled_by m cpu) g o ≡ going_on (refilled_by n cpu) g o
stays_by n m cpu g next None few = refl
stays_by n m cpu g next (Some h) few = ap once_more (next h (omega arith))

stays : (n m : ℕ) (cpu : Cpu) (g : Guest) → n ≤ m → Stays n m cpu g
unfolding refilled_by
stays zero m cpu g le few = absurd (omega arith)
stays (suc n) zero cpu g le few = absurd (omega arith)
stays (suc n) (suc m) cpu g le few = stays_by n m cpu g (λ h. stays n m cpu h (omega arith)) (begun_again cpu g) few

pub bound_is_not_met : BoundIsNotMet
bound_is_not_met size bound cpu g longs counter fine le = stays MOST_REFILLS bound cpu g le (refills_end size cpu g longs counter fine).1
