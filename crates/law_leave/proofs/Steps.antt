-- The board's step of a guest's instruction.
use Rattle.std.proofs.Common.{◌≡◌, ◌⊎◌, ◌∙◌, ℕ, ◌≤◌, Bool, true, false, Ok, Err, refl, ap, sym, subst, inl, inr}
use Rattle.mb_port.specs.Routine.{Bus, Return, run, either}
use Rattle.mb_port.specs.declared.types.Space.{Space}
use Rattle.mb_port.specs.declared.types.Space.TheVariants.{User}
use Rattle.mb_instr.specs.declared.instruction.Instr.{Instr}
use Rattle.mb_instr.specs.declared.instruction.Instr.TheVariants as instr
use Rattle.mb_instr.specs.declared.registers.Plain.{Plain}
use Rattle.mb_instr.specs.Registers.{is_supervisor, plain_of}
use Rattle.mb_model.specs.declared.processor.Cpu.{Cpu}
use Rattle.mb_model.specs.Status.{space_of}
use Rattle.mb_writes.specs.declared.ends.Ended.{Ended}
use Rattle.mb_writes.specs.declared.ends.Ended.TheVariants as ended
use Rattle.def_processor.specs.declared.Finish.TheVariants as finish
use Rattle.def_instructions.specs.Ends.{Carried, Performed, closed}
use Rattle.def_processor.specs.SystemEnds.{with_registers}
use Rattle.def_instructions.specs.Rows.{privileged, perform_of}
use Rattle.def_instructions.specs.Attempt.{FoundInstr, found_none, fetched_of, past, attempt_of}
use Rattle.def_processor.specs.Raise.{Stepped, is_due}
use Rattle.def_processor.specs.Step.{finish_instruction_of, interrupt_mask, step_of, rank}
use Rattle.law_attempts.specs.Attempts.{is_attempted, IsUntraced, NoOther, fetched_by, attempted_by, finished_by}
use Rattle.law_attempts.proofs.Attempts.{attempt_then_finish}
use Rattle.law_twins.specs.Twins.{SameEnd, SamePerformed}
use Rattle.law_tells.specs.Laws.{moves_fetched}
use Rattle.def_machine.specs.World.{World}
use Rattle.def_guests.specs.Guests.{Guest}
use Rattle.def_guests.specs.Bus.{guest_bus}
use Rattle.def_guests.specs.Held.{held_bus}
use Rattle.law_held.specs.Denied.{AttemptGoesOn, by_held, by_guest}
use Rattle.law_held.proofs.Attempts.{attempts_go_on}
use Rattle.law_mirror.specs.Related.{Site, setting, Related}
use Rattle.law_mirror.specs.Laws.{board_bus}
use Rattle.law_mirror.specs.Attempts.{on_the_board, SameFound, Stays}
use Rattle.law_mirror.proofs.Mirrors.{sound_of}
use Rattle.law_mirror.proofs.Attempts.{attempts_stay, fetches_stay}
use Rattle.law_leave.specs.Exits.{IsEnd}
use Rattle.law_leave.specs.Steps.{Mirrored, StepsRetire, StepsLeave}
use Rattle.law_leave.proofs.Exits.{board_leaves}
use Rattle.def_guests.proofs.Exits.{attempted_in_user_mode, found_instr}

-- ---- ends

pub same_closed : (x : Site) (a k : Performed) → SamePerformed (setting x) a k
    → SameEnd (setting x) (closed a).0 (closed k).0 × ((closed a).1 ≡ (closed k).1)
same_closed x (Ok d) (Ok e) same = (ap (λ (c : Carried). c.flow) same, ap (λ (c : Carried). c.plain) same)
same_closed x (Ok d) (Err e) same = absurd same
same_closed x (Err d) (Ok e) same = absurd same
same_closed x (Err d) (Err e) same = same

same_done : (x : Site) (e : Ended) (f : Bool) → SameEnd (setting x) e (ended.Done f) → e ≡ ended.Done f
same_done x (ended.Done d) f h = ap (λ (b : Bool). ended.Done b) h
same_done x (ended.Trap v) f h = absurd h
same_done x (ended.Refused v) f h = absurd h
same_done x (ended.ReadFault v) f h = absurd h
same_done x (ended.WriteFault v) f h = absurd h
same_done x (ended.LineFault v l) f h = absurd h
same_done x (ended.Movem v) f h = absurd h

-- the same end was not carried out either
same_is_end : (x : Site) (d e : Ended) → SameEnd (setting x) d e → IsEnd e → IsEnd d
same_is_end x (ended.Done flow) (ended.Done other) same h = h
same_is_end x (ended.Done flow) (ended.Trap v) same h = absurd same
same_is_end x (ended.Done flow) (ended.Refused v) same h = absurd same
same_is_end x (ended.Done flow) (ended.ReadFault f) same h = absurd same
same_is_end x (ended.Done flow) (ended.WriteFault f) same h = absurd same
same_is_end x (ended.Done flow) (ended.LineFault f line) same h = absurd same
same_is_end x (ended.Done flow) (ended.Movem f) same h = absurd same
same_is_end x (ended.Trap v) e same h = tt
same_is_end x (ended.Refused v) e same h = tt
same_is_end x (ended.ReadFault f) e same h = tt
same_is_end x (ended.WriteFault f) e same h = tt
same_is_end x (ended.LineFault f line) e same h = tt
same_is_end x (ended.Movem f) e same h = tt

pub never_due : (cpu : Cpu) (flow : Bool) → IsUntraced cpu → is_due cpu.regs.sr flow ≡ false
never_due cpu flow h = rw h.all (rw h.flow refl)

done_finish : {S : Type 0} (bus : Bus S) (i : Instr) (f : Bool) (before after : Cpu) (t : S) → IsUntraced before
    → run bus (finish_instruction_of i (ended.Done f) before after) t ≡ ((finish.Went, after), t)
done_finish bus i f before after t h = rw (never_due before f h) refl

-- ---- the instruction

pub in_it : (found : FoundInstr) → NoOther (found_instr found) found
in_it (Ok found) = refl
in_it (Err unfound) = tt

-- else a privileged one ends its attempt so
found_attempted : {S : Type 0} (bus : Bus S) (cpu : Cpu) (r : FoundInstr × S) → let p = plain_of cpu.regs in
    (is_attempted (found_instr r.0) cpu ≡ true)
    ⊎ ((closed (run bus (either r.0 (λ unfound. Return (found_none unfound p)) (λ found. perform_of found.0 p.pc (space_of cpu) (past found.1 p)))
    r.1).0).0
    ≡ privileged)
found_attempted bus cpu (Ok (instr.Move i, n), t) = inl refl
found_attempted bus cpu (Ok (instr.Arith i, n), t) = inl refl
found_attempted bus cpu (Ok (instr.Flow i, n), t) = inl refl
found_attempted bus cpu (Ok (instr.System i, n), t) = inr refl
found_attempted bus cpu (Err unfound, t) = inl refl

pub attempted_or : {S : Type 0} (bus : Bus S) (cpu : Cpu) (s : S)
    → (is_attempted (found_instr (fetched_by bus cpu s).0) cpu ≡ true) ⊎ ((closed (attempted_by bus cpu s).0).0 ≡ privileged)
attempted_or bus cpu s = found_attempted bus cpu (run bus (fetched_of (space_of cpu) cpu.regs.pc) s)

-- the same one was found on both
no_other_by : (x : Site) (i : Instr) (a k : FoundInstr) → SameFound (setting x) a k → NoOther i k → NoOther i a
no_other_by x i (Ok d) (Ok e) same h = ap (λ (f : Instr × ℕ). f.0) same ∙ h
no_other_by x i (Ok d) (Err e) same h = absurd same
no_other_by x i (Err d) (Ok e) same h = absurd same
no_other_by x i (Err d) (Err e) same h = tt

-- ---- the board and the guest

pub user_space : (cpu : Cpu) → is_supervisor cpu.regs.sr ≡ false → space_of cpu ≡ User
user_space cpu h = rw h refl

pub same_counter : (cpu : Cpu) → (plain_of cpu.regs).pc ≡ cpu.regs.pc
same_counter cpu = refl

module _ (x : Site) (board guest : Cpu) (b : World) (g : Guest) (m : Mirrored x board guest) (r : Related x b g) where
  abbrev p : Plain
  p = plain_of guest.regs

  abbrev held : Performed × Guest
  held = by_held x.space p g

  abbrev there : Performed × World
  there = on_the_board p b

  mirrored : SamePerformed (setting x) there.0 held.0 × Stays x b g there.1 held.1
  mirrored = attempts_stay x p b g m.longs m.counter r

  attempts_there : attempted_by board_bus board b ≡ there
  attempts_there =
      ap (λ (s : Space). run board_bus (attempt_of s (plain_of board.regs)) b) (user_space board m.user)
      ∙ ap (λ (q : Plain). run board_bus (attempt_of User q) b) m.plain

  no_other_there : (i : Instr) → NoOther i (fetched_by held_bus guest g).0 → NoOther i (fetched_by board_bus board b).0
  no_other_there i h =
      let counter : board.regs.pc ≡ guest.regs.pc = sym (same_counter board) ∙ ap (λ (q : Plain). q.pc) m.plain ∙ same_counter guest in
      let here : run held_bus (fetched_of (space_of guest) guest.regs.pc) g ≡ run held_bus (fetched_of x.space guest.regs.pc) g =
      ap (λ (s : Space). run held_bus (fetched_of s guest.regs.pc) g) m.present in
      let native : run board_bus (fetched_of (space_of board) board.regs.pc) b ≡ run board_bus (fetched_of User guest.regs.pc) b =
      ap (λ (s : Space). run board_bus (fetched_of s board.regs.pc) b) (user_space board m.user)
      ∙ ap (λ (n : ℕ). run board_bus (fetched_of User n) b) counter in
      subst (λ (f : FoundInstr × World). NoOther i f.0) (sym native)
      (no_other_by x i ((run board_bus (fetched_of User guest.regs.pc) b).0) ((run held_bus (fetched_of x.space guest.regs.pc) g).0)
      (fetches_stay x guest.regs.pc b g m.counter r).0 (subst (λ (f : FoundInstr × Guest). NoOther i f.0) here h))

  -- the board's step is the finish of its attempt's end
  native : (level : ℕ) (i : Instr) → rank level ≤ interrupt_mask board → NoOther i (fetched_by held_bus guest g).0
      → run board_bus (step_of level board) b ≡ finished_by board_bus i board there
  native level i masked h =
      attempt_then_finish board_bus level board b i masked m.board_untraced.going (no_other_there i h) (attempted_in_user_mode i board m.user)
      ∙ ap (λ (q : Performed × World). finished_by board_bus i board q) attempts_there

  -- with the registers of the held guest
  finished_there : (i : Instr) (end : Ended) → run board_bus (finish_instruction_of i end board (with_registers (closed there.0).1 board)) there.1
      ≡ run board_bus (finish_instruction_of i end board (with_registers (closed held.0).1 board)) there.1
  finished_there i end =
      ap (λ (q : Plain). run board_bus (finish_instruction_of i end board (with_registers q board)) there.1) (same_closed x (there.0) (held.0) mirrored.0).1

  -- where the held guest was denied nothing, the guest's own attempt is the held one's
  own_is_held : (f : Bool) → (closed held.0).0 ≡ ended.Done f → attempted_by guest_bus guest g ≡ held
  own_is_held f done =
      ap (λ (s : Space). run guest_bus (attempt_of s p) g) m.present
      ∙ elim (attempts_go_on x.space x.size p g m.longs m.counter (sound_of x b g r)).0 [
        | inl allowed ↦ allowed.0
        | inr (stop, is, goes) ↦
            absurd (subst (λ (e : Ended). AttemptGoesOn x.space (moves_fetched held_bus x.space p.pc g) g held.1 e stop.plain (by_guest x.space p g))
            (sym (ap (λ (q : Performed). (closed q).0) is) ∙ done) goes)
      ]

  own : (level : ℕ) (f : Bool) → rank level ≤ interrupt_mask guest → (closed held.0).0 ≡ ended.Done f
      → run guest_bus (step_of level guest) g ≡ ((finish.Went, with_registers (closed held.0).1 guest), held.1)
  own level f masked done =
      let found = (fetched_by guest_bus guest g).0 in
      let i = found_instr found in
      let is = own_is_held f done in
      let attempted : is_attempted i guest ≡ true = elim (attempted_or guest_bus guest g) [
        | inl h ↦ h
        | inr h ↦ absurd (let z : privileged ≡ ended.Done f = sym h ∙ ap (λ (q : Performed × Guest). (closed q.0).0) is ∙ done in let y : ⊥ = cc in y)
      ] in
      attempt_then_finish guest_bus level guest g i masked m.guest_untraced.going (in_it found) attempted
      ∙ ap (λ (q : Performed × Guest). finished_by guest_bus i guest q) is
      ∙ ap (λ (e : Ended). run guest_bus (finish_instruction_of i e guest (with_registers (closed held.0).1 guest)) held.1) done
      ∙ done_finish guest_bus i f guest (with_registers (closed held.0).1 guest) held.1 m.guest_untraced

  retires : (level : ℕ) (f : Bool) → rank level ≤ interrupt_mask board → (closed held.0).0 ≡ ended.Done f
      → run board_bus (step_of level board) b ≡ ((finish.Went, with_registers (closed held.0).1 board), there.1)
  retires level f masked done =
      let found = (fetched_by held_bus guest g).0 in
      let i = found_instr found in
      let same = (same_closed x (there.0) (held.0) mirrored.0).0 in
      let is : (closed there.0).0 ≡ ended.Done f = same_done x (closed there.0).0 f (subst (λ (e : Ended). SameEnd (setting x) (closed there.0).0 e) done same)
      in
      native level i masked (in_it found) ∙ finished_there i (closed there.0).0
      ∙ ap (λ (e : Ended). run board_bus (finish_instruction_of i e board (with_registers (closed held.0).1 board)) there.1) is
      ∙ done_finish board_bus i f board (with_registers (closed held.0).1 board) there.1 m.board_untraced

pub steps_retire : StepsRetire
steps_retire x level own_level board guest b g flow m r masked own_masked done =
    let p = plain_of guest.regs in
    let there = on_the_board p b in
    let e = retires x board guest b g m r level flow masked done in
    let f = own x board guest b g m r own_level flow own_masked done in
    let native : Stepped × World = run board_bus (step_of level board) b in
    let alone : Stepped × Guest = run guest_bus (step_of own_level guest) g in (
      ap (λ (q : Stepped × World). q.0) e,
      ap (λ (q : Stepped × Guest). q.0) f,
      subst (λ (q : Stepped × World). Stays x b g q.1 alone.1) (sym e)
          (subst (λ (q : Stepped × Guest). Stays x b g there.1 q.1) (sym f) (mirrored x board guest b g m r).1),
    )

pub steps_leave : StepsLeave
steps_leave x level board guest b g i m r masked other is_end =
    let p = plain_of guest.regs in
    let there = on_the_board p b in
    let held = by_held x.space p g in
    let law = mirrored x board guest b g m r in
    let same = (same_closed x (there.0) (held.0) law.0).0 in
    let end = (closed there.0).0 in
    record {
      ended = end;
      same = same;
      world = there.1;
      stays = law.1;
      by = λ opened room.
          native x board guest b g m r level i masked other ∙ finished_there x board guest b g m r i end
          ∙ board_leaves there.1 i end board (with_registers (closed held.0).1 board) m.board_untraced (same_is_end x end (closed held.0).0 same is_end)
          law.1.related.small opened room;
    }
