-- The rest of a guest's step that was not carried out.
use Rattle.std.proofs.Common.{◌≡◌, ◌⊎◌, ◌∙◌, ℕ, ◌≤◌, arith, true, List, [], ◌∷◌, length, Ok, Err, refl, ap, sym, subst, inl, inr}
use Rattle.mb_port.specs.Routine.{run}
use Rattle.mb_port.specs.declared.types.Space.{Space}
use Rattle.mb_instr.specs.declared.instruction.Instr.{Instr}
use Rattle.mb_instr.specs.declared.registers.Plain.{Plain}
use Rattle.mb_instr.specs.Registers.{plain_of}
use Rattle.mb_instr.specs.Codes.{IsInstr}
use Rattle.mb_frames.specs.declared.pend.Pend.{Pend}
use Rattle.mb_model.specs.declared.processor.Cpu.{Cpu}
use Rattle.mb_model.specs.Status.{space_of}
use Rattle.mb_ea.specs.declared.reading.ReadFault.{ReadFault}
use Rattle.mb_writes.specs.declared.transfers.Movem.{Movem}
use Rattle.mb_writes.specs.declared.ends.Ended.{Ended}
use Rattle.mb_writes.specs.declared.ends.Ended.TheVariants as ended
use Rattle.mb_writes.specs.Transfers.{movem_in}
use Rattle.def_instructions.specs.Ends.{Carried, OtherEnd, Performed, closed}
use Rattle.def_processor.specs.SystemEnds.{with_registers}
use Rattle.def_instructions.specs.Attempt.{Unfound, NoInstruction, Unfetched, end_without, FoundInstr, found_none}
use Rattle.def_processor.specs.Raise.{Stepped, cause_at}
use Rattle.def_processor.specs.Step.{finish_instruction_of, interrupt_mask, movem_words, step_of, rank}
use Rattle.law_attempts.specs.Attempts.{IsUntraced, NoOther, is_attempted, fetched_by, finished_by}
use Rattle.law_attempts.proofs.Attempts.{attempts_find_none, attempt_then_finish}
use Rattle.law_tells.specs.Left.{IsRest, completing_writes, completing_transfers}
use Rattle.law_tells.specs.Laws.{moves_fetched}
use Rattle.mb_writes.specs.declared.ends.WriteFault.{WriteFault}
use Rattle.mb_writes.specs.declared.ends.MovemFault.{MovemFault}
use Rattle.def_runs.specs.Finishes.{at_next, finish_trap_of, finish_writes_of, finish_line_of, finish_movem_of}
use Rattle.def_guests.specs.Guests.{Guest}
use Rattle.def_guests.specs.Bus.{guest_bus}
use Rattle.def_guests.specs.Held.{held_bus}
use Rattle.def_guests.specs.declared.class.Class.TheVariants.{Retired}
use Rattle.def_guests.specs.Classes.{class_of_end}
use Rattle.def_guests.specs.Rests.{left_pieces, rest_by, rest_of, Begins}
use Rattle.def_guests.proofs.Rests.{traps_are_finished, denied_writes_go_on, denied_lines_go_on, denied_transfers_go_on}
use Rattle.law_held.specs.Sound.{Sound}
use Rattle.law_held.specs.Denied.{HasNone, IfRefused, AttemptGoesOn, IsAllowed, IsDenied, IsFound, by_held, by_guest}
use Rattle.law_held.proofs.Rows.{fetches_go_on}
use Rattle.law_held.proofs.Attempts.{attempts_go_on}
use Rattle.law_held.proofs.Names.{words_name}
use Rattle.law_leave.proofs.Steps.{attempted_or, same_counter}
use Rattle.law_turns.specs.Retire.{HasRegisters}
use Rattle.law_turns.specs.Rest.{StepsGoOn}
use Rattle.law_turns.proofs.Tidy.{StopsEight, eight_tidy, eight_plain, attempts_eight}
use Rattle.mb_instr.proofs.PlainRegisters.{plain_again}
use Rattle.law_turns.proofs.Registers.{registers_over, registers_back, same_space, IsTidy}
use Rattle.def_guests.proofs.Exits.{found_instr}

pub with_counter : (p : Plain) (cpu : Cpu) → (with_registers p cpu).regs.pc ≡ p.pc
with_counter p cpu = refl

-- ---- a trap, and a MOVEM

trap_rest : (i : Instr) (vector : ℕ) (guest : Cpu) (p : Plain) (h : Guest) → IsUntraced guest → length guest.regs.a ≡ 7
    → run guest_bus (finish_instruction_of i (ended.Trap vector) guest (with_registers p guest)) h
    ≡ run guest_bus (finish_trap_of (cause_at vector p.pc guest.regs.pc) (plain_of guest.regs) (with_registers p guest)) h
trap_rest i vector guest p h plain seven =
    let cpu = with_registers p guest in
    let before = with_registers (plain_of guest.regs) cpu in
    let back : before ≡ guest = registers_back p guest seven in
    ap (λ (b : Cpu). run guest_bus (finish_instruction_of i (ended.Trap vector) b cpu) h) (sym back)
    ∙ traps_are_finished i vector (plain_of guest.regs) cpu (subst IsUntraced (sym back) plain) guest_bus h
    ∙ ap (λ (n : ℕ). run guest_bus (finish_trap_of (cause_at vector n before.regs.pc) (plain_of guest.regs) cpu) h) (with_counter p guest)
    ∙ ap (λ (b : Cpu). run guest_bus (finish_trap_of (cause_at vector p.pc b.regs.pc) (plain_of guest.regs) cpu) h) back

-- a MOVEM's registers, with its own PC
abbrev own_counter : Cpu → Plain → Plain
own_counter guest p = record p { pc = (plain_of guest.regs).pc }

next_is : (guest : Cpu) (p : Plain) → IsTidy p → at_next p.pc (with_registers (own_counter guest p) guest) ≡ p
next_is guest p t = ap (λ (r : Plain). (let o : Plain = record r { pc = p.pc } in o)) (plain_again guest.regs (own_counter guest p)) ∙ t

-- ---- a step

-- an attempt that came past its fetch, and was not refused
abbrev IsBegun : Ended → Type 0
IsBegun (ended.Done flow) = Unit {0}
IsBegun (ended.Trap vector) = Unit {0}
IsBegun (ended.Refused vector) = ⊥
IsBegun (ended.ReadFault refused) = ⊥
IsBegun (ended.WriteFault refused) = Unit {0}
IsBegun (ended.LineFault fault line) = Unit {0}
IsBegun (ended.Movem refused) = Unit {0}

unbegun : (unfound : Unfound) → IsBegun (end_without unfound) → ⊥
unbegun (NoInstruction vector) h = h
unbegun (Unfetched refused) h = h

module _ (size level : ℕ) (guest : Cpu) (g : Guest) (i : Instr) (plain : IsUntraced guest) (seven : length guest.regs.a ≡ 7)
    (regs : HasRegisters (plain_of guest.regs))
    (sound : Sound size g) (masked : rank level ≤ interrupt_mask guest) (other : NoOther i (fetched_by held_bus guest g).0) where
  abbrev space : Space
  space = space_of guest

  abbrev p : Plain
  p = plain_of guest.regs

  abbrev own : Stepped × Guest
  own = run guest_bus (step_of level guest) g

  abbrev Fetched : FoundInstr × Guest
  Fetched = fetched_by held_bus guest g

  fetch : (Fetched.1 ≡ g) × (((fetched_by guest_bus guest g ≡ Fetched) × IsFound Fetched.0) ⊎ ((refused : ReadFault) × (Fetched.0 ≡ Err (Unfetched refused))))
  fetch = fetches_go_on space size guest.regs.pc g regs.counter sound

  at_fetch : (f : FoundInstr) → Fetched.0 ≡ f → Fetched ≡ (f, g)
  at_fetch f e = ap (λ (a : FoundInstr). (let q : FoundInstr × Guest = (a, Fetched.1) in q)) e
      ∙ ap (λ (h : Guest). (let q : FoundInstr × Guest = (f, h) in q)) fetch.0

  -- an attempt that found no instruction did not begin
  none_begun : (unfound : Unfound) → Fetched.0 ≡ Err unfound → IsBegun (closed (by_held space p g).0).0 → ⊥
  none_begun unfound e h =
      let is : by_held space p g ≡ (found_none unfound p, g) = attempts_find_none held_bus space p g g unfound (at_fetch (Err unfound) e) in
      unbegun unfound (subst (λ (q : Performed × Guest). IsBegun (closed q.0).0) is h)

  attempted_by_found : (f : FoundInstr) → Fetched.0 ≡ f → IsBegun (closed (by_held space p g).0).0 → is_attempted i guest ≡ true
  attempted_by_found (Err unfound) e h = absurd (none_begun unfound e h)
  attempted_by_found (Ok (j, n)) e h =
      let same : j ≡ i = subst (NoOther i) e other in
      elim (attempted_or held_bus guest g) [
        | inl go ↦ subst (λ (k : Instr). is_attempted k guest ≡ true) (ap found_instr e ∙ same) go
        | inr refused ↦ absurd (subst IsBegun refused h)
      ]

  begins : IsBegun (closed (by_held space p g).0).0 → Begins guest_bus level guest g i
  begins h = record {
    masked = masked;
    untraced = plain;
    found = elim fetch.1 [
      | inl (same, is) ↦ subst (λ (q : FoundInstr × Guest). NoOther i q.0) (sym same) other
      | inr (refused, e) ↦ absurd (none_begun (Unfetched refused) e h)
    ];
    attempted = attempted_by_found Fetched.0 refl h;
  }

  -- the instruction that was fetched is this one, and the table has it
  is_this : (j : Instr) (n : ℕ) → Fetched.0 ≡ Ok (j, n) → (j ≡ i) × IsInstr j
  is_this j n e = (
    subst (NoOther i) e other,
    elim fetch.1 [
      | inl (same, is) ↦ subst IsFound e is
      | inr (refused, none) ↦ absurd (let z : (let o : FoundInstr = Err (Unfetched refused) in o) ≡ Ok (j, n) = sym none ∙ e in let y : ⊥ = cc in y)
    ],
  )

  -- where nothing has changed, the step begins again
  from_there : (now : Guest) → now ≡ g → own ≡ run guest_bus (step_of level guest) now
  from_there now e = ap (λ (h : Guest). run guest_bus (step_of level guest) h) (sym e)

  abbrev Rest : Ended → Plain → Guest → Type 0
  Rest end after now = own ≡ run guest_bus (rest_of level guest i end after) now

  abbrev Goal : Performed × Guest → Type 0
  Goal k = (class_of_end (closed k.0).0 ≡ Retired → ⊥) → Rest (closed k.0).0 (closed k.0).1 k.1

  -- no call was denied: the step is the finish of the same end
  finished : (k : Performed × Guest) → by_guest space p g ≡ k → Begins guest_bus level guest g i → own ≡ finished_by guest_bus i guest k
  finished k same b =
      attempt_then_finish guest_bus level guest g i b.masked b.untraced.going b.found b.attempted
      ∙ ap (λ (q : Performed × Guest). finished_by guest_bus i guest q) same

  allowed_end : (end : Ended) (after : Plain) (now : Guest) → (IsBegun end → own
      ≡ run guest_bus (finish_instruction_of i end guest (with_registers after guest)) now)
      → HasNone end → IfRefused end (now ≡ g) → (class_of_end end ≡ Retired → ⊥) → Rest end after now
  allowed_end (ended.Done f) after now e none left never = absurd (never refl)
  allowed_end (ended.Trap v) after now e none left never = e tt ∙ trap_rest i v guest after now plain seven
  allowed_end (ended.Refused v) after now e none left never = from_there now left
  allowed_end (ended.ReadFault f) after now e none left never = absurd none
  allowed_end (ended.WriteFault f) after now e none left never = absurd none
  allowed_end (ended.LineFault f l) after now e none left never = absurd none
  allowed_end (ended.Movem f) after now e none left never = absurd none

  allowed : (k : Performed × Guest) → (IsBegun (closed k.0).0 → Begins guest_bus level guest g i) → IsAllowed g k (by_guest space p g) → Goal k
  allowed (Ok done, now) b (same, none, left) never = absurd (never refl)
  allowed (Err stop, now) b (same, none, left) never = allowed_end stop.ended stop.plain now (λ h. finished (Err stop, now) same (b h)) none left never

  -- a call was denied: the step is what was left
  written : (f : WriteFault) (items : List Pend) (after : Plain) (now : Guest) (done : Carried) → Begins guest_bus level guest g i → IsRest items
      → done.plain ≡ after
      → by_guest space p g ≡ run guest_bus (completing_writes space f.first items done) now
      → own ≡ run guest_bus (rest_by (left_pieces items f.first) level guest after) now
  written f [] after now done b some same whole = absurd (let h = some.some in omega arith)
  written f (piece ∷ pieces) after now done b some same whole =
      denied_writes_go_on guest_bus level guest g now i f.first (piece ∷ pieces) done b whole
      ∙ ap (λ (q : Plain). run guest_bus (finish_writes_of (piece ∷ pieces) f.first (with_registers q guest)) now) same

  transferred : (f : MovemFault) (after : Plain) (now : Guest) (m : Movem) → Begins guest_bus level guest g i → IsTidy after → movem_in (movem_words i) ≡ m
      → by_guest space p g ≡ run guest_bus (completing_transfers m f.first f.done space after) now
      → own ≡ run guest_bus (finish_movem_of (movem_words i) f.first f.done after.pc (with_registers (own_counter guest after) guest)) now
  transferred f after now m b tidy is whole =
      let q = own_counter guest after in
      denied_transfers_go_on guest_bus level guest (with_registers q guest) g now i f.first f.done after.pc b (record {
        space = same_space q guest;
        pc = with_counter q guest ∙ same_counter guest;
        others = λ r. registers_over q r guest;
      })
      (whole ∙ ap (λ (n : Movem). run guest_bus (completing_transfers n f.first f.done space after) now) (sym is)
      ∙ ap (λ (r : Plain). run guest_bus (completing_transfers (movem_in (movem_words i)) f.first f.done space r) now) (sym (next_is guest after tidy)))

  -- the words of the instruction name the MOVEM that was fetched
  named : (m : Movem) → moves_fetched held_bus space p.pc g m → movem_in (movem_words i) ≡ m
  named m (j, n, fetched, moved) =
      let (same, is) = is_this j n fetched in ap (λ (k : Instr). movem_in (movem_words k)) (sym same) ∙ words_name j m is moved

  denied_end : (end : Ended) (after : Plain) (now : Guest) → (IsBegun end → Begins guest_bus level guest g i)
      → ((m : Movem) → moves_fetched held_bus space p.pc g m → IsTidy after)
      → AttemptGoesOn space (moves_fetched held_bus space p.pc g) g now end after (by_guest space p g) → Rest end after now
  denied_end (ended.Done f) after now b t goes = absurd goes
  denied_end (ended.Trap v) after now b t goes = absurd goes
  denied_end (ended.Refused v) after now b t goes = absurd goes
  denied_end (ended.ReadFault f) after now b t goes = from_there now goes
  denied_end (ended.WriteFault f) after now b t (inl (still, none)) =
      from_there now still ∙ ap (λ (items : List Pend). run guest_bus (rest_by (left_pieces items f.first) level guest after) now) (sym none)
  denied_end (ended.WriteFault f) after now b t (inr (some, done, same, whole)) = written f f.rest.items after now done (b tt) some same whole
  denied_end (ended.LineFault fault line) after now b t (four, done, same, whole) =
      denied_lines_go_on guest_bus level guest g now i fault.at line done (b tt) whole
      ∙ ap (λ (q : Plain). run guest_bus (finish_line_of fault.at line (with_registers q guest)) now) same
  denied_end (ended.Movem f) after now b t (m, is, whole) = transferred f after now m (b tt) (t m is) (named m is) whole

  denied : (k : Performed × Guest) → (IsBegun (closed k.0).0 → Begins guest_bus level guest g i)
      → ((m : Movem) → moves_fetched held_bus space p.pc g m → StopsEight k.0) → IsDenied space (moves_fetched held_bus space p.pc g) g k (by_guest space p g)
      → Goal k
  denied (Ok done, now) b eight d never = absurd (never refl)
  denied (Err stop, now) b eight (other, is, goes) never =
      denied_end stop.ended stop.plain now b (λ m fetched. eight_tidy stop.plain (eight m fetched))
      (subst (λ (s : OtherEnd). AttemptGoesOn space (moves_fetched held_bus space p.pc g) g now s.ended s.plain (by_guest space p g))
      (same_stop stop other is) goes)
    where
      same_stop : (a b : OtherEnd) → (let x : Performed = Err a in let y : Performed = Err b in x ≡ y) → b ≡ a
      same_stop a b e = cc

  pub goes_on : Goal (by_held space p g)
  goes_on = elim (attempts_go_on space size p g regs.longs regs.counter sound).0 [
    | inl none ↦ allowed (by_held space p g) begins none
    | inr some ↦ denied (by_held space p g) begins (λ m fetched. attempts_eight held_bus space p g m fetched (eight_plain guest.regs seven)) some
  ]

pub steps_go_on : StepsGoOn
steps_go_on size level guest g i plain seven regs sound masked other never = goes_on size level guest g i plain seven regs sound masked other never
