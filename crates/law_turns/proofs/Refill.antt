-- A step that begins again.
use Rattle.std.proofs.Common.{◌≡◌, ◌∙◌, ℕ, zero, suc, ◌+◌, ◌-◌, ◌≤◌, refl, ap, sym, subst, arith, inl, inr, Some, None, Ok, Err, true, false, nat_lt}
use Rattle.std.specs.Prelude.{unwrap_or}
use Rattle.mb_port.specs.Routine.{Return, run, choose, either}
use Rattle.mb_instr.specs.declared.instruction.Instr.{Instr}
use Rattle.mb_instr.specs.declared.instruction.Instr.TheVariants as instr
use Rattle.mb_instr.specs.Registers.{plain_of}
use Rattle.mb_model.specs.declared.processor.Cpu.{Cpu}
use Rattle.mb_model.specs.Status.{space_of}
use Rattle.mb_port.specs.declared.types.Space.{Space}
use Rattle.mb_writes.specs.declared.ends.Ended.{Ended}
use Rattle.mb_writes.specs.declared.ends.Ended.TheVariants as ended
use Rattle.def_instructions.specs.Ends.{Performed, closed}
use Rattle.def_instructions.specs.Attempt.{FoundInstr}
use Rattle.def_processor.specs.Raise.{Stepped, interrupt_of}
use Rattle.def_processor.specs.declared.Finish.TheVariants as finish
use Rattle.def_processor.specs.Step.{interrupt_mask, unfound_of, execute_of, execute_next_of, step_of, rank}
use Rattle.law_attempts.specs.Attempts.{NoOther, is_attempted, fetched_by, finished_by}
use Rattle.law_attempts.proofs.Attempts.{attempt_then_finish, chosen}
use Rattle.mb_model.specs.Keeping.{KeptLists}
use Rattle.def_machine.specs.World.{World}
use Rattle.def_machine.specs.Machine.{begun, asked_of}
use Rattle.def_guests.specs.declared.class.Class.{Class}
use Rattle.def_guests.specs.declared.class.Class.TheVariants.{Retired}
use Rattle.def_guests.specs.Guests.{Guest}
use Rattle.def_guests.specs.Bus.{guest_bus}
use Rattle.def_guests.specs.Refills.{denied_read, refilled_at, begun_again, Refilled, once_more, going_on, refilled_by}
use Rattle.def_guests.specs.declared.limits.TheConstants.{MOST_REFILLS}
use Rattle.def_guests.specs.Classes.{assisted, class_of_attempt}
use Rattle.def_guests.specs.Turns.{bus_side, guest_begun, guest_processed, guest_later}
use Rattle.def_guests.specs.Turns.{by_class}
use Rattle.law_held.specs.Denied.{by_held}
use Rattle.law_held.specs.Truth.{Fine}
use Rattle.law_held.specs.Refills.{IsUnprivileged, BeginsAgain}
use Rattle.law_held.proofs.Refills.{attempts_begin_again}
use Rattle.law_mirror.proofs.Mirrors.{sound_of}
use Rattle.law_turns.specs.Refill.{FirstIsLast, NoneIsRefilled, StepsBeginAgain, HasBegunAgain, LastIsJudged, AgainComesToTheSame, AgainAdvances}
use Rattle.law_turns.proofs.Retire.{is_attempt, not_above, class_held, retired_end, related_devices}

-- ---- how often

none_again : (n : ℕ) (cpu : Cpu) (g : Guest) → begun_again cpu g ≡ None → refilled_by n cpu g ≡ record { guest = g; refills = 0 }
unfolding refilled_by
none_again zero cpu g h = refl
none_again (suc n) cpu g h = ap (going_on (refilled_by n cpu) g) h

some_again : (n : ℕ) (cpu : Cpu) (g k : Guest) → begun_again cpu g ≡ Some k → refilled_by (suc n) cpu g ≡ once_more (refilled_by n cpu k)
unfolding refilled_by
some_again n cpu g k h = ap (going_on (refilled_by n cpu) g) h

abbrev plus : ℕ → Refilled → Refilled
plus n r = record { guest = r.guest; refills = n + r.refills }

again_from : (cpu : Cpu) (n m : ℕ) (g h : Guest) → HasBegunAgain cpu n g h → refilled_by (n + m) cpu g ≡ plus n (refilled_by m cpu h)
again_from cpu zero m g h same =
    ap (λ (k : ℕ). refilled_by k cpu g) (let e : zero + m ≡ m = omega arith in e) ∙ ap (refilled_by m cpu) (sym same)
    ∙ ap (λ (k : ℕ). (let r : Refilled = record { guest = (refilled_by m cpu h).guest; refills = k } in r))
    (let e : (refilled_by m cpu h).refills ≡ 0 + (refilled_by m cpu h).refills = omega arith in e)
again_from cpu (suc n) m g h (k, before, last) =
    ap (λ (i : ℕ). refilled_by i cpu g) (let e : suc n + m ≡ n + suc m = omega arith in e)
    ∙ again_from cpu n (suc m) g k before ∙ ap (plus n) (some_again m cpu k h last)
    ∙ ap (λ (i : ℕ). (let r : Refilled = record { guest = (refilled_by m cpu h).guest; refills = i } in r))
    (let e : n + ((refilled_by m cpu h).refills + 1) ≡ suc n + (refilled_by m cpu h).refills = omega arith in e)

none_left : (cpu : Cpu) (h : Guest) → refilled_by 0 cpu h ≡ record { guest = h; refills = 0 }
unfolding refilled_by
none_left cpu h = refl

pub last_is_judged : LastIsJudged
last_is_judged cpu n g h begun few end =
    let m = MOST_REFILLS - n in
    let stays : refilled_by m cpu h ≡ record { guest = h; refills = 0 } = elim end [
      | inl all ↦ ap (λ (i : ℕ). refilled_by i cpu h) (let e : m ≡ 0 = omega arith in e) ∙ none_left cpu h
      | inr none ↦ none_again m cpu h none
    ] in
    ap (λ (i : ℕ). refilled_by i cpu g) (let e : MOST_REFILLS ≡ n + m = omega arith in e)
    ∙ again_from cpu n m g h begun ∙ ap (plus n) stays
    ∙ ap (λ (i : ℕ). (let r : Refilled = record { guest = h; refills = i } in r)) (let e : n + 0 ≡ n = omega arith in e)

-- ---- classes

pub none_is_refilled : NoneIsRefilled
none_is_refilled script g none =
    let b = guest_begun script g in
    let cpu = b.machine.cpu in
    let last = none_again MOST_REFILLS cpu (bus_side b) none in (
      ap (λ (r : Refilled). unwrap_or (assisted (asked_of script b.machine) cpu) (class_of_attempt cpu r.guest)) last,
      ap (λ (r : Refilled). r.refills) last,
    )

-- what was carried out was denied no read
done_reads_none : (q : Performed) (f : _) → (closed q).0 ≡ ended.Done f → denied_read q ≡ None
done_reads_none (Ok done) f e = refl
done_reads_none (Err stop) f e = by_end stop.ended e
  where
    by_end : (end : Ended) → end ≡ ended.Done f → denied_read (Err (record { ended = end; plain = stop.plain })) ≡ None
    by_end (ended.Done h) e = refl
    by_end (ended.Trap v) e = refl
    by_end (ended.Refused v) e = refl
    by_end (ended.ReadFault r) e = absurd (let z : ⊥ = cc in z)
    by_end (ended.WriteFault r) e = refl
    by_end (ended.LineFault r l) e = refl
    by_end (ended.Movem r) e = refl

pub first_is_last : FirstIsLast
first_is_last x script m g b regs first =
    let o = guest_begun script g in
    let h = bus_side o in
    let cpu = o.machine.cpu in
    let related = related_devices x m.world (bus_side g) m.world.devices h.world.devices b.related in
    let sound = sound_of x (record m.world { devices = m.world.devices }) h related in
    let attempt = is_attempt (asked_of script o.machine) cpu h Retired first tt in
    let held = class_held x cpu h Retired b.present regs sound attempt.of in
    let (f, done) = retired_end (closed (by_held x.space (plain_of cpu.regs) h).0).0 held in
    let none : denied_read (by_held (space_of cpu) (plain_of cpu.regs) h).0 ≡ None =
    ap (λ (s : Space). denied_read (by_held s (plain_of cpu.regs) h).0) b.present
    ∙ done_reads_none (by_held x.space (plain_of cpu.regs) h).0 f done in
    let (class, refills) = none_is_refilled script g (ap (refilled_at h) none) in
    (class ∙ first, refills)

-- ---- the guest's own step

-- a step is by its fetch
step_by_fetch : (level : ℕ) (cpu : Cpu) (g h : Guest) → rank level ≤ interrupt_mask cpu → cpu.stopped ≡ false
    → fetched_by guest_bus cpu h ≡ fetched_by guest_bus cpu g → run guest_bus (step_of level cpu) h ≡ run guest_bus (step_of level cpu) g
step_by_fetch level cpu g h masked going same =
    chosen guest_bus (nat_lt (interrupt_mask cpu) (rank level)) (interrupt_of level cpu)
    (choose cpu.stopped (Return (finish.Idle, cpu)) (execute_next_of cpu)) h
    (not_above (interrupt_mask cpu) (rank level) masked)
    ∙ chosen guest_bus cpu.stopped (Return (finish.Idle, cpu)) (execute_next_of cpu) h going
    ∙ ap (λ (r : FoundInstr × Guest). run guest_bus (either r.0 (λ unfound. unfound_of unfound cpu) (λ found. execute_of found.0 found.1 cpu)) r.1) same
    ∙ sym (chosen guest_bus (nat_lt (interrupt_mask cpu) (rank level)) (interrupt_of level cpu)
    (choose cpu.stopped (Return (finish.Idle, cpu)) (execute_next_of cpu)) g
    (not_above (interrupt_mask cpu) (rank level) masked)
    ∙ chosen guest_bus cpu.stopped (Return (finish.Idle, cpu)) (execute_next_of cpu) g going)

always_attempted : (i : Instr) (cpu : Cpu) → IsUnprivileged i → is_attempted i cpu ≡ true
always_attempted (instr.Move i) cpu h = refl
always_attempted (instr.Arith i) cpu h = refl
always_attempted (instr.Flow i) cpu h = refl
always_attempted (instr.System i) cpu h = absurd h

abbrev Comes : ℕ → Cpu → Guest → Guest → Type 0
Comes level cpu g h = run guest_bus (step_of level cpu) h ≡ run guest_bus (step_of level cpu) g

found_is : (f : FoundInstr) (i : Instr) (n : ℕ) → f ≡ Ok (i, n) → NoOther i f
found_is f i n e = subst (NoOther i) (sym e) refl

comes_by : (level : ℕ) (cpu : Cpu) (g h : Guest) → rank level ≤ interrupt_mask cpu → cpu.stopped ≡ false → BeginsAgain (space_of cpu) (plain_of cpu.regs) g h
    → Comes level cpu g h
comes_by level cpu g h masked going same = elim same.fetch [
  | inl whole ↦ step_by_fetch level cpu g h masked going whole
  | inr (i, n, un, own, other) ↦
      attempt_then_finish guest_bus level cpu h i masked going (found_is (fetched_by guest_bus cpu h).0 i n other) (always_attempted i cpu un)
      ∙ ap (finished_by guest_bus i cpu) same.attempt
      ∙ sym (attempt_then_finish guest_bus level cpu g i masked going (found_is (fetched_by guest_bus cpu g).0 i n own) (always_attempted i cpu un))
]

pub steps_begin_again : StepsBeginAgain
steps_begin_again size level cpu g h masked plain regs fine again =
    let (ahead, same) = attempts_begin_again (space_of cpu) size (plain_of cpu.regs) g h regs.longs regs.counter fine again in
    (ahead, comes_by level cpu g h masked plain.going same)

-- ---- so often

pub again_comes_to_the_same : AgainComesToTheSame
again_comes_to_the_same size level cpu zero g h masked plain regs fine same = (
  subst (Fine size) (sym same) fine,
  ap (λ (x : Guest). x.world) same ∙ ap (λ (kept : KeptLists). record g.world { kept = kept }) (ap (λ (x : Guest). x.world.kept) (sym same)),
  ap (run guest_bus (step_of level cpu)) same,
)
again_comes_to_the_same size level cpu (suc n) g h masked plain regs fine (k, before, last) =
    let (fine_k, world, comes) = again_comes_to_the_same size level cpu n g k masked plain regs fine before in
    let (ahead, once) = steps_begin_again size level cpu k h masked plain regs fine_k last in (
      ahead.fine,
      ahead.world ∙ ap (λ (w : World). record w { kept = h.world.kept }) world,
      once ∙ comes,
    )

pub again_advances : AgainAdvances
again_advances script t n h begun few end comes =
    let b = guest_begun script t.guest in
    let cpu = b.machine.cpu in
    let level = asked_of script b.machine in
    let last = last_is_judged cpu n (bus_side b) h begun few end in
    let class_by : Refilled → Class = λ r. unwrap_or (assisted level cpu) (class_of_attempt cpu r.guest) in
    ap (λ (r : Refilled). by_class (class_by r) r.refills (guest_later b.machine (guest_processed script b)) t) last
    ∙ ap (λ (q : Stepped × Guest). by_class (class_by (record { guest = h; refills = n })) n (guest_later b.machine q) t) (sym comes)
