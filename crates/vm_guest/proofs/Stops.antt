-- A step that the board left, and that may begin again.
use Rattle.std.proofs.Common.{◌≡◌, ◌∙◌, ◌⊎◌, ℕ, suc, ◌+◌, ◌-◌, ◌^◌, ◌≤◌, Bool, true, false, cond, ◌==◌}
use Rattle.std.proofs.Common.{List, [], length, Option, Some, None, refl, ap, sym, subst, inl, inr, arith}
use Rattle.mb_port.specs.Routine.{run}
use Rattle.mb_instr.specs.declared.registers.Plain.{Plain}
use Rattle.mb_instr.specs.declared.vectors.TheConstants.{ACCESS_ERROR}
use Rattle.mb_instr.specs.Registers.{plain_of}
use Rattle.mb_frames.specs.declared.frame.Frame.{Frame}
use Rattle.mb_model.specs.declared.processor.Cpu.{Cpu}
use Rattle.mb_model.specs.declared.outcome.RunState.{RunState}
use Rattle.mb_model.specs.declared.outcome.RunState.TheVariants.{Running}
use Rattle.mb_model.specs.Status.{space_of}
use Rattle.mb_walk.specs.Memory.{AreBytes}
use Rattle.mb_devices.specs.Devices.{DeviceState, level_of, ticked, IsNotDue, passed}
use Rattle.def_processor.specs.Raise.{Stepped}
use Rattle.def_processor.specs.SystemEnds.{with_registers}
use Rattle.def_processor.specs.Step.{interrupt_mask, rank, step_of}
use Rattle.def_machine.specs.Machine.{Entries, Machine, arrived, takes_steps, asked, asked_of}
use Rattle.def_machine.specs.World.{World}
use Rattle.def_machine.proofs.Asked.{asked_masked}
use Rattle.mb_board.specs.Beside.{but_ram}
use Rattle.mb_board.specs.Fits.{FitsAlong}
use Rattle.mb_board.specs.State.{BoardState, ran_to}
use Rattle.def_runs.specs.declared.RunEnd.{RunEnd}
use Rattle.def_runs.specs.declared.RunEnd.TheVariants.{Counted, Exit}
use Rattle.def_runs.specs.Marks.{trail}
use Rattle.def_runs.specs.Native.{NativeState, Ran}
use Rattle.vm_shadow.specs.Shadows.{Shadowed}
use Rattle.vm_shadow.specs.Mapped.{shadowed}
use Rattle.mb_port.specs.declared.types.Space.{Space}
use Rattle.def_guests.specs.declared.class.Class.{Class}
use Rattle.def_guests.specs.declared.class.Class.TheVariants as class
use Rattle.def_guests.specs.Guests.{Guest}
use Rattle.def_guests.specs.Bus.{guest_bus}
use Rattle.def_guests.specs.Refills.{refilled_at, begun_again, going_on, refilled_by}
use Rattle.def_guests.specs.declared.limits.TheConstants.{MOST_REFILLS}
use Rattle.def_guests.specs.Classes.{class_at_first}
use Rattle.def_guests.specs.Exits.{is_refusal, class_of_vector, frame_access, handed_by, rest_by_frame}
use Rattle.def_guests.specs.Turns.{Guested, Tally, Turned, bus_side, guest_begun, guest_later, step_class_at_first, refills_of_step}
use Rattle.def_guests.specs.Turns.{tallied, with_refills, exceptions_of}
use Rattle.def_guests.specs.Turns.{marks_of, turn_of}
use Rattle.def_guests.specs.Seats.{Seat, end_of, machine_on, board_entry, on_board, shadow_on, guested_on, turned_on, IsSame, IsSeated, OnlyWithin, Takes}
use Rattle.def_guests.proofs.TurnLaws.{nothing_turned}
use Rattle.law_held.specs.Truth.{Fine}
use Rattle.law_mirror.specs.Related.{Site, mapping}
use Rattle.law_turns.specs.Lawful.{LeavesLawful}
use Rattle.law_turns.specs.Reads.{read_by_frame}
use Rattle.law_turns.specs.Batch.{stepped_by}
use Rattle.law_turns.specs.Turn.{IsSetFor}
use Rattle.law_turns.specs.Idle.{idle_seat}
use Rattle.law_turns.specs.Taking.{IsLeft, retired_seat, settled, site_of}
use Rattle.law_turns.specs.Again.{Midway, unbegun, refilled_seat}
use Rattle.law_turns.proofs.Refill.{again_comes_to_the_same}
use Rattle.law_turns.proofs.Turn.{more_stays_set}
use Rattle.law_turns.proofs.Registers.{same_space}
use Rattle.law_turns.proofs.Again.{midway_again, midway_ahead, midway_begins, midway_ends, midway_level, midway_takes, midway_within, class_begins}
use Rattle.vm_guest.specs.Memory.{OnlyBetween}
use Rattle.def_guests.specs.Classes.{assisted}
use Rattle.vm_guest.specs.Native.{finished_by_frame, run_on, start_on, HasFrame, IsFrameOf}
use Rattle.vm_guest.specs.Turns.{begun_seat, ended_at, scene, level_on}
use Rattle.vm_guest.specs.Stops.{with_bus_of, uncounted, BeginsAgain, IsReady, IsStopped, IsUnderway, StaysReady}
use Rattle.vm_guest.proofs.Assisted.{Attempts, attempts_none}
use Rattle.vm_guest.proofs.Runs.{MayRunOn, counted_first, counted_takes, is_left}
use Rattle.vm_guest.proofs.Seated.{begun_seated, only_within}
use Rattle.law_turns.proofs.Quiet.{untraced}
use Rattle.law_held.proofs.Refills.{some_read}
use Rattle.mb_frames.specs.declared.places.TheConstants.{LONGEST}

-- ---- classes by vectors

-- what holds of the class of a step that the board leaves
record Leaves (c : Class) : Type 0 where
  pub retired : (t : Tally) → (tallied c t).retired ≡ t.retired
  pub exceptions : (n : ℕ) → exceptions_of c n ≡ n + 1
  pub refills : (n : ℕ) (t : Tally) → with_refills c n t ≡ t
  pub marks : (before after : Cpu) → marks_of c before after ≡ []

leaves_by : (a b : Bool) → Leaves (cond a class.Denied (cond b class.Privileged class.Trapped))
leaves_by true b = record { retired = λ t. refl; exceptions = λ n. refl; refills = λ n t. refl; marks = λ x y. refl }
leaves_by false true = record { retired = λ t. refl; exceptions = λ n. refl; refills = λ n t. refl; marks = λ x y. refl }
leaves_by false false = record { retired = λ t. refl; exceptions = λ n. refl; refills = λ n t. refl; marks = λ x y. refl }

leaves : (v : ℕ) → Leaves (class_of_vector v)
leaves v = leaves_by (v == ACCESS_ERROR) (is_refusal v)

-- ---- a run that the board left

same_vector : (v n : ℕ) → Exit v ≡ Exit n → v ≡ n
same_vector v n e = cc

same_frame : (f h : Frame) → (let o : Option Frame = Some f in o) ≡ Some h → f ≡ h
same_frame f h e = cc

-- what such a run says, by the seat that the monitor has then
abbrev AgainAs : (g : Seat) (ram : List ℕ) (native : NativeState) (k : ℕ) (m : Seat) (b : BoardState) (counts : NativeState) (v : ℕ) (f : Frame) → Type 0
AgainAs g ram native k m b counts v f =
    let w = bus_side (guested_on m b.world.ram) in
    let level = level_of m.devices in Fine m.size w → (h : Guest) → refilled_at w (read_by_frame (space_of m.cpu) f) ≡ Some h
    → Midway g ram native k 0 1 m b.world.ram counts × (begun_again m.cpu w ≡ Some h) × (class_of_vector v ≡ class_at_first level m.cpu w)
    × (run guest_bus (rest_by_frame v (frame_access f) level m.cpu (handed_by b.cpu.regs f)) w ≡ run guest_bus (step_of level m.cpu) w)

abbrev TurnAs : (g : Seat) (ram : List ℕ) (native : NativeState) (k : ℕ) (m : Seat) (b : BoardState) (counts : NativeState) (v : ℕ) (f : Frame) → Type 0
TurnAs g ram native k m b counts v f = (seat : Seat) (next : List ℕ)
    → let w = bus_side (guested_on m b.world.ram) in refilled_at w (read_by_frame (space_of m.cpu) f) ≡ None
    → guested_on seat next ≡ guest_later (machine_on m b.world.ram)
    (run guest_bus (rest_by_frame v (frame_access f) (level_of m.devices) m.cpu (handed_by b.cpu.regs f)) w)
    → seat.tally ≡ tallied (class_of_vector v) m.tally → IsSame m seat → IsSeated seat next → OnlyWithin m b.world.ram next
    → Takes (k + 1) (scene g ram native) (scene seat next counts)

pub stopped_by : (g : Seat) (ram : List ℕ) (native : NativeState) (k : ℕ) (e : RunEnd) (after : BoardState) (counts : NativeState) (v : ℕ)
    (left : IsLeft g ram native k (ran_to e after counts)) → e ≡ Exit v → (s : Seat) → IsUnderway s
    → retired_seat g left.retired left.retired after.before left.begun ≡ uncounted s → IsStopped g ram native left.retired 0 s after counts v
stopped_by g ram native k e after counts v left ends s underway is =
    let now = after.world.ram in
    let vector : left.vector ≡ v = same_vector left.vector v (sym left.end ∙ ends) in
    let stands = subst (λ (m : Seat). IsSeated m now) is left.seated in
    let again = subst (λ (m : Seat). AgainAs g ram native left.retired m after counts left.vector left.frame) is left.again in
    let turn = subst (λ (m : Seat). TurnAs g ram native left.retired m after counts left.vector left.frame) is left.turn in
    let frame_is : (f : Frame) → IsFrameOf after f → left.frame ≡ f = λ f reads. same_frame left.frame f (sym (left.read_back LONGEST (omega arith)) ∙ reads) in
    record {
      underway = underway;
      frame = record { room = left.room; frame = left.frame; stands = left.read_back LONGEST (omega arith); lawful = left.lawful };
      seated = begun_seated (uncounted s) now s.devices s.steps stands;
      ready = record { set = subst (λ (m : Seat). IsSetFor (site_of m) after.world) is left.set; goes = left.goes };
      again = λ f reads. subst (λ (n : ℕ). AgainAs g ram native left.retired (uncounted s) after counts n f) vector
          (subst (λ (h : Frame). AgainAs g ram native left.retired (uncounted s) after counts left.vector h) (frame_is f reads) again);
      turn = λ f reads end seat next means tally same seated within.
          let goes = subst (λ (n : ℕ). TurnAs g ram native left.retired (uncounted s) after counts n f) vector
          (subst (λ (h : Frame). TurnAs g ram native left.retired (uncounted s) after counts left.vector h) (frame_is f reads) turn) in
          let rest = run guest_bus (rest_by_frame v (frame_access f) (level_of s.devices) s.cpu (handed_by after.cpu.regs f)) (bus_side (guested_on s now)) in
          let steps : s.steps ≡ s.steps - 1 + 1 = (let some = underway.begun in omega arith) in
          let none : refilled_at (bus_side (guested_on s now)) (read_by_frame (space_of s.cpu) f) ≡ None = elim end [
            | inl full ↦ absurd (let z : ⊥ = omega arith in z)
            | inr last ↦ last
          ] in
          goes seat next none (means ∙ ap (λ (i : ℕ). ended_at i rest) steps) tally
          (record { script = same.script; base = same.base; size = same.size; area = same.area }) seated
          (only_within (uncounted s) now next stands.behind within);
    }

-- ---- a step that begins again

-- where the board has the step whole, nothing begins again
none_by : (n : ℕ) (cpu : Cpu) (g : Guest) (o : Option Guest) → (going_on (refilled_by n cpu) g o).refills ≡ 0 → o ≡ None
none_by n cpu g None e = refl
none_by n cpu g (Some h) e = absurd (let f : (refilled_by n cpu h).refills + 1 ≡ 0 = e in let z : ⊥ = omega arith in z)

none_again : (n : ℕ) (cpu : Cpu) (g : Guest) → (refilled_by (suc n) cpu g).refills ≡ 0 → begun_again cpu g ≡ None
unfolding refilled_by
none_again n cpu g e = none_by n cpu g (begun_again cpu g) e

never_again : (script : Entries) (g : Guested) → refills_of_step script g ≡ 0 → let b = guest_begun script g in
    begun_again b.machine.cpu (bus_side b) ≡ None
never_again script g e = let b = guest_begun script g in none_again 30 b.machine.cpu (bus_side b) e

cases : (o : Option Guest) → (o ≡ None) ⊎ ((h : Guest) × (o ≡ Some h))
cases None = inl refl
cases (Some h) = inr (h, refl)

-- its devices, and what its shadow says
devices_there : (g : Seat) (ram : List ℕ) (native : NativeState) (k n left : ℕ) (mid : Seat) (now : List ℕ) (counts : NativeState)
    (m : Midway g ram native k n left mid now counts) → mid.devices ≡ (guest_begun g.script m.turn.guest).machine.world.devices
devices_there g ram native k n left mid now counts m =
    let b = guest_begun g.script m.turn.guest in
    let (fine, world, comes) = again_comes_to_the_same g.size (asked_of g.script b.machine) b.machine.cpu n (bus_side b) (bus_side (guested_on mid now))
    m.masked m.untraced m.registers m.fine m.begun in
    ap (λ (x : World). x.devices) world

fine_there : (g : Seat) (ram : List ℕ) (native : NativeState) (k n left : ℕ) (mid : Seat) (now : List ℕ) (counts : NativeState)
    (m : Midway g ram native k n left mid now counts) → Fine mid.size (bus_side (guested_on mid now))
fine_there g ram native k n left mid now counts m =
    let b = guest_begun g.script m.turn.guest in
    let (fine, world, comes) = again_comes_to_the_same g.size (asked_of g.script b.machine) b.machine.cpu n (bus_side b) (bus_side (guested_on mid now))
    m.masked m.untraced m.registers m.fine m.begun in
    subst (λ (size : ℕ). Fine size (bus_side (guested_on mid now))) (sym m.same.size) fine

module _ (g s : Seat) (ram : List ℕ) (board : BoardState) (native counts : NativeState) (k n : ℕ) (underway : IsUnderway s)
    (m : Midway g ram native k n n (uncounted s) board.world.ram counts) where
  abbrev mid : Seat
  mid = uncounted s

  -- the guest before the step
  abbrev pub from : Seat
  from = unbegun (uncounted s) m.turn

  begins : guest_begun s.script (guested_on from board.world.ram) ≡ guested_on mid board.world.ram
  begins = ap (λ (script : Entries). guest_begun script (guested_on from board.world.ram)) m.same.script
      ∙ midway_begins g ram native k n n mid board.world.ram counts m

  pub begun_is : begun_seat from ≡ s
  begun_is =
      let devices : ticked (arrived (s.steps - 1 + 1) s.script from.devices) ≡ s.devices = ap (λ (q : Guested). q.machine.world.devices) begins in
      let steps : s.steps - 1 + 1 ≡ s.steps = (let some = underway.begun in omega arith) in
      ap (λ (d : DeviceState). (let o : Seat = record s { devices = d; steps = s.steps - 1 + 1; state = Running } in o)) devices
      ∙ ap (λ (i : ℕ). (let o : Seat = record s { steps = i; state = Running } in o)) steps
      ∙ ap (λ (x : RunState). (let o : Seat = record s { state = x } in o)) (sym underway.running)

  attempts : Attempts (level_of s.devices) s.cpu
  attempts =
      let b = guest_begun g.script m.turn.guest in
      let cpu : s.cpu ≡ b.machine.cpu = ap (λ (x : Machine). x.cpu) m.opened in
      let devices = devices_there g ram native k n n mid board.world.ram counts m in
      let there : Attempts (level_of b.machine.world.devices) b.machine.cpu = record {
        masked = subst (λ (l : ℕ). rank l ≤ interrupt_mask b.machine.cpu)
            (asked_masked g.script (b.machine.steps + 1) b.machine.world.devices b.machine.cpu m.masked) m.masked;
        awake = m.untraced.going;
        untraced = untraced _ _ m.untraced.all m.untraced.flow;
      } in
      subst (λ (c : Cpu). Attempts (level_of s.devices) c) (sym cpu) (subst (λ (d : DeviceState). Attempts (level_of d) b.machine.cpu) (sym devices) there)

  -- no abort arrives at it
  asked_level : asked_of s.script (machine_on mid board.world.ram) ≡ level_of s.devices
  asked_level = ap (λ (script : Entries). asked_of script (machine_on mid board.world.ram)) m.same.script
      ∙ midway_level g ram native k n n mid board.world.ram counts m

  -- the board may run it
  pub resumes : IsSeated s board.world.ram → IsReady s board → AreBytes board.world.ram → length board.world.ram ≤ 2 ^ 32 → length s.cpu.regs.a ≡ 7
      → FitsAlong 1 (start_on s board counts) → MayRunOn from board counts 0
  resumes seated ready bytes small seven fit =
      let steps : s.steps ≡ s.steps - 1 + 1 = (let some = underway.begun in omega arith) in
      let level : level_on (begun_seat from) ≡ level_of s.devices =
      ap level_on begun_is ∙ ap (λ (i : ℕ). asked s.script i s.devices) steps ∙ asked_level in
      record {
        seated = begun_seated s board.world.ram from.devices from.steps seated;
        set = ready.set;
        bytes = bytes;
        small = small;
        running = underway.running;
        on = λ some. absurd (let z : ⊥ = omega arith in z);
        seven = seven;
        tried = ap (λ (l : ℕ). assisted l s.cpu) level ∙ attempts_none (level_of s.devices) s.cpu attempts;
        arrives = λ j more less. absurd (let z : ⊥ = omega arith in z);
        due = subst (λ (x : Seat). IsNotDue 0 x.devices) (sym begun_is) underway.due;
        fit = fit;
      }

  -- ---- carried out

  module _ (may : MayRunOn from board counts 0) where
    pub again_takes : (h : Seat) (u : Ran) (p : Plain) (j : ℕ) → n ≡ suc j → u ≡ run_on s board counts 1 → u.end ≡ Counted
        → length u.machine.cpu.regs.a ≡ 7 → p ≡ plain_of u.machine.cpu.regs → h ≡ retired_seat s 0 1 p (passed 0 s.devices)
        → Takes (k + 1) (scene g ram native)
        (scene (settled (record h { tally = record h.tally { refilled = h.tally.refilled + 1 } })) u.machine.world.ram u.native)
    again_takes h u p j again ran end wide plain goes =
        let w = bus_side (guested_on mid board.world.ram) in
        let behind : settled (retired_seat (begun_seat from) 0 1 p (passed 0 (begun_seat from).devices)) ≡ settled h =
        ap (λ (x : Seat). settled (retired_seat x 0 1 p (passed 0 x.devices))) begun_is ∙ ap settled (sym goes) in
        let one : Takes 1 (scene from board.world.ram counts) (scene (settled h) u.machine.world.ram u.native) =
        subst (λ (x : Seat). Takes 1 (scene from board.world.ram counts) (scene x u.machine.world.ram u.native)) behind
        (counted_takes from board counts 0 may u ran end wide p plain) in
        let (first, refills) = counted_first from board counts 0 may u ran end in
        let class_is : class_at_first (level_of mid.devices) mid.cpu w ≡ class.Retired =
        sym (ap (λ (l : ℕ). class_at_first l mid.cpu w) asked_level)
        ∙ sym (class_begins s.script (guested_on from board.world.ram) (guested_on mid board.world.ram) begins) ∙ first in
        let none : begun_again mid.cpu w ≡ None =
        ap (λ (q : Guested). begun_again q.machine.cpu (bus_side q)) (sym begins) ∙ never_again s.script (guested_on from board.world.ram) refills in
        let taken = midway_takes g ram native k n mid board.world.ram counts m none (settled h) u.machine.world.ram u.native one in
        let by_class =
        subst (λ (c : Class). Takes (k + 1) (scene g ram native) (scene (refilled_seat c n (settled h)) u.machine.world.ram u.native)) class_is taken in
        subst (λ (i : ℕ). Takes (k + 1) (scene g ram native) (scene (refilled_seat class.Retired i (settled h)) u.machine.world.ram u.native)) again by_class

    -- ---- left once more

    module _ (e : RunEnd) (after : BoardState) (later : NativeState) (v : ℕ) (ran : ran_to e after later ≡ run_on s board counts 1)
        (ends : e ≡ Exit v) (wide : length after.cpu.regs.a ≡ 7) where
      left : IsLeft from board.world.ram counts 1 (ran_to e after later)
      left = is_left from board counts 0 may (ran_to e after later) v ran ends wide

      none_retired : left.retired ≡ 0
      none_retired = let few = left.few in omega arith

      pub left_counts : (later.retired ≡ counts.retired) × (later.exceptions ≡ counts.exceptions + 1)
      left_counts = let a = left.counts in let b = none_retired in (omega arith, left.exceptions)

      stays : stepped_by s.script left.retired (guested_on from board.world.ram) ≡ guested_on from board.world.ram
      stays = ap (λ (j : ℕ). stepped_by s.script j (guested_on from board.world.ram)) none_retired

      there : guest_begun s.script (stepped_by s.script left.retired (guested_on from board.world.ram)) ≡ guested_on mid board.world.ram
      there = ap (guest_begun s.script) stays ∙ begins

      cpu_is : (retired_seat from left.retired left.retired after.before left.begun).cpu ≡ s.cpu
      cpu_is = left.cpu ∙ ap (λ (q : Guested). q.machine.cpu) stays

      seat_is : retired_seat from left.retired left.retired after.before left.begun ≡ uncounted s
      seat_is =
          let of : Cpu → DeviceState → ℕ → ℕ → Seat =
          λ c d i r. record s { cpu = c; devices = d; steps = i; tally = record s.tally { retired = r } } in
          let devices : left.begun ≡ s.devices = left.begins ∙ ap (λ (q : Guested). q.machine.world.devices) there in
          let none = none_retired in
          let steps : s.steps - 1 + left.retired ≡ s.steps - 1 = omega arith in
          let retired : s.tally.retired + left.retired ≡ s.tally.retired = omega arith in
          ap (λ (c : Cpu). of c left.begun (s.steps - 1 + left.retired) (s.tally.retired + left.retired)) cpu_is
          ∙ ap (λ (d : DeviceState). of s.cpu d (s.steps - 1 + left.retired) (s.tally.retired + left.retired)) devices
          ∙ ap (λ (i : ℕ). of s.cpu s.devices i (s.tally.retired + left.retired)) steps
          ∙ ap (λ (r : ℕ). of s.cpu s.devices (s.steps - 1) r) retired

      base : IsStopped from board.world.ram counts left.retired 0 s after later v
      base = stopped_by from board.world.ram counts 1 e after later v left ends s underway seat_is

      frame_is : (f : Frame) → IsFrameOf after f → left.frame ≡ f
      frame_is f reads = same_frame left.frame f (sym (left.read_back LONGEST (omega arith)) ∙ reads)

      -- where it was denied a read, nothing has changed
      world_is : (f : Frame) → IsFrameOf after f → (h : Guest)
          → refilled_at (bus_side (guested_on mid after.world.ram)) (read_by_frame (space_of s.cpu) f) ≡ Some h
          → bus_side (guested_on mid after.world.ram) ≡ bus_side (guested_on mid board.world.ram)
      world_is f reads h some =
          let (read, told) = some_read (bus_side (guested_on mid after.world.ram)) h (read_by_frame (space_of s.cpu) f) some in
          ap (λ (x : Seat). bus_side (guested_on x after.world.ram)) (sym seat_is)
          ∙ left.still read (ap (λ (c : Cpu). read_by_frame (space_of c) left.frame) cpu_is ∙ ap (read_by_frame (space_of s.cpu)) (frame_is f reads) ∙ told)
          ∙ ap bus_side there

      within_both : (next : List ℕ) → OnlyBetween s.base (end_of s) after.world.ram next → OnlyWithin mid board.world.ram next
      within_both next within =
          let o = only_within mid after.world.ram next base.seated.behind within in
          record { count = o.count ∙ left.within.count; below = o.below ∙ left.within.below; above = o.above ∙ left.within.above }

      module _ (f : Frame) (reads : IsFrameOf after f) (seat : Seat) (next : List ℕ) (means : guested_on seat next ≡ finished_by_frame v f after s)
          (tally : seat.tally ≡ tallied (class_of_vector v) s.tally) (same : IsSame s seat) (seated : IsSeated seat next)
          (within : OnlyBetween s.base (end_of s) after.world.ram next) where
        same_mid : IsSame mid seat
        same_mid = record { script = same.script; base = same.base; size = same.size; area = same.area }

        -- no read is refilled
        last_takes : refilled_at (bus_side (guested_on s after.world.ram)) (read_by_frame (space_of s.cpu) f) ≡ None
            → Takes (k + 1) (scene g ram native) (scene seat next later)
        last_takes none =
            let w = bus_side (guested_on mid board.world.ram) in
            let one = subst (λ (j : ℕ). Takes (j + 1) (scene from board.world.ram counts) (scene seat next later)) none_retired
            (base.turn f reads (inr none) seat next means tally same seated within) in
            let last : begun_again mid.cpu w ≡ None =
            ap (λ (q : Guested). begun_again q.machine.cpu (bus_side q)) (sym there) ∙ sym left.read
            ∙ ap (λ (x : Seat). refilled_at (bus_side (guested_on x after.world.ram)) (read_by_frame (space_of x.cpu) left.frame)) seat_is
            ∙ ap (λ (x : Frame). refilled_at (bus_side (guested_on mid after.world.ram)) (read_by_frame (space_of s.cpu) x)) (frame_is f reads) ∙ none in
            let class_is : class_of_vector v ≡ class_at_first (level_of mid.devices) mid.cpu w =
            ap class_of_vector (sym (same_vector left.vector v (sym left.end ∙ ends))) ∙ left.class
            ∙ ap (λ (q : Guested). step_class_at_first s.script q) stays
            ∙ class_begins s.script (guested_on from board.world.ram) (guested_on mid board.world.ram) begins
            ∙ ap (λ (l : ℕ). class_at_first l mid.cpu w) asked_level in
            let tally_is : with_refills (class_at_first (level_of mid.devices) mid.cpu w) n seat.tally ≡ seat.tally =
            ap (λ (c : Class). with_refills c n seat.tally) (sym class_is) ∙ (leaves v).refills n seat.tally in
            subst (λ (t : Tally). Takes (k + 1) (scene g ram native) (scene (record seat { tally = t }) next later)) tally_is
            (midway_takes g ram native k n mid board.world.ram counts m last seat next later one)

        -- it has begun again as often as it may
        full_takes : n ≡ MOST_REFILLS → (h : Guest)
            → refilled_at (bus_side (guested_on s after.world.ram)) (read_by_frame (space_of s.cpu) f) ≡ Some h
            → Takes (k + 1) (scene g ram native) (scene seat next later)
        full_takes full h some =
            let w = bus_side (guested_on mid board.world.ram) in
            let world = world_is f reads h some in
            let level = level_of s.devices in
            let fine = subst (λ (x : Guest). Fine s.size x) (sym world) (fine_there g ram native k n n mid board.world.ram counts m) in
            let (i, again, class_by, whole) = base.again f reads fine h some in
            let out = leaves v in
            let class_is : class_of_vector v ≡ class_at_first level s.cpu w = class_by ∙ ap (class_at_first level s.cpu) world in
            let marks : i.turn.marks ≡ [] =
            ap (λ (t : Turned). t.marks)
            (i.taken ∙ ap (λ (j : ℕ). turn_of s.script j (turned_on from board.world.ram [] 0)) none_retired
            ∙ nothing_turned s.script (turned_on from board.world.ram [] 0)) in
            let steps : s.steps ≡ s.steps - 1 + 1 = (let some = underway.begun in omega arith) in
            let rest = run guest_bus (rest_by_frame v (frame_access f) level s.cpu (handed_by after.cpu.regs f)) (bus_side (guested_on s after.world.ram)) in
            let none = none_retired in
            midway_ends g ram native k n n mid board.world.ram counts m (inl full) seat next later
            (means ∙ ap (λ (x : ℕ). ended_at x rest) steps
            ∙ ap (λ (x : Stepped × Guest). ended_at (s.steps - 1 + 1) x) (whole ∙ ap (λ (x : Guest). run guest_bus (step_of level s.cpu) x) world))
            (tally ∙ sym (out.refills n (tallied (class_of_vector v) s.tally)) ∙ ap (λ (c : Class). with_refills c n (tallied c s.tally)) class_is)
            same_mid seated (within_both next within)
            (let a = left.counts in let t = ap (λ (x : Tally). x.retired) tally ∙ out.retired s.tally in omega arith)
            (i.trail_is ∙ ap (trail counts.trail) (marks ∙ sym (out.marks s.cpu seat.cpu) ∙ ap (λ (c : Class). marks_of c s.cpu seat.cpu) class_is))
            (let a = left.exceptions in
            let e = ap (λ (c : Class). exceptions_of c n) (sym class_is) ∙ out.exceptions n in omega (arith, a, e))

      pub again_stopped : IsStopped g ram native k n s after later v
      again_stopped = record {
        underway = underway;
        frame = base.frame;
        seated = base.seated;
        ready = base.ready;
        again = λ f reads fine h some.
            let (i, again, class_by, whole) = base.again f reads fine h some in (
              subst (λ (j : ℕ). Midway g ram native k n j mid after.world.ram later) (let once : n + 1 ≡ suc n = omega arith in once)
                  (midway_within g ram native k n n mid board.world.ram counts m mid after.world.ram later 1
                  (subst (λ (j : ℕ). Midway from board.world.ram counts j 0 1 mid after.world.ram later) none_retired i)),
              again,
              class_by,
              whole,
            );
        turn = λ f reads end seat next means tally same seated within. elim end [
          | inl full ↦ elim (cases (refilled_at (bus_side (guested_on s after.world.ram)) (read_by_frame (space_of s.cpu) f))) [
            | inl none ↦ last_takes f reads seat next means tally same seated within none
            | inr (h, some) ↦ full_takes f reads seat next means tally same seated within full h some
          ]
          | inr none ↦ last_takes f reads seat next means tally same seated within none
        ];
      }

-- ---- a read is filled and put

pub refilled_midway : (g s y : Seat) (ram : List ℕ) (native : NativeState) (k n : ℕ) (b : BoardState) (counts : NativeState) (v : ℕ) (f : Frame)
    (next : List ℕ) → IsStopped g ram native k n s b counts v → suc n ≤ MOST_REFILLS → IsFrameOf b f
    → Fine s.size (bus_side (guested_on s b.world.ram))
    → refilled_at (bus_side (guested_on s b.world.ram)) (read_by_frame (space_of s.cpu) f) ≡ Some (bus_side (guested_on (with_bus_of s y) next))
    → IsSeated (with_bus_of s y) next → OnlyBetween s.base (end_of s) b.world.ram next
    → IsUnderway (with_bus_of s y) × Midway g ram native k (suc n) (suc n) (uncounted (with_bus_of s y)) next counts
refilled_midway g s y ram native k n b counts v f next stopped few reads fine some seated within =
    let seat = with_bus_of s y in
    let h = bus_side (guested_on seat next) in
    let (m, again, class_by, whole) = stopped.again f reads fine h some in
    let before = stopped.seated in
    let mid = begun_seated seat next seat.devices (seat.steps - 1) seated in
    let more = midway_again g ram native k n (suc n) (uncounted s) b.world.ram counts m few h again (uncounted seat) next counts refl refl refl
    (record { script = refl; base = refl; size = refl; area = seated.area ∙ sym before.area }) mid
    (only_within (uncounted s) b.world.ram next before.behind within) refl refl refl in
    let devices_of : Turned → DeviceState = λ t. (guest_begun g.script t.guest).machine.world.devices in
    let devices : y.devices ≡ s.devices =
    devices_there g ram native k (suc n) (suc n) (uncounted seat) next counts more ∙ ap devices_of (more.taken ∙ sym m.taken)
    ∙ sym (devices_there g ram native k n (suc n) (uncounted s) b.world.ram counts m) in (
      record {
        begun = stopped.underway.begun;
        running = stopped.underway.running;
        due = subst (λ (d : DeviceState). IsNotDue 0 d) (sym devices) stopped.underway.due;
      },
      more,
    )

pub refilled_begins : (g s x : Seat) (ram : List ℕ) (native : NativeState) (k n : ℕ) (b : BoardState) (counts : NativeState) (v : ℕ) (f : Frame)
    (next : List ℕ) → IsStopped g ram native k n s b counts v → suc n ≤ MOST_REFILLS → IsFrameOf b f
    → Fine s.size (bus_side (guested_on s b.world.ram))
    → refilled_at (bus_side (guested_on s b.world.ram)) (read_by_frame (space_of s.cpu) f) ≡ Some (bus_side (guested_on x next))
    → x ≡ with_bus_of s x → IsSeated x next → OnlyBetween s.base (end_of s) b.world.ram next
    → IsUnderway x × Midway g ram native k (suc n) (suc n) (uncounted x) next counts
refilled_begins g s x ram native k n b counts v f next stopped few reads fine some is seated within =
    subst (λ (y : Seat). IsUnderway y × Midway g ram native k (suc n) (suc n) (uncounted y) next counts) (sym is)
    (refilled_midway g s x ram native k n b counts v f next stopped few reads fine
    (some ∙ ap (λ (y : Seat). (let o : Option Guest = Some (bus_side (guested_on y next)) in o)) is)
    (subst (λ (y : Seat). IsSeated y next) is seated) within)

-- the board still stands for it: each entry that it had is there
moved_more : (base : ℕ) (o p : Option (ℕ × Bool)) → ((entry : ℕ × Bool) → o ≡ Some entry → p ≡ Some entry) → (entry : ℕ × Bool)
    → board_entry base o ≡ Some entry → board_entry base p ≡ Some entry
moved_more base None p more entry e = absurd (let z : ⊥ = cc in z)
moved_more base (Some own) p more entry e = ap (board_entry base) (more own refl) ∙ e

pub refilled_ready : (g s y : Seat) (ram : List ℕ) (native : NativeState) (k n : ℕ) (b : BoardState) (counts : NativeState) (v : ℕ) (f : Frame)
    (later : BoardState) → IsStopped g ram native k n s b counts v → IsFrameOf b f → Fine s.size (bus_side (guested_on s b.world.ram))
    → refilled_at (bus_side (guested_on s b.world.ram)) (read_by_frame (space_of s.cpu) f)
    ≡ Some (bus_side (guested_on (with_bus_of s y) later.world.ram))
    → IsSeated (with_bus_of s y) later.world.ram → but_ram later ≡ but_ram b → IsReady (with_bus_of s y) later
refilled_ready g s y ram native k n b counts v f later stopped reads fine some seated rest =
    let seat = with_bus_of s y in
    let next = later.world.ram in
    let before = stopped.seated in
    let space = space_of s.cpu in
    let (m, again, class_by, whole) = stopped.again f reads fine (bus_side (guested_on seat next)) some in
    let ahead = midway_ahead g ram native k n (suc n) (uncounted s) b.world.ram counts m (bus_side (guested_on seat next)) again in
    let entry_of : Shadowed → ℕ → Option (ℕ × Bool) = λ h page. h.entries space page in
    let more : (page : ℕ) (entry : ℕ × Bool) → mapping (site_of s) b.world.ram page ≡ Some entry → mapping (site_of seat) next page ≡ Some entry =
    λ page entry e. ap (λ (h : Shadowed). entry_of h page) seated.tables
    ∙ moved_more s.base (entry_of (shadow_on s b.world.ram) page) (entry_of (shadow_on seat next) page) (ahead.more space page) entry
    (sym (ap (λ (h : Shadowed). entry_of h page) before.tables) ∙ e) in
    let world : later.world ≡ record b.world { ram = next } = ap (λ (o : BoardState). record o.world { ram = next }) rest in
    record {
      set = subst (λ (w : World). IsSetFor (site_of seat) w) (sym world)
          (more_stays_set (site_of s) (site_of seat) b.world next (seated.area ∙ sym before.area) refl more stopped.ready.set);
      goes = ap (λ (o : BoardState). takes_steps o.state) rest ∙ stopped.ready.goes;
    }

-- and where its shadow and its space have stayed
pub stays_ready : (s t : Seat) (b later : BoardState) → IsReady s b → IsSeated s b.world.ram → IsSeated t later.world.ram → IsSame s t
    → StaysReady s t b.world.ram later.world.ram → but_ram later ≡ but_ram b → IsReady t later
stays_ready s t b later ready before after same stays rest =
    let next = later.world.ram in
    let old = shadowed s.slots b.world.ram in
    let tables : shadowed t.slots next ≡ old =
    after.tables ∙ ap (λ (base : ℕ). on_board base (shadow_on t next)) same.base ∙ ap (on_board s.base) stays.shadow ∙ sym before.tables in
    let more : (page : ℕ) (entry : ℕ × Bool) → mapping (site_of s) b.world.ram page ≡ Some entry → mapping (site_of t) next page ≡ Some entry =
    λ page entry e. ap (λ (h : Shadowed). h.entries (space_of t.cpu) page) tables ∙ ap (λ (space : Space). old.entries space page) stays.space ∙ e in
    let world : later.world ≡ record b.world { ram = next } = ap (λ (o : BoardState). record o.world { ram = next }) rest in
    record {
      set = subst (λ (w : World). IsSetFor (site_of t) w) (sym world)
          (more_stays_set (site_of s) (site_of t) b.world next same.area stays.space more ready.set);
      goes = ap (λ (o : BoardState). takes_steps o.state) rest ∙ ready.goes;
    }

-- where it stands for a run of the guest, and has counted that to its end
pub counted_ready : (s h : Seat) (after : BoardState) (p : Plain) → site_of h ≡ site_of (record s { cpu = with_registers p s.cpu })
    → IsSetFor (site_of s) after.world → takes_steps after.state ≡ true → IsReady h after
counted_ready s h after p is set goes = record {
  set = subst (λ (x : Site). IsSetFor x after.world)
      (sym (is ∙ ap (λ (space : Space). (let x : Site = record (site_of s) { space = space } in x)) (same_space p s.cpu))) set;
  goes = goes;
}

-- The beginning of a step is nothing to it, nor are idle steps.
pub begun_ready : (g b : Seat) (board : BoardState) → b ≡ begun_seat g → IsReady g board → IsReady b board
begun_ready g b board is ready = subst (λ (s : Seat). IsReady s board) (sym is) (record { set = ready.set; goes = ready.goes })

pub idle_ready : (b h : Seat) (board : BoardState) (more n : ℕ) (d : DeviceState) → h ≡ idle_seat b more n d → IsReady b board → IsReady h board
idle_ready b h board more n d is ready = subst (λ (s : Seat). IsReady s board) (sym is) (record { set = ready.set; goes = ready.goes })

-- the turn in which it begins again then
abbrev pub again_of : (g s x : Seat) (ram : List ℕ) (native : NativeState) (k n : ℕ) (b : BoardState) (counts : NativeState) (v : ℕ) (f : Frame)
    (later : BoardState) → IsStopped g ram native k n s b counts v → suc n ≤ MOST_REFILLS → IsFrameOf b f
    → Fine s.size (bus_side (guested_on s b.world.ram))
    → refilled_at (bus_side (guested_on s b.world.ram)) (read_by_frame (space_of s.cpu) f) ≡ Some (bus_side (guested_on x later.world.ram))
    → x ≡ with_bus_of s x → IsSeated x later.world.ram → OnlyBetween s.base (end_of s) b.world.ram later.world.ram → but_ram later ≡ but_ram b
    → BeginsAgain x later counts
again_of g s x ram native k n b counts v f later stopped few reads fine some is seated within rest =
    let next = later.world.ram in
    let both = refilled_begins g s x ram native k n b counts v f next stopped few reads fine some is seated within in
    let ready = subst (λ (y : Seat). IsReady y later) (sym is)
    (refilled_ready g s x ram native k n b counts v f later stopped reads fine
    (some ∙ ap (λ (y : Seat). (let o : Option Guest = Some (bus_side (guested_on y next)) in o)) is)
    (subst (λ (y : Seat). IsSeated y next) is seated) rest) in
    record { guest = g; ram = ram; native = native; taken = k; refills = n; underway = both.0; seated = seated; ready = ready; midway = both.1 }

-- what the frame leaves may be asked of buses
pub lawful_of : (b : BoardState) (f : Frame) → HasFrame b → IsFrameOf b f → LeavesLawful (frame_access f)
lawful_of b f has reads =
    subst (λ (h : Frame). LeavesLawful (frame_access h)) (same_frame has.frame f (sym has.stands ∙ reads)) has.lawful
