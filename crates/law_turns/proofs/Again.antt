-- A seated guest in the middle of a step that begins again.
use Rattle.std.proofs.Common.{◌≡◌, ◌∙◌, ℕ, ◌+◌, ◌-◌, List, [], ◌++◌, drop, refl, ap, sym, subst, arith, inl, inr, Some, None, true}
use Rattle.mb_port.specs.Routine.{run}
use Rattle.mb_instr.specs.declared.registers.Plain.{Plain}
use Rattle.mb_model.specs.declared.processor.Cpu.{Cpu}
use Rattle.mb_walk.specs.Memory.{part}
use Rattle.mb_devices.specs.Devices.{DeviceState, ticked, level_of}
use Rattle.def_processor.specs.Step.{step_of}
use Rattle.def_machine.specs.Machine.{Machine, Entries, arrived, takes_steps, asked_of, aborts}
use Rattle.def_machine.specs.World.{World}
use Rattle.def_machine.proofs.Asked.{asked_devices, asked_masked, unaborted}
use Rattle.def_runs.specs.Marks.{trail}
use Rattle.def_runs.specs.Native.{NativeState}
use Rattle.def_guests.specs.declared.class.Class.{Class}
use Rattle.def_guests.specs.Guests.{Guest}
use Rattle.def_guests.specs.Bus.{guest_bus}
use Rattle.def_guests.specs.Refills.{begun_again}
use Rattle.def_guests.specs.Classes.{class_at_first}
use Rattle.def_guests.specs.Turns.{Guested, Turned, Tally, bus_side, guest_begun, guest_later, tallied, with_refills, by_class, marks_of, exceptions_of}
use Rattle.def_guests.specs.Turns.{advanced}
use Rattle.def_guests.specs.Turns.{guest_processed, guest_stepped, class_of_step, step_class_at_first, refills_of_step, turn_of}
use Rattle.def_guests.specs.declared.class.Class.TheVariants as class
use Rattle.def_guests.proofs.Counts.{refills_aside}
use Rattle.vm_shadow.specs.Shadows.{Shadowed}
use Rattle.def_guests.specs.Seats.{Seat, end_of, machine_on, guested_on, turned_on, IsSame, IsSeated, OnlyWithin}
use Rattle.def_guests.specs.declared.limits.TheConstants.{MONITOR_BYTES}
use Rattle.def_guests.proofs.Trails.{trail_append}
use Rattle.def_guests.proofs.TurnLaws.{going_turn, nothing_turned, turns_add}
use Rattle.law_turns.specs.Refill.{HasBegunAgain}
use Rattle.law_turns.specs.Again.{Midway, unbegun, refilled_seat, MidwayAgain, MidwayAhead, MidwayEnds, MidwayBegins, MidwayTakes, MidwayWithin}
use Rattle.law_turns.specs.Batch.{IsTried}
use Rattle.law_turns.proofs.Quiet.{tried_class, untraced}
use Rattle.law_turns.proofs.Taking.{same_turned, no_refills}
use Rattle.law_turns.proofs.Refill.{none_is_refilled, steps_begin_again, again_comes_to_the_same, again_advances}

same_both : (g mid seat : Seat) → IsSame g mid → IsSame mid seat → IsSame g seat
same_both g mid seat a b = record {
  script = b.script ∙ a.script;
  base = b.base ∙ a.base;
  size = b.size ∙ a.size;
  area = b.area ∙ a.area;
}

within_both : (g mid : Seat) (ram now next : List ℕ) → IsSame g mid → OnlyWithin g ram now → OnlyWithin mid now next → OnlyWithin g ram next
within_both g mid ram now next same a b =
    let base = same.base in
    let end : end_of mid ≡ end_of g = (let size = same.size in omega arith) in record {
      count = b.count ∙ a.count;
      below = subst (λ (k : ℕ). part next MONITOR_BYTES (k - MONITOR_BYTES) ≡ part now MONITOR_BYTES (k - MONITOR_BYTES)) base b.below ∙ a.below;
      above = subst (λ (k : ℕ). drop k next ≡ drop k now) end b.above ∙ a.above;
    }

pub midway_again : MidwayAgain
midway_again g ram native k n left mid now counts m few h again seat next later machine world tally same seated within retired trail_same exceptions =
    let b = guest_begun g.script m.turn.guest in
    let cpu : mid.cpu ≡ b.machine.cpu = ap (λ (x : Machine). x.cpu) m.opened in
    let last : begun_again b.machine.cpu (bus_side (guested_on mid now)) ≡ Some (bus_side (guested_on seat next)) =
    ap (λ (c : Cpu). begun_again c (bus_side (guested_on mid now))) (sym cpu) ∙ again
    ∙ ap (λ (x : Guest). Some x) (sym world) in
    record {
      turn = m.turn;
      taken = m.taken;
      goes = m.goes;
      masked = m.masked;
      untraced = m.untraced;
      registers = m.registers;
      fine = m.fine;
      opened = machine ∙ ap (λ (x : Machine). record x { world = h.world }) m.opened
          ∙ ap (λ (x : Guest). record b.machine { world = x.world }) (sym world);
      begun = (bus_side (guested_on mid now), m.begun, last);
      few = few;
      tally = tally ∙ m.tally;
      same = same_both g mid seat m.same same;
      seated = seated;
      within = within_both g mid ram now next m.same m.within within;
      retired = (let a = m.retired in let t = ap (λ (x : Tally). x.retired) tally in omega arith);
      trail_is = trail_same ∙ m.trail_is;
      exceptions = exceptions ∙ m.exceptions;
    }

pub midway_ahead : MidwayAhead
midway_ahead g ram native k n left mid now counts m h again =
    let b = guest_begun g.script m.turn.guest in
    let w = bus_side (guested_on mid now) in
    let level = asked_of g.script b.machine in
    let cpu : mid.cpu ≡ b.machine.cpu = ap (λ (x : Machine). x.cpu) m.opened in
    let (fine, world, comes) = again_comes_to_the_same g.size level b.machine.cpu n (bus_side b) w m.masked m.untraced m.registers m.fine m.begun in
    (steps_begin_again g.size level b.machine.cpu w h m.masked m.untraced m.registers fine (ap (λ (c : Cpu). begun_again c w) (sym cpu) ∙ again)).0

-- the board attempts it
midway_tried : (g : Seat) (ram : List ℕ) (native : NativeState) (k n left : ℕ) (mid : Seat) (now : List ℕ) (counts : NativeState)
    → Midway g ram native k n left mid now counts → IsTried (class_at_first (level_of mid.devices) mid.cpu (bus_side (guested_on mid now)))
midway_tried g ram native k n left mid now counts m =
    let w = bus_side (guested_on mid now) in
    let b = guest_begun g.script m.turn.guest in
    let cpu : mid.cpu ≡ b.machine.cpu = ap (λ (x : Machine). x.cpu) m.opened in
    let (fine, world, comes) = again_comes_to_the_same g.size (asked_of g.script b.machine) b.machine.cpu n (bus_side b) w m.masked m.untraced
    m.registers m.fine m.begun in
    let level : level_of mid.devices ≡ asked_of g.script b.machine = ap (λ (x : World). level_of x.devices) world
    ∙ sym (asked_masked g.script (b.machine.steps + 1) b.machine.world.devices b.machine.cpu m.masked) in
    let tried = tried_class (asked_of g.script b.machine) b.machine.cpu w m.masked m.untraced.going (untraced _ _ m.untraced.all m.untraced.flow) in
    subst (λ (c : Cpu). IsTried (class_at_first (level_of mid.devices) c w)) (sym cpu)
    (subst (λ (l : ℕ). IsTried (class_at_first l b.machine.cpu w)) (sym level) tried)

-- of such a step each time that it begins again is one exception more
again_more : (c : Class) (n : ℕ) → IsTried c → exceptions_of c n ≡ exceptions_of c 0 + n
again_more class.Retired n h = omega arith
again_more class.Privileged n h = omega arith
again_more class.Denied n h = omega arith
again_more class.Trapped n h = omega arith
again_more class.Entered n h = absurd h
again_more class.Idle n h = absurd h
again_more class.Traced n h = absurd h

pub midway_ends : MidwayEnds
midway_ends g ram native k n left mid now counts m end seat next later means tally same seated within retired trail_goes exceptions =
    let w = bus_side (guested_on mid now) in
    let b = guest_begun g.script m.turn.guest in
    let cpu : mid.cpu ≡ b.machine.cpu = ap (λ (x : Machine). x.cpu) m.opened in
    let (fine, world, comes) = again_comes_to_the_same g.size (asked_of g.script b.machine) b.machine.cpu n (bus_side b) w m.masked m.untraced
    m.registers m.fine m.begun in
    let level : level_of mid.devices ≡ asked_of g.script b.machine = ap (λ (x : World). level_of x.devices) world
    ∙ sym (asked_masked g.script (b.machine.steps + 1) b.machine.world.devices b.machine.cpu m.masked) in
    let class = class_at_first (level_of mid.devices) mid.cpu w in
    let class_there = class_at_first (asked_of g.script b.machine) b.machine.cpu w in
    let class_is : class_there ≡ class =
    ap (λ (l : ℕ). class_at_first l b.machine.cpu w) (sym level) ∙ ap (λ (c : Cpu). class_at_first (level_of mid.devices) c w) (sym cpu) in
    let ends : begun_again b.machine.cpu w ≡ begun_again mid.cpu w = ap (λ (c : Cpu). begun_again c w) (sym cpu) in
    let runs = λ (l : ℕ) (c : Cpu). run guest_bus (step_of l c) w in
    let later_there = guest_later b.machine (runs (asked_of g.script b.machine) b.machine.cpu) in
    let guest : guested_on seat next ≡ later_there =
    means ∙ ap (λ (x : Machine). guest_later x (runs (level_of mid.devices) mid.cpu)) m.opened
    ∙ ap (λ (l : ℕ). guest_later b.machine (runs l mid.cpu)) level
    ∙ ap (λ (c : Cpu). guest_later b.machine (runs (asked_of g.script b.machine) c)) cpu in
    let marks = marks_of class mid.cpu seat.cpu in
    let marks_is : marks ≡ marks_of class_there m.turn.guest.machine.cpu later_there.machine.cpu =
    ap (λ (x : Class). marks_of x mid.cpu seat.cpu) (sym class_is) ∙ ap (λ (c : Cpu). marks_of class_there c seat.cpu) cpu
    ∙ ap (λ (x : Guested). marks_of class_there b.machine.cpu x.machine.cpu) guest in
    let advances = again_advances g.script m.turn n w m.begun m.few
    (elim end [
      | inl all ↦ inl all
      | inr none ↦ inr (ends ∙ none)
    ]) comes in
    let more = m.turn.exceptions + exceptions_of class n in
    let turned : turned_on seat next (m.turn.marks ++ marks) more ≡ turn_of g.script (k + 1) (turned_on g ram [] 0) =
    same_turned (turned_on seat next (m.turn.marks ++ marks) more) (by_class class_there n later_there m.turn) guest
    (tally ∙ ap (λ (x : Tally). with_refills class n (tallied class x)) m.tally
    ∙ ap (λ (x : Class). with_refills x n (tallied x m.turn.tally)) (sym class_is))
    (ap (λ (x : List Plain). m.turn.marks ++ x) marks_is)
    (ap (λ (x : Class). m.turn.exceptions + exceptions_of x n) (sym class_is))
    ∙ sym advances ∙ sym (nothing_turned g.script (advanced g.script m.turn)) ∙ sym (going_turn g.script 0 m.turn m.goes)
    ∙ ap (turn_of g.script 1) m.taken ∙ sym (turns_add g.script k 1 (turned_on g ram [] 0)) in
    record {
      marks = m.turn.marks ++ marks;
      left_times = more;
      turned = turned;
      same = same_both g mid seat m.same same;
      seated = seated;
      within = within_both g mid ram now next m.same m.within within;
      retired = (let a = m.retired in omega arith);
      trail = trail_goes ∙ ap (λ (x : ℕ). trail x marks) m.trail_is ∙ sym (trail_append native.trail m.turn.marks marks);
      exceptions = (let a = m.exceptions in omega (arith, a, exceptions));
    }

-- ---- the guest before the step

pub class_begins : (script : Entries) (start q : Guested) → guest_begun script start ≡ q
    → step_class_at_first script start ≡ class_at_first (asked_of script q.machine) q.machine.cpu (bus_side q)
class_begins script start q e = ap (λ (p : Guested). class_at_first (asked_of script p.machine) p.machine.cpu (bus_side p)) e

same_guested : (p q : Guested) → p.machine ≡ q.machine → p.shadow ≡ q.shadow → p ≡ q
same_guested p q e f =
    ap (λ (x : Machine). (let o : Guested = record { machine = x; shadow = p.shadow } in o)) e
    ∙ ap (λ (x : Shadowed). (let o : Guested = record { machine = q.machine; shadow = x } in o)) f

pub midway_begins : MidwayBegins
midway_begins g ram native k n left mid now counts m =
    let b = guest_begun g.script m.turn.guest in
    let w = bus_side (guested_on mid now) in
    let (fine, world, comes) = again_comes_to_the_same g.size (asked_of g.script b.machine) b.machine.cpu n (bus_side b) w m.masked m.untraced
    m.registers m.fine m.begun in
    let steps : mid.steps ≡ m.turn.guest.machine.steps = ap (λ (x : Machine). x.steps) m.opened in
    let devices : (machine_on mid now).world.devices ≡ b.machine.world.devices = ap (λ (x : World). x.devices) world in
    same_guested (guest_begun g.script (guested_on (unbegun mid m.turn) now)) (guested_on mid now)
    (ap (λ (i : ℕ). record (machine_on mid now) {
      world =
          record (machine_on mid now).world { devices = ticked (arrived (i + 1) g.script m.turn.guest.machine.world.devices) };
    }) steps
    ∙ ap (λ (d : DeviceState). record (machine_on mid now) { world = record (machine_on mid now).world { devices = d } }) (sym devices)) refl

seated_still : (class : Class) (n : ℕ) (seat : Seat) (next : List ℕ) → IsSeated seat next → IsSeated (refilled_seat class n seat) next
seated_still class n seat next s = record {
  aligned = s.aligned;
  whole = s.whole;
  behind = s.behind;
  inside = s.inside;
  area = s.area;
  maps = s.maps;
  tables = s.tables;
  truthful = s.truthful;
}

-- no abort arrives at it
pub midway_level : (g : Seat) (ram : List ℕ) (native : NativeState) (k n left : ℕ) (mid : Seat) (now : List ℕ) (counts : NativeState)
    → Midway g ram native k n left mid now counts → asked_of g.script (machine_on mid now) ≡ level_of mid.devices
midway_level g ram native k n left mid now counts m =
    let b = guest_begun g.script m.turn.guest in
    asked_devices g.script (mid.steps + 1) mid.devices (ap (λ (x : Machine). aborts (x.steps + 1) g.script) m.opened
    ∙ unaborted g.script (b.machine.steps + 1) b.machine.world.devices b.machine.cpu m.masked)

pub midway_takes : MidwayTakes
midway_takes g ram native k n mid now counts m none seat next later takes =
    let w = bus_side (guested_on mid now) in
    let from = unbegun mid m.turn in
    let t = turned_on from now [] 0 in
    let start = guested_on from now in
    let begins : guest_begun g.script start ≡ guested_on mid now = midway_begins g ram native k n n mid now counts m in
    let level = midway_level g ram native k n n mid now counts m in
    let class = class_at_first (level_of mid.devices) mid.cpu w in
    let state : mid.state ≡ m.turn.guest.machine.state = ap (λ (x : Machine). x.state) m.opened in
    let goes : takes_steps mid.state ≡ true = ap takes_steps state ∙ m.goes in
    let none_there : begun_again (guest_begun g.script start).machine.cpu (bus_side (guest_begun g.script start)) ≡ None =
    ap (λ (q : Guested). begun_again q.machine.cpu (bus_side q)) begins ∙ none in
    let (first, refills) = none_is_refilled g.script start none_there in
    let class_is : class_of_step g.script start ≡ class = first ∙ class_begins g.script start (guested_on mid now) begins
    ∙ ap (λ (l : ℕ). class_at_first l mid.cpu w) level in
    let stepped : Guested = guest_later (machine_on mid now) (run guest_bus (step_of (level_of mid.devices) mid.cpu) w) in
    let stepped_is : guest_stepped g.script start ≡ stepped =
    ap (λ (q : Guested). guest_later q.machine (guest_processed g.script q)) begins
    ∙ ap (λ (l : ℕ). guest_later (machine_on mid now) (run guest_bus (step_of l mid.cpu) w)) level in
    let one : turned_on seat next takes.marks takes.left_times ≡ by_class class 0 stepped t =
    takes.turned ∙ ap (λ (script : Entries). turn_of script 1 t) m.same.script ∙ going_turn g.script 0 t goes ∙ nothing_turned g.script (advanced g.script t)
    ∙ ap (λ (c : Class). by_class c (refills_of_step g.script start) (guest_stepped g.script start) t) class_is
    ∙ ap (λ (i : ℕ). by_class class i (guest_stepped g.script start) t) refills
    ∙ ap (λ (q : Guested). by_class class 0 q t) stepped_is in
    let guest : guested_on seat next ≡ stepped = ap (λ (x : Turned). x.guest) one in
    let tally : seat.tally ≡ tallied class mid.tally = ap (λ (x : Turned). x.tally) one ∙ no_refills class (tallied class mid.tally) in
    let marks : takes.marks ≡ marks_of class mid.cpu seat.cpu =
    ap (λ (x : Turned). x.marks) one ∙ ap (λ (q : Guested). marks_of class mid.cpu q.machine.cpu) (sym guest) in
    let aside = refills_aside class n seat.tally in
    midway_ends g ram native k n n mid now counts m (inr none) (refilled_seat class n seat) next later guest
    (ap (λ (x : Tally). with_refills class n x) tally)
    (record { script = takes.same.script; base = takes.same.base; size = takes.same.size; area = takes.same.area })
    (seated_still class n seat next takes.seated)
    (record { count = takes.within.count; below = takes.within.below; above = takes.within.above })
    (let e = takes.retired in let f = aside.1 in omega arith)
    (takes.trail ∙ ap (λ (l : List Plain). trail counts.trail l) marks)
    (let e = takes.exceptions in let f = ap (λ (x : Turned). x.exceptions) one in
    let z = again_more class n (midway_tried g ram native k n n mid now counts m) in omega (arith, e, f, z))

-- ---- one run within another

nothing_trailed : (t : ℕ) → trail t [] ≡ t
unfolding trail
nothing_trailed t = refl

pub midway_within : MidwayWithin
midway_within g ram native k n left mid now counts m seat next later more i =
    let b = guest_begun g.script m.turn.guest in
    let from = unbegun mid m.turn in
    let turn : i.turn ≡ turned_on from now [] 0 = i.taken ∙ nothing_turned from.script (turned_on from now [] 0) in
    let begins : guest_begun from.script i.turn.guest ≡ guested_on mid now =
    ap (λ (script : Entries). guest_begun script i.turn.guest) m.same.script ∙ ap (λ (t : Turned). guest_begun g.script t.guest) turn
    ∙ midway_begins g ram native k n left mid now counts m in
    let world : bus_side (guested_on seat next) ≡ bus_side (guested_on mid now) = i.begun ∙ ap bus_side begins in
    let tally : seat.tally ≡ mid.tally = i.tally ∙ ap (λ (t : Turned). t.tally) turn in
    let same : IsSame mid seat = record { script = i.same.script; base = i.same.base; size = i.same.size; area = i.same.area } in
    let within : OnlyWithin mid now next = record { count = i.within.count; below = i.within.below; above = i.within.above } in
    record {
      turn = m.turn;
      taken = m.taken;
      goes = m.goes;
      masked = m.masked;
      untraced = m.untraced;
      registers = m.registers;
      fine = m.fine;
      opened = i.opened ∙ ap (λ (q : Guested). record q.machine { world = (machine_on seat next).world }) begins
          ∙ ap (λ (x : Machine). record x { world = (machine_on seat next).world }) m.opened;
      begun = subst (λ (h : Guest). HasBegunAgain b.machine.cpu n (bus_side b) h) (sym world) m.begun;
      few = m.few;
      tally = tally ∙ m.tally;
      same = same_both g mid seat m.same same;
      seated = i.seated;
      within = within_both g mid ram now next m.same m.within within;
      retired = (let a = m.retired in let c = i.retired in omega arith);
      trail_is = i.trail_is ∙ ap (λ (t : Turned). trail counts.trail t.marks) turn ∙ nothing_trailed counts.trail ∙ m.trail_is;
      exceptions = (let a = m.exceptions in let c = i.exceptions in let z = ap (λ (t : Turned). t.exceptions) turn in omega (arith, a, c, z));
    }
