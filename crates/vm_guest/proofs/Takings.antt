-- What each way in which a guest goes on has taken of its turn.
use Rattle.std.proofs.Common.{◌≡◌, ◌∙◌, ℕ, suc, ◌+◌, ◌<◌, Bool, true, false, cond, nat_lt, List, [], Some, None, refl, ap, sym, subst, arith}
use Rattle.mb_port.specs.Routine.{run}
use Rattle.mb_model.specs.declared.processor.Cpu.{Cpu}
use Rattle.mb_devices.specs.Devices.{passed, IsNotDue}
use Rattle.def_processor.specs.Step.{interrupt_mask, step_of, rank}
use Rattle.def_machine.specs.Machine.{Entries, going, takes_steps}
use Rattle.def_runs.specs.Batches.{NothingArrives}
use Rattle.def_runs.specs.Marks.{trail}
use Rattle.def_runs.specs.Native.{NativeState}
use Rattle.def_guests.specs.declared.class.Class.{Class}
use Rattle.def_guests.specs.declared.class.Class.TheVariants.{Entered, Idle, Traced}
use Rattle.def_guests.specs.Bus.{guest_bus}
use Rattle.def_guests.specs.Classes.{is_traced}
use Rattle.def_guests.specs.Turns.{Guested, Tally, Turned, bus_side, guest_stepped, refills_of_step, tallied, with_refills, exceptions_of, marks_of, by_class}
use Rattle.def_guests.specs.Turns.{advanced}
use Rattle.def_guests.specs.Turns.{turn_of}
use Rattle.def_guests.specs.Seats.{Seat, end_of, guested_on, turned_on, IsSame, IsSeated, Takes}
use Rattle.def_guests.proofs.TurnLaws.{going_turn, nothing_turned}
use Rattle.law_turns.specs.Idle.{IsIdle, idle_seat}
use Rattle.law_turns.proofs.Idle.{idle_steps_take}
use Rattle.law_turns.proofs.Taking.{same_turned}
use Rattle.vm_guest.specs.Memory.{OnlyBetween}
use Rattle.def_guests.specs.Classes.{assisted}
use Rattle.vm_guest.specs.Turns.{begun_seat, ended_at, scene, level_on}
use Rattle.vm_guest.proofs.Assisted.{inner, class_begun, idle_assisted}
use Rattle.vm_guest.proofs.Seated.{only_within}

-- ---- a step in which the board has no part

-- such a class: no board counts its steps, and they have no marks
record Aside (c : Class) : Type 0 where
  pub marks : (before after : Cpu) → marks_of c before after ≡ []
  pub retired : (t : Tally) → (tallied c t).retired ≡ t.retired
  pub exceptions : (n : ℕ) → exceptions_of c n ≡ 0
  pub refills : (n : ℕ) (t : Tally) → with_refills c n t ≡ t

aside_by : (a b t : Bool) (c : Class) → cond a (Some Entered) (cond b (Some Idle) (cond t (Some Traced) None)) ≡ Some c → Aside c
aside_by true b t c h = subst Aside (inner Entered c h) (record { marks = λ x y. refl; retired = λ x. refl; exceptions = λ n. refl; refills = λ n x. refl })
aside_by false true t c h = subst Aside (inner Idle c h) (record { marks = λ x y. refl; retired = λ x. refl; exceptions = λ n. refl; refills = λ n x. refl })
aside_by false false true c h =
    subst Aside (inner Traced c h) (record { marks = λ x y. refl; retired = λ x. refl; exceptions = λ n. refl; refills = λ n x. refl })
aside_by false false false c h = absurd (let z : ⊥ = cc in z)

aside : (level : ℕ) (cpu : Cpu) (c : Class) → assisted level cpu ≡ Some c → Aside c
aside level cpu c h = aside_by (nat_lt (interrupt_mask cpu) (rank level)) cpu.stopped (is_traced cpu) c h

stepped_is : (g : Seat) (ram : List ℕ) → let b = begun_seat g in
    ended_at b.steps (run guest_bus (step_of (level_on b) b.cpu) (bus_side (guested_on b ram))) ≡ guest_stepped g.script (guested_on g ram)
stepped_is g ram = refl

one_step : (script : Entries) (t : Turned) (c : Class) (n : ℕ) (after : Guested) → takes_steps t.guest.machine.state ≡ true
    → by_class c n after t ≡ advanced script t → by_class c n after t ≡ turn_of script 1 t
one_step script t c n after goes is = is ∙ sym (nothing_turned script (advanced script t)) ∙ sym (going_turn script 0 t goes)

advanced_is : (g : Seat) (ram : List ℕ) (c : Class) → assisted (level_on (begun_seat g)) g.cpu ≡ Some c → let t = turned_on g ram [] 0 in
    by_class c (refills_of_step g.script (guested_on g ram)) (guest_stepped g.script (guested_on g ram)) t ≡ advanced g.script t
advanced_is g ram c h =
    ap (λ (k : Class). by_class k (refills_of_step g.script (guested_on g ram)) (guest_stepped g.script (guested_on g ram)) (turned_on g ram [] 0))
    (sym (class_begun g ram c h))

pub assisted_takes : (g h : Seat) (ram next : List ℕ) (native : NativeState) (c : Class) → takes_steps g.state ≡ true → let b = begun_seat g in
    assisted (level_on b) g.cpu ≡ Some c
    → guested_on h next ≡ ended_at b.steps (run guest_bus (step_of (level_on b) b.cpu) (bus_side (guested_on b ram)))
    → h.tally ≡ tallied c g.tally → IsSame g h → IsSeated g ram → IsSeated h next → OnlyBetween g.base (end_of g) ram next
    → Takes 1 (scene g ram native) (scene h next native)
unfolding trail
assisted_takes g h ram next native c goes class means tally same seated after within =
    let t = turned_on g ram [] 0 in
    let so = aside (level_on (begun_seat g)) g.cpu c class in
    let refills = refills_of_step g.script (guested_on g ram) in
    let guest : guested_on h next ≡ guest_stepped g.script (guested_on g ram) = means ∙ stepped_is g ram in
    record {
      marks = [];
      left_times = 0;
      turned =
          same_turned (turned_on h next [] 0) (by_class c refills (guest_stepped g.script (guested_on g ram)) t) guest
          (tally ∙ sym (so.refills refills (tallied c g.tally)))
          (sym (so.marks g.cpu (guest_stepped g.script (guested_on g ram)).machine.cpu))
          (let e = so.exceptions refills in omega arith)
          ∙ one_step g.script t c refills (guest_stepped g.script (guested_on g ram)) goes (advanced_is g ram c class);
      same = same;
      seated = after;
      within = only_within g ram next seated.behind within;
      retired = (let e = ap (λ (n : Tally). n.retired) tally ∙ so.retired g.tally in omega arith);
      trail = refl;
      exceptions = omega arith;
    }

-- ---- idle steps

pub idle_takes : (g : Seat) (ram : List ℕ) (native : NativeState) (n : ℕ) → IsSeated g ram → takes_steps g.state ≡ true → (0 < n → g.devices.off ≡ false)
    → assisted (level_on (begun_seat g)) g.cpu ≡ Some Idle → NothingArrives g.script (g.steps + 1) n → IsNotDue n (begun_seat g).devices
    → Takes (n + 1) (scene g ram native) (scene (idle_seat (begun_seat g) n (n + 1) (passed n (begun_seat g).devices)) ram native)
idle_takes g ram native n seated takes on tried quiet due =
    let is = idle_assisted (level_on (begun_seat g)) g.cpu tried in
    let d = passed n (begun_seat g).devices in
    let idle : IsIdle g.script (guested_on g ram) = record { goes = takes; stopped = is.stopped; masked = is.masked } in
    let of : (steps idle : ℕ) → Seat =
    λ k i. record g { devices = d; steps = k; state = going g.cpu d; tally = record g.tally { idle = i } } in
    let steps : g.steps + suc n ≡ g.steps + 1 + n = omega arith in
    let tallied : g.tally.idle + suc n ≡ g.tally.idle + (n + 1) = omega arith in
    let same : idle_seat g (suc n) (suc n) d ≡ idle_seat (begun_seat g) n (n + 1) d =
    ap (λ (k : ℕ). of k (g.tally.idle + suc n)) steps ∙ ap (of (g.steps + 1 + n)) tallied in
    subst (λ (k : ℕ). Takes k (scene g ram native) (scene (idle_seat (begun_seat g) n (n + 1) d) ram native)) (let e : suc n ≡ n + 1 = omega arith in e)
    (subst (λ (s : Seat). Takes (suc n) (scene g ram native) (scene s ram native)) same (idle_steps_take g ram native n seated idle on quiet due))
