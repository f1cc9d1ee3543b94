-- Idle steps of a guest, one and many.
use Rattle.std.proofs.Common.{◌≡◌, ◌∙◌, ℕ, zero, suc, ◌+◌, ◌<◌, ◌≤◌, Bool, true, false, cond, nat_lt, List, [], refl, ap, sym, subst, arith}
use Rattle.std.specs.Prelude.{Option, Some, None, unwrap_or}
use Rattle.std.proofs.lemmas.List.{append-nil}
use Rattle.mb_port.specs.Routine.{Routine, Return, choose, run}
use Rattle.mb_instr.specs.declared.registers.Plain.{Plain}
use Rattle.mb_model.specs.declared.processor.Cpu.{Cpu}
use Rattle.mb_model.specs.declared.outcome.RunState.TheVariants.{Running, Stopped, Off}
use Rattle.mb_devices.specs.Devices.{DeviceState, ticked, ticks, level_of, IsNotDue}
use Rattle.mb_devices.proofs.Passing.{ticks_pass}
use Rattle.def_processor.specs.declared.Finish.TheVariants as finish
use Rattle.def_processor.specs.Raise.{Stepped, interrupt_of}
use Rattle.def_processor.specs.Step.{interrupt_mask, execute_next_of, step_of, rank}
use Rattle.def_machine.specs.Machine.{Entries, arrived, going, takes_steps, asked, asked_of}
use Rattle.def_machine.proofs.Asked.{asked_devices, asked_masked}
use Rattle.def_runs.specs.Batches.{NothingArrives}
use Rattle.def_runs.specs.Marks.{trail}
use Rattle.def_runs.proofs.Batches.{one_tick}
use Rattle.def_guests.specs.declared.class.Class.{Class}
use Rattle.def_guests.specs.declared.class.Class.TheVariants as class
use Rattle.def_guests.specs.Guests.{Guest}
use Rattle.def_guests.specs.Bus.{guest_bus}
use Rattle.def_guests.specs.Classes.{class_of, class_of_attempt, is_traced}
use Rattle.def_guests.specs.Refills.{refilled}
use Rattle.def_guests.specs.Turns.{Guested, Turned, bus_side, guest_begun, guest_later, guest_stepped, class_of_step, refills_of_step}
use Rattle.def_guests.specs.Turns.{by_class, advanced, turn_of}
use Rattle.def_guests.specs.Seats.{Seat, turned_on, IsSeated}
use Rattle.def_guests.proofs.TurnLaws.{going_turn, nothing_turned}
use Rattle.law_turns.specs.Idle.{IsIdle, idle_guest, idle_turned, idle_seat, QuietStepsAreIdle, IdleStepsTake}
use Rattle.law_turns.proofs.Retire.{not_above, off_arrived, off_ticked}
use Rattle.law_turns.proofs.Quiet.{first_of, one_of, only_ticks, rest_of}

-- ---- one

-- the second of three by two tests
second : {A : Type 0} (a b : Bool) (x y z : A) → a ≡ false → b ≡ true → cond a x (cond b y z) ≡ y
second a b x y z e f = rw e (rw f refl)

chosen : (a b : Bool) (x y z : Routine Stepped) → a ≡ false → b ≡ true → choose a x (choose b y z) ≡ y
chosen a b x y z e f = rw e (rw f refl)

is_idle : (level : ℕ) (cpu : Cpu) (g : Guest) → rank level ≤ interrupt_mask cpu → cpu.stopped ≡ true → class_of level cpu g ≡ class.Idle
is_idle level cpu g masked stopped =
    ap (λ (o : Option Class). unwrap_or o (class_of_attempt cpu (refilled cpu g).guest))
    (second (nat_lt (interrupt_mask cpu) (rank level)) cpu.stopped (Some class.Entered) (Some class.Idle) (cond (is_traced cpu) (Some class.Traced) None)
    (not_above (interrupt_mask cpu) (rank level) masked) stopped)

-- the processor has nothing to do
idles : (level : ℕ) (cpu : Cpu) → rank level ≤ interrupt_mask cpu → cpu.stopped ≡ true → step_of level cpu ≡ Return (finish.Idle, cpu)
idles level cpu masked stopped =
    chosen (nat_lt (interrupt_mask cpu) (rank level)) cpu.stopped (interrupt_of level cpu) (Return (finish.Idle, cpu)) (execute_next_of cpu)
    (not_above (interrupt_mask cpu) (rank level) masked) stopped

stays_stopped : (cpu : Cpu) (d : DeviceState) → d.off ≡ false → cpu.stopped ≡ true → going cpu d ≡ Stopped
stays_stopped cpu d on stopped = second d.off cpu.stopped Off Stopped Running on stopped

-- a step that begins switches nothing off
begins_on : (script : Entries) (g : Guested) → g.machine.world.devices.off ≡ false → (guest_begun script g).machine.world.devices.off ≡ false
begins_on script g on =
    let d = g.machine.world.devices in
    off_ticked (arrived (g.machine.steps + 1) script d) ∙ off_arrived (g.machine.steps + 1) script d ∙ on

class_is : (script : Entries) (g : Guested) → IsIdle script g → class_of_step script g ≡ class.Idle
class_is script g idle =
    let b = guest_begun script g in
    is_idle (asked_of script b.machine) g.machine.cpu (bus_side b) idle.masked idle.stopped

stepped_is : (script : Entries) (g : Guested) → IsIdle script g
    → guest_stepped script g ≡ idle_guest 1 (guest_begun script g).machine.world.devices g
stepped_is script g idle =
    let b = guest_begun script g in
    ap (λ (m : Routine Stepped). guest_later b.machine (run guest_bus m (bus_side b)))
    (idles (asked_of script b.machine) g.machine.cpu idle.masked idle.stopped)

advanced_is : (script : Entries) (t : Turned) → IsIdle script t.guest
    → advanced script t ≡ idle_turned 1 (guest_begun script t.guest).machine.world.devices t
advanced_is script t idle =
    let d = (guest_begun script t.guest).machine.world.devices in
    let of : List Plain → ℕ → Turned = λ marks exceptions. record {
      guest = idle_guest 1 d t.guest;
      tally = record t.tally { idle = t.tally.idle + 1 };
      marks = marks;
      exceptions = exceptions;
    } in
    let refills = refills_of_step script t.guest in
    ap (λ (c : Class). by_class c refills (guest_stepped script t.guest) t) (class_is script t.guest idle)
    ∙ ap (λ (q : Guested). by_class class.Idle refills q t) (stepped_is script t.guest idle)
    ∙ ap (λ (marks : List Plain). of marks (t.exceptions + 0)) (append-nil t.marks)
    ∙ ap (of t.marks) (let none : t.exceptions + 0 ≡ t.exceptions = omega arith in none)

-- ---- many

-- the devices at the beginning of the step behind it
begins_next : (script : Entries) (n : ℕ) (t : Turned) → NothingArrives script (t.guest.machine.steps + 1) (suc n)
    → let d = (guest_begun script t.guest).machine.world.devices in
    (guest_begun script (idle_guest 1 d t.guest)).machine.world.devices ≡ ticked d
begins_next script n t quiet =
    let d = (guest_begun script t.guest).machine.world.devices in
    only_ticks script (idle_guest 1 d t.guest) (first_of script (t.guest.machine.steps + 1) n quiet).devices

-- that is idle too
idle_next : (script : Entries) (n : ℕ) (t : Turned) → IsIdle script t.guest → NothingArrives script (t.guest.machine.steps + 1) (suc n)
    → t.guest.machine.world.devices.off ≡ false
    → let d = (guest_begun script t.guest).machine.world.devices in IsNotDue (suc n) d → IsIdle script (idle_guest 1 d t.guest)
idle_next script n t idle quiet on due =
    let d = (guest_begun script t.guest).machine.world.devices in
    let u = idle_guest 1 d t.guest in
    let once = ticks_pass 1 d (one_of n d due) in
    let s = t.guest.machine.steps in
    let next = (guest_begun script u).machine.world.devices in
    let level : asked script (s + 1 + 1) next ≡ asked script (s + 1) d =
    asked_devices script (s + 1 + 1) next (first_of script (s + 1) n quiet).unaborted
    ∙ ap level_of (begins_next script n t quiet) ∙ ap level_of once.at_once ∙ once.level
    ∙ sym (asked_masked script (s + 1) d t.guest.machine.cpu idle.masked) in
    record {
      goes = ap takes_steps (stays_stopped t.guest.machine.cpu d (begins_on script t.guest on) idle.stopped);
      stopped = idle.stopped;
      masked = subst (λ (k : ℕ). rank k ≤ interrupt_mask t.guest.machine.cpu) (sym level) idle.masked;
    }

idle_ticks : (script : Entries) (n : ℕ) (t : Turned) → IsIdle script t.guest → (0 < n → t.guest.machine.world.devices.off ≡ false)
    → NothingArrives script (t.guest.machine.steps + 1) n
    → let d = (guest_begun script t.guest).machine.world.devices in IsNotDue n d → turn_of script (suc n) t ≡ idle_turned (suc n) (ticks n d) t
idle_ticks script zero t idle on quiet due =
    going_turn script 0 t idle.goes ∙ nothing_turned script (advanced script t) ∙ advanced_is script t idle
idle_ticks script (suc n) t idle on quiet due =
    let d = (guest_begun script t.guest).machine.world.devices in
    let s = t.guest.machine.steps in
    let u = idle_turned 1 d t in
    let next = begins_next script n t quiet in
    let of : (steps idle : ℕ) → Turned = λ k i. record t {
      guest = record t.guest {
        machine = record t.guest.machine {
          world = record t.guest.machine.world { devices = ticks (suc n) d };
          steps = k;
          state = going t.guest.machine.cpu (ticks (suc n) d);
        };
      };
      tally = record t.tally { idle = i };
    } in
    let more : (k : ℕ) → k + 1 + suc n ≡ k + suc (suc n) = λ k. omega arith in
    going_turn script (suc n) t idle.goes ∙ ap (turn_of script (suc n)) (advanced_is script t idle)
    ∙ idle_ticks script n u (idle_next script n t idle quiet (on (omega arith)) due) (λ some. begins_on script t.guest (on (omega arith)))
    (rest_of script (s + 1) n quiet)
    (subst (λ (o : DeviceState). IsNotDue n o) (sym next) (one_tick d n due))
    ∙ ap (λ (o : DeviceState). idle_turned (suc n) (ticks n o) u) next
    ∙ ap (λ (k : ℕ). of k (t.tally.idle + 1 + suc n)) (more s) ∙ ap (of (s + suc (suc n))) (more t.tally.idle)

pub quiet_steps_are_idle : QuietStepsAreIdle
quiet_steps_are_idle script n t idle on quiet due =
    idle_ticks script n t idle on quiet due
    ∙ ap (λ (o : DeviceState). idle_turned (suc n) o t) (ticks_pass n (guest_begun script t.guest).machine.world.devices due).at_once

-- ---- of a seated guest

seated_still : (g : Seat) (ram : List ℕ) (k : ℕ) (d : DeviceState) → IsSeated g ram → IsSeated (idle_seat g k k d) ram
seated_still g ram k d s = record {
  aligned = s.aligned;
  whole = s.whole;
  behind = s.behind;
  inside = s.inside;
  area = s.area;
  maps = s.maps;
  tables = s.tables;
  truthful = record { reads = s.truthful.reads; writes = s.truthful.writes; inside = s.truthful.inside };
}

pub idle_steps_take : IdleStepsTake
unfolding trail
idle_steps_take g ram native n seated idle on quiet due = record {
  marks = [];
  left_times = 0;
  turned = sym (quiet_steps_are_idle g.script n (turned_on g ram [] 0) idle on quiet due);
  same = record { script = refl; base = refl; size = refl; area = refl };
  seated = seated_still g ram (suc n) _ seated;
  within = record { count = refl; below = refl; above = refl };
  retired = refl;
  trail = refl;
  exceptions = omega arith;
}
