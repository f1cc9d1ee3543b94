-- What the monitor knows of a guest whose step has begun, where the board is to carry it out.
use Rattle.std.proofs.Common.{◌≡◌, ◌∙◌, ℕ, zero, suc, ◌+◌, ◌-◌, ◌^◌, ◌<◌, ◌≤◌, true, false, List, [], length, Some, None, refl, ap, sym, subst, arith}
use Rattle.mb_port.specs.Routine.{run}
use Rattle.mb_port.specs.declared.types.Space.{Space}
use Rattle.mb_instr.specs.declared.registers.Plain.{Plain}
use Rattle.mb_instr.specs.Registers.{plain_of}
use Rattle.mb_model.specs.declared.outcome.RunState.{RunState}
use Rattle.mb_model.specs.declared.outcome.RunState.TheVariants.{Running}
use Rattle.mb_walk.specs.Memory.{AreBytes}
use Rattle.mb_devices.specs.Devices.{DeviceState, IsNotDue, passed}
use Rattle.def_machine.specs.Machine.{arrived, takes_steps}
use Rattle.mb_board.specs.Fits.{FitsAlong}
use Rattle.mb_board.specs.State.{BoardState, ran_to}
use Rattle.def_runs.specs.declared.RunEnd.{RunEnd}
use Rattle.def_runs.specs.declared.RunEnd.TheVariants.{Counted, Exit, Gone}
use Rattle.def_runs.specs.Native.{NativeState, Ran}
use Rattle.def_guests.specs.declared.class.Class.{Class}
use Rattle.def_guests.specs.declared.class.Class.TheVariants as class
use Rattle.def_guests.specs.Bus.{guest_bus}
use Rattle.def_guests.specs.Turns.{tallied, bus_side}
use Rattle.def_guests.specs.Seats.{Seat, end_of, guested_on, turned_on, IsSame, IsSeated, Scene, Takes}
use Rattle.def_guests.proofs.TurnLaws.{going_turn}
use Rattle.law_turns.specs.Idle.{idle_seat}
use Rattle.law_turns.specs.Turn.{IsSetFor}
use Rattle.law_turns.specs.Taking.{IsLeft, retired_seat, settled, site_of}
use Rattle.law_turns.proofs.Registers.{same_space}
use Rattle.law_turns.proofs.Retire.{off_arrived, off_ticked}
use Rattle.vm_guest.specs.Memory.{OnlyBetween}
use Rattle.def_guests.specs.Classes.{assisted}
use Rattle.vm_guest.specs.Counting.{NoneDue}
use Rattle.vm_guest.specs.declared.rest.Rest.TheVariants.{Whole}
use Rattle.vm_guest.specs.Rests.{rest_in}
use Rattle.vm_guest.specs.Native.{run_on, start_on, HasFrame}
use Rattle.vm_guest.specs.Stops.{IsReady, IsStopped}
use Rattle.vm_guest.specs.Turns.{begun_seat, ended_at, scene, level_on}
use Rattle.vm_guest.proofs.Devices.{due_behind}
use Rattle.vm_guest.proofs.Runs.{MayRunOn, counted_native, counted_set, counted_takes, is_left, left_is, never_gone}
use Rattle.vm_guest.proofs.Seated.{begun_seated}
use Rattle.vm_guest.proofs.Stretches.{nothing_arrives}
use Rattle.vm_guest.proofs.Stops.{stopped_by}
use Rattle.vm_guest.proofs.Takings.{assisted_takes, idle_takes}
use Rattle.mb_frames.specs.declared.places.TheConstants.{LONGEST}

-- ---- a guest that begins a step

-- It runs: what it was before, of those that take steps, has no part in its next step.
abbrev pub awake : Seat → Seat
awake g = record g { state = Running }

pub awake_seated : (g : Seat) (ram : List ℕ) → IsSeated g ram → IsSeated (awake g) ram
awake_seated g ram s = record {
  aligned = s.aligned;
  whole = s.whole;
  behind = s.behind;
  inside = s.inside;
  area = s.area;
  maps = s.maps;
  tables = s.tables;
  truthful = record { reads = s.truthful.reads; writes = s.truthful.writes; inside = s.truthful.inside };
}

pub awake_takes : (g : Seat) (ram : List ℕ) (native : NativeState) (k : ℕ) (t : Scene) → 0 < k → takes_steps g.state ≡ true
    → Takes k (scene (awake g) ram native) t → Takes k (scene g ram native) t
awake_takes g ram native zero t some goes takes = absurd (let z : ⊥ = omega arith in z)
awake_takes g ram native (suc n) t some goes takes = record {
  marks = takes.marks;
  left_times = takes.left_times;
  turned = takes.turned ∙ going_turn g.script n (turned_on (awake g) ram [] 0) refl ∙ sym (going_turn g.script n (turned_on g ram [] 0) goes);
  same = record { script = takes.same.script; base = takes.same.base; size = takes.same.size; area = takes.same.area };
  seated = takes.seated;
  within = record { count = takes.within.count; below = takes.within.below; above = takes.within.above };
  retired = takes.retired;
  trail = takes.trail;
  exceptions = takes.exceptions;
}

-- its beginning switches nothing off
off_begun : (g : Seat) → (begun_seat g).devices.off ≡ g.devices.off
off_begun g = off_ticked (arrived (g.steps + 1) g.script g.devices) ∙ off_arrived (g.steps + 1) g.script g.devices

-- of the guest in the middle of its step
pub record Found (b : Seat) (board : BoardState) (native : NativeState) (n : ℕ) : Type 0 where
  pub tried : assisted (level_on b) b.cpu ≡ None
  pub none : NoneDue b.script b.steps n
  pub due : IsNotDue n b.devices
  pub on : 0 < n → b.devices.off ≡ false
  pub seven : length b.cpu.regs.a ≡ 7
  pub set : IsSetFor (site_of b) board.world
  pub bytes : AreBytes board.world.ram
  pub small : length board.world.ram ≤ 2 ^ 32
  pub fit : FitsAlong (suc n) (start_on b board native)

pub may_run : (g : Seat) (board : BoardState) (native : NativeState) (n : ℕ) → IsSeated g board.world.ram → g.state ≡ Running
    → Found (begun_seat g) board native n → MayRunOn g board native n
may_run g board native n seated running h = record {
  seated = seated;
  set = h.set;
  bytes = h.bytes;
  small = h.small;
  running = running;
  on = λ some. sym (off_begun g) ∙ h.on some;
  seven = h.seven;
  tried = h.tried;
  arrives = nothing_arrives g.script (g.steps + 1) n h.none;
  due = h.due;
  fit = h.fit;
}

-- as code asks for it: `w` is that guest, too
pub asked_is : (b w : Seat) (level : ℕ) → w ≡ b → level ≡ level_on b → assisted (level_on b) b.cpu ≡ assisted level w.cpu
asked_is b w level view is =
    ap (λ (k : ℕ). assisted k b.cpu) (sym is) ∙ sym (ap (λ (x : Seat). assisted level x.cpu) view)

pub found_by : (b w : Seat) (board : BoardState) (native : NativeState) (n level : ℕ) → w ≡ b → level ≡ level_on b
    → assisted level w.cpu ≡ None → NoneDue w.script w.steps n → IsNotDue n w.devices → (0 < n → w.devices.off ≡ false)
    → length b.cpu.regs.a ≡ 7 → IsSetFor (site_of b) board.world → AreBytes board.world.ram
    → length board.world.ram ≤ 2 ^ 32 → FitsAlong (n + 1) (start_on b board native) → Found b board native n
found_by b w board native n level view is tried none due on seven set bytes small fit = record {
  tried = asked_is b w level view is ∙ tried;
  none = subst (λ (x : Seat). NoneDue x.script x.steps n) view none;
  due = subst (λ (x : Seat). IsNotDue n x.devices) view due;
  on = λ some. sym (ap (λ (x : Seat). x.devices.off) view) ∙ on some;
  seven = seven;
  set = set;
  bytes = bytes;
  small = small;
  fit = subst (λ (k : ℕ). FitsAlong k (start_on b board native)) (let e : n + 1 ≡ suc n = omega arith in e) fit;
}

pub may_by : (g b : Seat) (board : BoardState) (native : NativeState) (n : ℕ) → b ≡ begun_seat g → IsSeated g board.world.ram
    → g.state ≡ Running → Found b board native n → MayRunOn g board native n
may_by g b board native n is seated running found =
    may_run g board native n seated running (subst (λ (s : Seat). Found s board native n) is found)

-- it stands as before
pub stands : (g b : Seat) (ram : List ℕ) → b ≡ begun_seat g → IsSeated g ram → IsSeated b ram
stands g b ram is seated =
    let begun : Seat = record g { devices = (begun_seat g).devices; steps = g.steps + 1 } in
    subst (λ (s : Seat). IsSeated s ram) (sym is) (awake_seated begun ram (begun_seated g ram begun.devices begun.steps seated))

-- ---- a step in which the board has no part

-- what the monitor has done of it
pub record Assists (b h : Seat) (ram next : List ℕ) (c : Class) : Type 0 where
  pub class : assisted (level_on b) b.cpu ≡ Some c
  pub means : guested_on h next ≡ ended_at b.steps (run guest_bus (rest_in Whole (level_on b) b.cpu) (bus_side (guested_on b ram)))
  pub tally : h.tally ≡ tallied c b.tally
  pub same : IsSame b h
  pub within : OnlyBetween b.base (end_of b) ram next

pub assisted_by : (g b h : Seat) (ram next : List ℕ) (native : NativeState) (c : Class) → b ≡ begun_seat g → takes_steps g.state ≡ true
    → Assists b h ram next c → IsSeated g ram → IsSeated h next → Takes 1 (scene g ram native) (scene h next native)
assisted_by g b h ram next native c is goes has seated after =
    let d = subst (λ (s : Seat). Assists s h ram next c) is has in
    let same : IsSame g h = record { script = d.same.script; base = d.same.base; size = d.same.size; area = d.same.area } in
    assisted_takes g h ram next native c goes d.class d.means d.tally same seated after d.within

-- ---- idle steps

-- of the guest in the first of them
pub record Idles (b : Seat) (n : ℕ) : Type 0 where
  pub tried : assisted (level_on b) b.cpu ≡ Some class.Idle
  pub none : NoneDue b.script b.steps n
  pub due : IsNotDue n b.devices
  pub on : 0 < n → b.devices.off ≡ false

pub idles_by : (b w : Seat) (n level : ℕ) → w ≡ b → level ≡ level_on b → assisted level w.cpu ≡ Some class.Idle
    → NoneDue w.script w.steps n → IsNotDue n w.devices → (0 < n → w.devices.off ≡ false) → Idles b n
idles_by b w n level view is tried none due on = record {
  tried = asked_is b w level view is ∙ tried;
  none = subst (λ (x : Seat). NoneDue x.script x.steps n) view none;
  due = subst (λ (x : Seat). IsNotDue n x.devices) view due;
  on = λ some. sym (ap (λ (x : Seat). x.devices.off) view) ∙ on some;
}

pub idle_by : (g b h : Seat) (ram : List ℕ) (native : NativeState) (n : ℕ) → b ≡ begun_seat g → IsSeated g ram
    → takes_steps g.state ≡ true → Idles b n → h ≡ idle_seat b n (n + 1) (passed n b.devices) → Takes (n + 1) (scene g ram native) (scene h ram native)
idle_by g b h ram native n is seated takes idles goes =
    let d = subst (λ (s : Seat). Idles s n) is idles in
    subst (λ (s : Seat). Takes (n + 1) (scene g ram native) (scene s ram native))
    (sym (goes ∙ ap (λ (s : Seat). idle_seat s n (n + 1) (passed n s.devices)) is))
    (idle_takes g ram native n seated takes (λ some. sym (off_begun g) ∙ d.on some) d.tried (nothing_arrives g.script (g.steps + 1) n d.none) d.due)

-- ---- steps that the board has carried out

pub counted_by : (g b h : Seat) (board : BoardState) (native : NativeState) (n : ℕ) (u : Ran) (p : Plain) → b ≡ begun_seat g
    → MayRunOn g board native n → u ≡ run_on b board native (suc n) → u.end ≡ Counted → length u.machine.cpu.regs.a ≡ 7
    → p ≡ plain_of u.machine.cpu.regs → h ≡ settled (retired_seat b n (suc n) p (passed n b.devices))
    → Takes (suc n) (scene g board.world.ram native) (scene h u.machine.world.ram u.native)
counted_by g b h board native n u p is may ran end wide plain goes =
    subst (λ (s : Seat). Takes (suc n) (scene g board.world.ram native) (scene s u.machine.world.ram u.native))
    (sym (goes ∙ ap (λ (s : Seat). settled (retired_seat s n (suc n) p (passed n s.devices))) is))
    (counted_takes g board native n may u (ran ∙ ap (λ (s : Seat). run_on s board native (suc n)) is) end wide p plain)

-- and the board still stands for the guest
pub counted_ready_by : (g b h : Seat) (board : BoardState) (native : NativeState) (n : ℕ) (e : RunEnd) (after : BoardState) (counts : NativeState)
    (p : Plain) → b ≡ begun_seat g → MayRunOn g board native n → ran_to e after counts ≡ run_on b board native (suc n) → e ≡ Counted
    → takes_steps after.state ≡ true → h ≡ settled (retired_seat b n (suc n) p (passed n b.devices)) → IsReady h after
counted_ready_by g b h board native n e after counts p is may ran end goes back =
    let set = counted_set g board native n may (ran_to e after counts) (ran ∙ ap (λ (s : Seat). run_on s board native (suc n)) is) end in
    let x = site_of g in
    let seat : h ≡ settled (retired_seat (begun_seat g) n (suc n) p (passed n (begun_seat g).devices)) =
    back ∙ ap (λ (s : Seat). settled (retired_seat s n (suc n) p (passed n s.devices))) is in
    subst (λ (s : Seat). IsReady s after) (sym seat)
    (record { set = subst (λ (space : Space). IsSetFor (record x { space = space }) after.world) (sym (same_space p g.cpu)) set; goes = goes })

-- ---- what boards count

pub counted_native_by : (g b : Seat) (board : BoardState) (native : NativeState) (n : ℕ) (u : Ran)
    → b ≡ begun_seat g → MayRunOn g board native n
    → u ≡ run_on b board native (suc n) → u.end ≡ Counted
    → (u.native.retired ≡ native.retired + suc n) × (u.native.exceptions ≡ native.exceptions)
counted_native_by g b board native n u is may ran end =
    counted_native g board native n may u (ran ∙ ap (λ (s : Seat). run_on s board native (suc n)) is) end

-- ---- a step that the board left

-- behind so many retired steps
pub record Leaving (native : NativeState) (n : ℕ) (after : BoardState) (counts : NativeState) (r : ℕ) : Type 0 where
  pub few : r ≤ n
  pub retired : counts.retired ≡ native.retired + r
  pub exceptions : counts.exceptions ≡ native.exceptions + 1
  pub frame : HasFrame after

left_by_run : (g b : Seat) (board : BoardState) (native : NativeState) (n : ℕ) (e : RunEnd) (after : BoardState)
    (counts : NativeState) (v : ℕ) → b ≡ begun_seat g → MayRunOn g board native n
    → ran_to e after counts ≡ run_on b board native (suc n) → e ≡ Exit v
    → length after.cpu.regs.a ≡ 7 → IsLeft g board.world.ram native (suc n) (ran_to e after counts)
left_by_run g b board native n e after counts v is may ran end wide =
    is_left g board native n may (ran_to e after counts) v (ran ∙ ap (λ (s : Seat). run_on s board native (suc n)) is) end wide

pub leaving : (g b : Seat) (board : BoardState) (native : NativeState) (n : ℕ) (e : RunEnd) (after : BoardState)
    (counts : NativeState) (v r : ℕ) → b ≡ begun_seat g → MayRunOn g board native n
    → ran_to e after counts ≡ run_on b board native (suc n) → e ≡ Exit v
    → length after.cpu.regs.a ≡ 7 → r ≡ counts.retired - native.retired → Leaving native n after counts r
leaving g b board native n e after counts v r is may ran end wide fewer =
    let left = left_by_run g b board native n e after counts v is may ran end wide in
    let few = left.few in
    let count = left.counts in
    record {
      few = omega arith;
      retired = omega arith;
      exceptions = left.exceptions;
      frame = record { room = left.room; frame = left.frame; stands = left.read_back LONGEST (omega arith); lawful = left.lawful };
    }

-- the guest in the middle of that step
stops_begun : (g : Seat) (board : BoardState) (native : NativeState) (n : ℕ) (may : MayRunOn g board native n)
    (e : RunEnd) (after : BoardState) (counts : NativeState) (v : ℕ) (left : IsLeft g board.world.ram native (suc n) (ran_to e after counts)) → e ≡ Exit v
    → let b = begun_seat g in
    IsStopped g board.world.ram native left.retired 0 (retired_seat b left.retired left.retired after.before (passed left.retired b.devices)) after counts v
stops_begun g board native n may e after counts v left ends =
    let r = left.retired in
    let few : r ≤ n = (let less = left.few in omega arith) in
    let began = arrived (g.steps + 1) g.script g.devices in
    let s = retired_seat (begun_seat g) r r after.before (passed r (begun_seat g).devices) in
    let of : DeviceState → ℕ → Seat = λ d i. record s { devices = d; steps = i } in
    let begins = left_is g board native n may (ran_to e after counts) left in
    let steps : g.steps + r ≡ g.steps + 1 + r - 1 = omega arith in
    stopped_by g board.world.ram native (suc n) e after counts v left ends s (record {
      begun = (let z : 0 < g.steps + 1 + r = omega arith in z);
      running = refl;
      due = due_behind n r (begun_seat g).devices few may.due;
    }) (ap (λ (x : RunState). (let o : Seat = record s { devices = left.begun; steps = g.steps + r; state = x } in o)) may.running
    ∙ ap (λ (d : DeviceState). of d (g.steps + r)) begins ∙ ap (λ (i : ℕ). of s.devices i) steps)

pub stops : (g b s : Seat) (board : BoardState) (native : NativeState) (n : ℕ) (e : RunEnd) (after : BoardState)
    (counts : NativeState) (v r : ℕ) → b ≡ begun_seat g → MayRunOn g board native n
    → ran_to e after counts ≡ run_on b board native (suc n) → e ≡ Exit v
    → length after.cpu.regs.a ≡ 7 → r ≡ counts.retired - native.retired → s ≡ retired_seat b r r after.before (passed r b.devices)
    → IsStopped g board.world.ram native r 0 s after counts v
stops g b s board native n e after counts v r is may ran end wide fewer goes =
    let left = left_by_run g b board native n e after counts v is may ran end wide in
    let same : left.retired ≡ r = (let c = left.counts in omega arith) in
    let seat : retired_seat (begun_seat g) r r after.before (passed r (begun_seat g).devices) ≡ s =
    ap (λ (x : Seat). retired_seat x r r after.before (passed r x.devices)) (sym is) ∙ sym goes in
    subst (λ (x : Seat). IsStopped g board.world.ram native r 0 x after counts v) seat
    (subst (λ (k : ℕ). IsStopped g board.world.ram native k 0 (retired_seat (begun_seat g) k k after.before (passed k (begun_seat g).devices)) after
    counts v) same
    (stops_begun g board native n may e after counts v left end))

pub never_gone_by : (g b : Seat) (board : BoardState) (native : NativeState) (n : ℕ) (u : Ran)
    → b ≡ begun_seat g → MayRunOn g board native n
    → u ≡ run_on b board native (suc n) → u.end ≡ Gone → ⊥
never_gone_by g b board native n u is may ran gone =
    never_gone g board native n may u (ran ∙ ap (λ (s : Seat). run_on s board native (suc n)) is) gone
