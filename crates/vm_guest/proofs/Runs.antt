-- What a run of the board has taken of a guest's turn.
use Rattle.std.proofs.Common.{◌≡◌, ◌∙◌, ℕ, zero, suc, ◌+◌, ◌^◌, ◌<◌, ◌≤◌, false, List, [], length, None, refl, ap, sym, subst, arith, inl, inr}
use Rattle.mb_instr.specs.declared.registers.Plain.{Plain}
use Rattle.mb_instr.specs.Registers.{plain_of}
use Rattle.mb_model.specs.declared.outcome.RunState.TheVariants.{Running}
use Rattle.mb_walk.specs.Memory.{AreBytes}
use Rattle.mb_devices.specs.Devices.{DeviceState, restarted, ticked, ticks, passed, IsNotDue}
use Rattle.mb_devices.proofs.Passing.{ticks_pass}
use Rattle.def_processor.specs.SystemEnds.{with_registers}
use Rattle.def_machine.specs.Machine.{going}
use Rattle.def_machine.specs.World.{World}
use Rattle.vm_shadow.specs.Mapped.{root_of}
use Rattle.mb_model.specs.Status.{space_of}
use Rattle.mb_board.specs.Fits.{FitsAlong}
use Rattle.mb_board.specs.State.{BoardState}
use Rattle.def_runs.specs.declared.RunEnd.TheVariants.{Counted, Exit, Gone}
use Rattle.def_runs.specs.Batches.{NothingArrives}
use Rattle.def_runs.specs.Native.{NativeState, Ran, user_run}
use Rattle.def_guests.specs.declared.class.Class.TheVariants.{Retired}
use Rattle.def_guests.specs.Turns.{guest_begun, step_class_at_first, refills_of_step}
use Rattle.def_guests.specs.Seats.{Seat, guested_on, turned_on, IsSeated, Takes}
use Rattle.def_guests.specs.declared.limits.TheConstants.{MONITOR_BYTES}
use Rattle.law_turns.specs.Batch.{AllRetired, Batch, IsStretch, stepped_by}
use Rattle.law_turns.specs.Retire.{Boarded}
use Rattle.law_turns.specs.Exit.{Furnished}
use Rattle.law_turns.specs.Turn.{IsNativeCpu, IsSetFor}
use Rattle.law_turns.specs.Taking.{IsLeft, retired_seat, settled, site_of}
use Rattle.law_turns.proofs.Batch.{runs_are_batches}
use Rattle.law_turns.proofs.Refill.{first_is_last}
use Rattle.law_turns.proofs.Quiet.{only_ticks, quiet_steps_are_tried, retired_steps_tick}
use Rattle.law_turns.proofs.Turn.{boards_are_ready, flushed_is_set}
use Rattle.law_turns.proofs.Taking.{batches_take, exits_take, is_counted, stands_of}
use Rattle.def_guests.specs.Classes.{assisted}
use Rattle.vm_guest.specs.Native.{native_cpu, native_world, run_on, start_on}
use Rattle.vm_guest.specs.Turns.{begun_seat, scene, level_on}
use Rattle.vm_guest.proofs.Along.{wanted_along}
use Rattle.vm_guest.proofs.Assisted.{tried_begun}

-- devices that are begun again are on
restarted_on : (d : DeviceState) → (restarted d).off ≡ false
restarted_on d = refl

-- so a board that is reset stands for it
pub reset_is_set : (g : Seat) (root : ℕ) (ram : List ℕ) (devices : DeviceState) (w : World) → root ≡ root_of g.slots.area (space_of g.cpu)
    → w ≡ native_world root devices ram → IsSetFor (site_of g) w
reset_is_set g root ram devices w tables is =
    subst (IsSetFor (site_of g)) (sym (is ∙ ap (λ (n : ℕ). native_world n devices ram) tables))
    (flushed_is_set (site_of g) ram (restarted devices) (restarted_on devices))

-- the monitor's processor
is_native : (g : Seat) → MONITOR_BYTES ≤ g.base → IsNativeCpu (site_of g) native_cpu
is_native g behind = record { status = refl; awake = refl; vectors = refl; stack = omega arith; below = behind }

-- What is known of a guest whose step has begun, and which the board is to carry out for so many steps behind that one.
pub record MayRunOn (g : Seat) (board : BoardState) (native : NativeState) (n : ℕ) : Type 0 where
  pub seated : IsSeated g board.world.ram
  pub set : IsSetFor (site_of g) board.world
  pub bytes : AreBytes board.world.ram
  pub small : length board.world.ram ≤ 2 ^ 32
  pub running : g.state ≡ Running
  pub on : 0 < n → g.devices.off ≡ false
  pub seven : length g.cpu.regs.a ≡ 7
  pub tried : assisted (level_on (begun_seat g)) g.cpu ≡ None
  pub arrives : NothingArrives g.script (g.steps + 1) n
  pub due : IsNotDue n (begun_seat g).devices
  pub fit : FitsAlong (suc n) (start_on g board native)

-- one tick more, at either end
ticked_behind : (n : ℕ) (d : DeviceState) → ticked (ticks n d) ≡ ticks (suc n) d
ticked_behind zero d = refl
ticked_behind (suc n) d = ticked_behind n (ticked d)

pub fewer : (n m : ℕ) (d : DeviceState) → m ≤ n → IsNotDue n d → IsNotDue m d
fewer n m d few (inl still) = inl still
fewer n m d few (inr less) = inr (omega arith)

none_due : (n : ℕ) (d : DeviceState) → IsNotDue n d → IsNotDue 0 d
none_due n d due = fewer n 0 d (omega arith) due

module _ (g : Seat) (board : BoardState) (native : NativeState) (n : ℕ) (may : MayRunOn g board native n) where
  ready : Boarded (site_of g) (start_on g board native).machine (guested_on g board.world.ram)
      × Furnished (site_of g) (start_on g board native).machine
  ready = boards_are_ready (site_of g) native_cpu board.world board.steps Running (guested_on g board.world.ram) (is_native g may.seated.behind) may.set
      refl may.seven
      (stands_of g board.world.ram may.seated may.bytes may.small)

  stretch : IsStretch g.script (suc n) (guested_on g board.world.ram)
  stretch =
      quiet_steps_are_tried (site_of g) g.script n (start_on g board native).machine (guested_on g board.world.ram) ready.0
      (wanted_along (site_of g) g.script (suc n) (start_on g board native) (guested_on g board.world.ram) ready.0 may.fit)
      (tried_begun g board.world.ram may.tried)
      may.arrives may.due

  -- its run
  batch : Batch (site_of g) g.script (suc n) (start_on g board native) (turned_on g board.world.ram [] 0) (user_run (suc n) (start_on g board native))
  batch = runs_are_batches (site_of g) g.script (suc n) (start_on g board native) (turned_on g board.world.ram [] 0) refl ready.0 ready.1
      (λ some. may.running) (λ more. may.on (omega arith)) stretch

  -- the devices behind retired steps
  devices_behind : (j : ℕ) → j ≤ n → AllRetired g.script (suc j) (guested_on g board.world.ram)
      → (stepped_by g.script (suc j) (guested_on g board.world.ram)).machine.world.devices ≡ ticks j (begun_seat g).devices
  devices_behind j few all =
      (retired_steps_tick (site_of g) g.script j (start_on g board native).machine (guested_on g board.world.ram) ready.0 all
      (λ k more less. may.arrives k more (omega arith))).0

  -- ---- counted to its end

  counted_batch : (user_run (suc n) (start_on g board native)).end ≡ Counted → AllRetired g.script (suc n) (guested_on g board.world.ram)
  counted_batch counted =
      let r = start_on g board native in
      subst (λ (k : ℕ). AllRetired g.script k (guested_on g board.world.ram))
      (is_counted (site_of g) (suc n) r (user_run (suc n) r) (turned_on g board.world.ram [] 0) g counted batch).0 batch.all

  -- the guest as the board hands it back
  pub counted_takes : (u : Ran) → u ≡ run_on g board native (suc n) → u.end ≡ Counted → length u.machine.cpu.regs.a ≡ 7
      → (p : Plain) → p ≡ plain_of u.machine.cpu.regs
      → Takes (suc n) (scene g board.world.ram native)
      (scene (settled (retired_seat (begun_seat g) n (suc n) p (passed n (begun_seat g).devices))) u.machine.world.ram u.native)
  counted_takes u is counted wide p plain =
      let r = start_on g board native in
      let after = user_run (suc n) r in
      let ends : after.end ≡ Counted = sym (ap (λ (x : Ran). x.end) is) ∙ counted in
      let d = (stepped_by g.script (suc n) (guested_on g board.world.ram)).machine.world.devices in
      let devices : passed n (begun_seat g).devices ≡ d =
      sym (devices_behind n (omega arith) (counted_batch ends) ∙ (ticks_pass n (begun_seat g).devices may.due).at_once) in
      let steps : g.steps + 1 + n ≡ g.steps + suc n = omega arith in
      let of : Plain → DeviceState → ℕ → Seat = λ q o k. record g {
        cpu = with_registers q g.cpu;
        devices = o;
        steps = k;
        state = going (with_registers q g.cpu) o;
        tally = record g.tally { retired = g.tally.retired + suc n };
      } in
      let same : settled (retired_seat (begun_seat g) n (suc n) p (passed n (begun_seat g).devices))
      ≡ settled (retired_seat g (suc n) (suc n) (plain_of u.machine.cpu.regs) d) =
      ap (λ (q : Plain). of q (passed n (begun_seat g).devices) (g.steps + 1 + n)) plain
      ∙ ap (λ (o : DeviceState). of (plain_of u.machine.cpu.regs) o (g.steps + 1 + n)) devices
      ∙ ap (λ (k : ℕ). of (plain_of u.machine.cpu.regs) d k) steps in
      let takes = batches_take g native_cpu board.world board.steps Running native board.before n may.seated may.bytes may.small may.running may.on may.seven
      (is_native g may.seated.behind) may.set stretch ends (subst (λ (x : Ran). length x.machine.cpu.regs.a ≡ 7) is wide) in
      subst (λ (s : Seat). Takes (suc n) (scene g board.world.ram native) (scene s u.machine.world.ram u.native)) (sym same)
      (subst (λ (x : Ran). Takes (suc n) (scene g board.world.ram native)
      (scene (settled (retired_seat g (suc n) (suc n) (plain_of x.machine.cpu.regs) d)) x.machine.world.ram x.native)) (sym is) takes)

  -- and the board still stands for it
  pub counted_set : (u : Ran) → u ≡ run_on g board native (suc n) → u.end ≡ Counted → IsSetFor (site_of g) u.machine.world
  counted_set u is counted =
      let r = start_on g board native in
      let (all, done) =
      is_counted (site_of g) (suc n) r (user_run (suc n) r) (turned_on g board.world.ram [] 0) g (sym (ap (λ (x : Ran). x.end) is) ∙ counted) batch in
      subst (λ (x : Ran). IsSetFor (site_of g) x.machine.world) (sym is)
      (record { mmu = done.furnished.mmu; on = done.boarded.on; kept = done.boarded.related.kept })

  -- its first step is retired, and has not begun again
  pub counted_first : (u : Ran) → u ≡ run_on g board native (suc n) → u.end ≡ Counted
      → (step_class_at_first g.script (guested_on g board.world.ram) ≡ Retired) × (refills_of_step g.script (guested_on g board.world.ram) ≡ 0)
  counted_first u is counted =
      let (want, first, rest) = counted_batch (sym (ap (λ (x : Ran). x.end) is) ∙ counted) in
      (first, (first_is_last (site_of g) g.script (start_on g board native).machine (guested_on g board.world.ram) ready.0 want.registers first).1)

  -- and so many are counted
  pub counted_native : (u : Ran) → u ≡ run_on g board native (suc n) → u.end ≡ Counted
      → (u.native.retired ≡ native.retired + suc n) × (u.native.exceptions ≡ native.exceptions)
  counted_native u is counted =
      let r = start_on g board native in
      let after = user_run (suc n) r in
      let (all, done) =
      is_counted (site_of g) (suc n) r after (turned_on g board.world.ram [] 0) g (sym (ap (λ (x : Ran). x.end) is) ∙ counted) batch in (
        ap (λ (x : Ran). x.native.retired) is ∙ batch.counted ∙ ap (λ (k : ℕ). native.retired + k) all,
        ap (λ (x : Ran). x.native.exceptions) is ∙ done.exceptions,
      )

  -- it is counted or left
  pub never_gone : (u : Ran) → u ≡ run_on g board native (suc n) → u.end ≡ Gone → ⊥
  never_gone u is gone =
      let end : (user_run (suc n) (start_on g board native)).end ≡ Gone = sym (ap (λ (x : Ran). x.end) is) ∙ gone in
      elim batch.end [
        | inl (all, h) ↦ (let e : Counted ≡ Gone = sym h.end ∙ end in let z : ⊥ = cc in z)
        | inr (few, h) ↦ (let e : Exit h.vector ≡ Gone = sym h.end ∙ end in let z : ⊥ = cc in z)
      ]

  -- ---- left

  pub is_left : (u : Ran) (v : ℕ) → u ≡ run_on g board native (suc n) → u.end ≡ Exit v → length u.machine.cpu.regs.a ≡ 7
      → IsLeft g board.world.ram native (suc n) u
  is_left u v is left wide =
      let after = user_run (suc n) (start_on g board native) in
      subst (λ (x : Ran). IsLeft g board.world.ram native (suc n) x) (sym is)
      (exits_take g native_cpu board.world board.steps Running native board.before (suc n) v may.seated may.bytes may.small may.running
      (λ more. may.on (omega arith)) may.seven
      (is_native g may.seated.behind) (let z : MONITOR_BYTES ≤ MONITOR_BYTES = omega arith in z) may.set stretch
      (sym (ap (λ (x : Ran). x.end) is) ∙ left)
      (subst (λ (x : Ran). length x.machine.cpu.regs.a ≡ 7) is wide))

  -- the next step begins by one tick more
  next_begins : (j : ℕ) → j ≤ n → AllRetired g.script j (guested_on g board.world.ram)
      → (guest_begun g.script (stepped_by g.script j (guested_on g board.world.ram))).machine.world.devices ≡ passed j (begun_seat g).devices
  next_begins zero few all = (ticks_pass zero (begun_seat g).devices (none_due n (begun_seat g).devices may.due)).at_once
  next_begins (suc j) few all =
      let d = (begun_seat g).devices in
      let u = stepped_by g.script (suc j) (guested_on g board.world.ram) in
      let tick = retired_steps_tick (site_of g) g.script j (start_on g board native).machine (guested_on g board.world.ram) ready.0 all
      (λ k more less. may.arrives k more (omega arith)) in
      let steps : u.machine.steps ≡ g.steps + suc j = tick.1 in
      only_ticks g.script u (may.arrives (u.machine.steps + 1) (omega arith) (omega arith)).devices
      ∙ ap ticked tick.0 ∙ ticked_behind j d ∙ (ticks_pass (suc j) d (fewer n (suc j) d few may.due)).at_once

  -- the guest in the middle of that step
  pub left_is : (u : Ran) (h : IsLeft g board.world.ram native (suc n) u) → h.begun ≡ passed h.retired (begun_seat g).devices
  left_is u h = h.begins ∙ next_begins h.retired (let few = h.few in omega arith) h.all
