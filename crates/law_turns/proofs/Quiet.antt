-- Stretches in which nothing arrives and nothing falls due.
use Rattle.std.proofs.Common.{◌≡◌, ◌∙◌, ℕ, zero, suc, ◌+◌, Bool, false, cond, nat_lt, [], ◌∷◌, ◌||◌, Ok, Err, arith, refl, ap, sym, subst, inl, inr, ◌<◌, ◌≤◌}
use Rattle.std.specs.Prelude.{Some, None, unwrap_or}
use Rattle.mb_instr.specs.Registers.{plain_of}
use Rattle.mb_model.specs.declared.processor.Cpu.{Cpu}
use Rattle.mb_devices.specs.Devices.{DeviceState, ticked, level_of, ticks, IsNotDue}
use Rattle.def_processor.specs.Raise.{traces_all, traces_flow}
use Rattle.def_processor.specs.Step.{interrupt_mask, rank}
use Rattle.def_instructions.specs.Ends.{Performed}
use Rattle.mb_writes.specs.declared.ends.Ended.{Ended as End}
use Rattle.mb_writes.specs.declared.ends.Ended.TheVariants as ended
use Rattle.law_routines.specs.Until as until
use Rattle.law_routines.specs.Until.{Until}
use Rattle.def_machine.specs.Machine.{Machine, Entries, arrived, asked, going}
use Rattle.mb_model.specs.Keeping.{KeptLists, Apart, list_of}
use Rattle.mb_instr.specs.declared.registers.Regs.{Regs}
use Rattle.def_processor.specs.SystemEnds.{with_registers}
use Rattle.def_processor.specs.Return.{high, low}
use Rattle.mb_instr.specs.Operands.{more}
use Rattle.law_tells.specs.Guarded.{quiet}
use Rattle.mb_devices.proofs.Passing.{ticks_pass}
use Rattle.def_machine.proofs.Asked.{asked_devices, asked_masked}
use Rattle.def_guests.specs.Guests.{Guest}
use Rattle.law_mirror.specs.Related.{Site}
use Rattle.def_guests.specs.declared.class.Class.{Class}
use Rattle.def_guests.specs.declared.class.Class.TheVariants as class
use Rattle.def_guests.specs.declared.class.Class.TheVariants.{Retired}
use Rattle.def_guests.specs.Classes.{class_at_first, class_of_attempt, class_at, class_by, class_of_end, is_traced}
use Rattle.def_guests.specs.Turns.{Guested, bus_side, guest_begun, guest_stepped, step_class_at_first}
use Rattle.def_runs.specs.Native.{user_step}
use Rattle.law_turns.specs.Retire.{Retires}
use Rattle.law_turns.specs.Batch.{IsTried, stepped_by}
use Rattle.law_turns.specs.Quiet.{QuietStepsAreTried, RetiredStepsTick, RetiredStepsKeepTruth, RetiredStepsLeave}
use Rattle.mb_instr.proofs.PlainRegisters.{plain_same}
use Rattle.law_turns.proofs.Registers.{registers_over}
use Rattle.law_turns.proofs.Retire.{retired_steps, is_attempt, not_above}
use Rattle.def_runs.specs.Batches.{IsQuietAt, NothingArrives}
use Rattle.def_runs.proofs.Batches.{one_tick}
use Rattle.law_mirror.proofs.Mirrors.{sound_of}

-- ---- devices

-- a retired step leaves the devices that it began with
pub kept_devices : (x : Site) (script : Entries) (m : Machine) (g : Guested) → Retires x script m g (user_step m) (guest_stepped script g)
    → (guest_stepped script g).machine.world.devices ≡ (guest_begun script g).machine.world.devices
kept_devices x script m g h = ap (λ (q : Guest). q.world.devices) h.only

-- where nothing arrives, a step that begins only ticks
pub only_ticks : (script : Entries) (g : Guested) → ((d : DeviceState) → arrived (g.machine.steps + 1) script d ≡ d)
    → (guest_begun script g).machine.world.devices ≡ ticked g.machine.world.devices
only_ticks script g h = ap ticked (h g.machine.world.devices)

pub first_of : (script : Entries) (taken n : ℕ) → NothingArrives script taken (suc n) → IsQuietAt script (taken + 1)
first_of script taken n h = h (taken + 1) (omega arith) (omega arith)

pub rest_of : (script : Entries) (taken n : ℕ) → NothingArrives script taken (suc n) → NothingArrives script (taken + 1) n
rest_of script taken n h k low high = h k (omega arith) (omega arith)

pub retired_steps_tick : RetiredStepsTick
retired_steps_tick x script zero m g b (want, retired, more) quiet =
    let h = retired_steps x script m g b want.registers retired in
    (kept_devices x script m g h, h.steps)
retired_steps_tick x script (suc n) m g b (want, retired, more) quiet =
    let h = retired_steps x script m g b want.registers retired in
    let t = guest_stepped script g in
    let quiet' : NothingArrives script t.machine.steps (suc n) = subst (λ (k : ℕ). NothingArrives script k (suc n)) (sym h.steps) quiet in
    let next = retired_steps_tick x script n (user_step m).1 t h.boarded more (rest_of script t.machine.steps n quiet') in
    let ticked_once = only_ticks script t (first_of script t.machine.steps n quiet').devices in
    let kept = kept_devices x script m g h in (
      next.0 ∙ ap (λ (d : DeviceState). ticks n d) (ticked_once ∙ ap ticked kept),
      next.1 ∙ ap (λ (k : ℕ). k + suc n) h.steps ∙ (let e : g.machine.steps + 1 + suc n ≡ g.machine.steps + suc (suc n) = omega arith in e),
    )

-- ---- classes

-- what is neither masked out, nor idle, nor traced, is attempted
by_tests : (a b t : Bool) (c : Class) → a ≡ false → b ≡ false → t ≡ false → IsTried c
    → IsTried (unwrap_or (cond a (Some class.Entered) (cond b (Some class.Idle) (cond t (Some class.Traced) None))) c)
by_tests a b t c e f g h = rw e (rw f (rw g h))

tried_end : (e : End) → IsTried (class_of_end e)
tried_end (ended.Done f) = tt
tried_end (ended.Trap v) = tt
tried_end (ended.Refused v) = tt
tried_end (ended.ReadFault f) = tt
tried_end (ended.WriteFault f) = tt
tried_end (ended.LineFault f l) = tt
tried_end (ended.Movem f) = tt

tried_by : (q : Performed) → IsTried (class_by q)
tried_by (Ok done) = tt
tried_by (Err stop) = tried_end stop.ended

tried_at : (u : Until Guest Performed) → IsTried (class_at u)
tried_at (until.Ended q g) = tried_by q
tried_at (until.Stopped rest g) = tt

tried_attempt : (cpu : Cpu) (g : Guest) → IsTried (class_of_attempt cpu g)
tried_attempt cpu g = tried_at _

pub tried_class : (level : ℕ) (cpu : Cpu) (g : Guest) → rank level ≤ interrupt_mask cpu → cpu.stopped ≡ false → is_traced cpu ≡ false
    → IsTried (class_at_first level cpu g)
tried_class level cpu g a b t = by_tests (nat_lt (interrupt_mask cpu) (rank level)) cpu.stopped (is_traced cpu) (class_of_attempt cpu g)
    (not_above (interrupt_mask cpu) (rank level) a) b t (tried_attempt cpu g)

pub untraced : (a b : Bool) → a ≡ false → b ≡ false → (a || b) ≡ false
untraced a b h k = rw h (rw k refl)

pub one_of : (n : ℕ) (d : DeviceState) → IsNotDue (suc n) d → IsNotDue 1 d
one_of n d (inl still) = inl still
one_of n d (inr less) = inr (omega arith)

-- the step behind a retired one, where nothing arrives and the timer does not come to 0
next_tried : (x : Site) (script : Entries) (n : ℕ) (m : Machine) (g : Guested) → Retires x script m g (user_step m) (guest_stepped script g)
    → step_class_at_first script g ≡ Retired
    → NothingArrives script (g.machine.steps + 1) (suc n) → IsNotDue (suc n) (guest_begun script g).machine.world.devices
    → IsTried (step_class_at_first script (guest_stepped script g))
next_tried x script n m g h retired quiet due =
    let t = guest_stepped script g in
    let d = (guest_begun script g).machine.world.devices in
    let was = is_attempt (asked script (g.machine.steps + 1) d) g.machine.cpu (bus_side (guest_begun script g)) Retired retired tt in
    let quiet' : NothingArrives script t.machine.steps (suc n) = subst (λ (k : ℕ). NothingArrives script k (suc n)) (sym h.steps) quiet in
    let same : (guest_begun script t).machine.world.devices ≡ ticked d = only_ticks script t (first_of script t.machine.steps n quiet').devices
    ∙ ap ticked (kept_devices x script m g h) in
    let next = (guest_begun script t).machine.world.devices in
    let level : asked script (t.machine.steps + 1) next ≡ asked script (g.machine.steps + 1) d =
    asked_devices script (t.machine.steps + 1) next (first_of script t.machine.steps n quiet').unaborted
    ∙ ap level_of same ∙ ap level_of (ticks_pass 1 d (one_of n d due)).at_once ∙ (ticks_pass 1 d (one_of n d due)).level
    ∙ sym (asked_masked script (g.machine.steps + 1) d g.machine.cpu was.masked) in
    tried_class (asked script (t.machine.steps + 1) next) t.machine.cpu (bus_side (guest_begun script t))
    (subst (λ (k : ℕ). rank k ≤ interrupt_mask t.machine.cpu) (sym level)
    (subst (λ (k : ℕ). rank (asked script (g.machine.steps + 1) d) ≤ k) (sym h.mask) was.masked))
    h.goes.going (untraced (traces_all t.machine.cpu.regs.sr) (traces_flow t.machine.cpu.regs.sr) h.goes.all h.goes.flow)

pub quiet_steps_are_tried : QuietStepsAreTried
quiet_steps_are_tried x script zero m g b wanted tried quiet due = (wanted.0, tried, λ retired. tt)
quiet_steps_are_tried x script (suc n) m g b wanted tried quiet due = (
  wanted.0,
  tried,
  λ retired.
      let h = retired_steps x script m g b wanted.0.registers retired in
      let t = guest_stepped script g in
      let d = (guest_begun script g).machine.world.devices in
      let quiet' : NothingArrives script t.machine.steps (suc n) = subst (λ (k : ℕ). NothingArrives script k (suc n)) (sym h.steps) quiet in
      let same : (guest_begun script t).machine.world.devices ≡ ticked d = only_ticks script t (first_of script t.machine.steps n quiet').devices
      ∙ ap ticked (kept_devices x script m g h) in
      quiet_steps_are_tried x script n (user_step m).1 t h.boarded (wanted.1 retired) (next_tried x script n m g h retired quiet due)
      (rest_of script t.machine.steps n quiet') (subst (λ (o : DeviceState). IsNotDue n o) (sym same) (one_tick d n due)),
)

-- ---- the shadow's truth

pub retired_steps_keep_truth : RetiredStepsKeepTruth
retired_steps_keep_truth x script m g h fine =
    let t = bus_side (guest_stepped script g) in
    record {
      sound = sound_of x (user_step m).1.world t h.boarded.related;
      one = subst (λ (k : KeptLists). k ≡ list_of 0 k ∷ []) (sym (ap (λ (q : Guest). q.world.kept) h.only)) fine.one;
      apart = subst (λ (k : KeptLists). Apart (list_of 0 k)) (sym (ap (λ (q : Guest). q.world.kept) h.only)) fine.apart;
    }

-- ---- what they leave

-- its state, behind one of them or more
state_behind : (script : Entries) (n : ℕ) (t : Guested) → t.machine.state ≡ going t.machine.cpu t.machine.world.devices → let u = stepped_by script n t in
    (0 < n → u.machine.state ≡ going u.machine.cpu u.machine.world.devices) → u.machine.state ≡ going u.machine.cpu u.machine.world.devices
state_behind script zero t first later = first
state_behind script (suc n) t first later = later (omega arith)

pub retired_steps_leave : RetiredStepsLeave
retired_steps_leave x script zero m g b all = record {
  cpu = λ has. ap (λ (r : Regs). (let c : Cpu = record g.machine.cpu { regs = r } in c)) (plain_same g.machine.cpu.regs has);
  steps = (let e : g.machine.steps ≡ g.machine.steps + 0 = omega arith in e);
  mmu = refl;
  kept = refl;
  shadow = refl;
  state = λ some. absurd (omega arith);
}
retired_steps_leave x script (suc n) m g b (want, retired, more) =
    let h = retired_steps x script m g b want.registers retired in
    let t = guest_stepped script g in
    let u = stepped_by script n t in
    let next = retired_steps_leave x script n (user_step m).1 t h.boarded more in
    record {
      cpu = λ has. sym (ap (λ (c : Cpu). with_registers (plain_of u.machine.cpu.regs) c) h.set
          ∙ registers_over h.registers (plain_of u.machine.cpu.regs) g.machine.cpu) ∙ next.cpu has;
      steps = next.steps ∙ ap (λ (k : ℕ). k + n) h.steps ∙ (let e : g.machine.steps + 1 + n ≡ g.machine.steps + suc n = omega arith in e);
      mmu = next.mmu ∙ ap (λ (q : Guest). q.world.mmu) h.only;
      kept = next.kept ∙ ap (λ (q : Guest). q.world.kept) h.only;
      shadow = next.shadow ∙ ap (λ (q : Guest). q.shadow) h.only;
      state = λ some. state_behind script n t h.state next.state;
    }
