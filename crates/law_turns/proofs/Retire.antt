-- A step of a guest that is retired, on the board and alone.
use Rattle.std.proofs.Common.{◌≡◌, ◌∙◌, ℕ, ◌+◌, ◌-◌, ◌≤◌, ◌==◌, ◌||◌, ◌&&◌, Bool, true, false, cond, nat_lt, [], ◌∷◌, ◌++◌, length, arith, refl, ap, sym}
use Rattle.std.specs.Prelude.{Some, None, unwrap_or}
use Rattle.std.proofs.Common.{subst}
use Rattle.std.proofs.lemmas.Bool.Decides.{nat_tests}
use Rattle.mb_port.specs.Routine.{run}
use Rattle.mb_port.specs.declared.types.Space.{Space}
use Rattle.mb_instr.specs.Registers.{plain_of}
use Rattle.mb_model.specs.declared.processor.Cpu.{Cpu}
use Rattle.mb_model.specs.declared.outcome.RunState.TheVariants.{Running}
use Rattle.mb_model.specs.Keeping.{rule_a}
use Rattle.mb_model.specs.Status.{space_of}
use Rattle.mb_writes.specs.declared.ends.Ended.{Ended}
use Rattle.mb_writes.specs.declared.ends.Ended.TheVariants as ended
use Rattle.def_processor.specs.declared.Finish.{Finish}
use Rattle.def_processor.specs.declared.Finish.TheVariants as finish
use Rattle.def_instructions.specs.Ends.{End}
use Rattle.def_processor.specs.SystemEnds.{with_registers}
use Rattle.def_instructions.specs.Attempt.{attempt_of}
use Rattle.def_processor.specs.Raise.{Stepped, traces_all, traces_flow, step_end}
use Rattle.def_processor.specs.Step.{interrupt_mask, step_of, rank}
use Rattle.mb_devices.specs.Devices.{DeviceState, ticked, level_of, has_received, received}
use Rattle.mb_devices.specs.declared.devices.TheConstants.{QUEUE_ROOM}
use Rattle.law_routines.specs.Until.{run_until}
use Rattle.law_attempts.specs.Attempts.{IsUntraced}
use Rattle.mb_script.specs.declared.input.Input.{Input}
use Rattle.mb_script.specs.declared.input.Input.TheVariants.{Byte, Abort}
use Rattle.def_machine.specs.World.{World}
use Rattle.def_machine.specs.Machine.{Machine, Entries, begun, arrived, going, processed, one_later, takes_steps, state_after, asked, taken_in}
use Rattle.def_runs.specs.Native.{user_step}
use Rattle.def_guests.specs.declared.class.Class.{Class}
use Rattle.def_guests.specs.declared.class.Class.TheVariants as class
use Rattle.def_guests.specs.declared.class.Class.TheVariants.{Retired}
use Rattle.def_guests.specs.Guests.{Guest, may}
use Rattle.def_guests.specs.Bus.{guest_bus}
use Rattle.def_guests.specs.Classes.{class_of_end, class_at, class_of_attempt, class_at_first, is_traced}
use Rattle.def_guests.specs.Turns.{Guested, bus_side, guest_begun, guest_later, guest_stepped}
use Rattle.law_held.specs.Sound.{Sound}
use Rattle.law_held.specs.Denied.{held_end}
use Rattle.law_mirror.specs.Related.{Site, Related}
use Rattle.law_mirror.specs.Laws.{board_bus}
use Rattle.law_mirror.proofs.Mirrors.{sound_of}
use Rattle.law_leave.specs.Steps.{Mirrored}
use Rattle.law_leave.proofs.Steps.{steps_retire}
use Rattle.law_turns.specs.Retire.{Boarded, HasRegisters, Retires, RetiredSteps}
use Rattle.law_turns.specs.Batch.{IsTried}
use Rattle.law_turns.proofs.Held.{classes_are_held}
use Rattle.law_turns.proofs.Registers.{same_registers, same_user, same_space, same_mask, stays_plain, is_set}

-- ---- a step that has begun

off_by : (a b : Bool) (d e f : DeviceState) → e.off ≡ d.off → f.off ≡ d.off → (cond a d (cond b e f)).off ≡ d.off
off_by true b d e f h k = refl
off_by false true d e f h k = h
off_by false false d e f h k = k

pub off_ticked : (d : DeviceState) → (ticked d).off ≡ d.off
unfolding ticked
off_ticked d = off_by (d.period == 0) (d.count - 1 == 0) d (record d { pending = true; count = d.period }) (record d { count = d.count - 1 }) refl refl

-- the devices ask for no level that is above every mask
pub level_small : (d : DeviceState) → rank (level_of d) ≤ 6
level_small d = by_level d.pending (d.enabled && has_received d)
  where
    by_level : (a b : Bool) → rank (cond a 6 (cond b 4 0)) ≤ 6
    by_level true b = omega arith
    by_level false true = omega arith
    by_level false false = omega arith

-- ---- classes

-- the class of a step that the board attempts
pub record IsAttemptOf (level : ℕ) (cpu : Cpu) (g : Guest) (c : Class) : Type 0 where
  pub masked : rank level ≤ interrupt_mask cpu
  pub plain : IsUntraced cpu
  pub of : class_of_attempt cpu g ≡ c

by_tests : (a b t : Bool) (c d : Class) → unwrap_or (cond a (Some class.Entered) (cond b (Some class.Idle) (cond t (Some class.Traced) None))) c ≡ d
    → IsTried d → (a ≡ false) × (b ≡ false) × (t ≡ false) × (c ≡ d)
by_tests true b t c d e h = absurd (subst IsTried (sym e) h)
by_tests false true t c d e h = absurd (subst IsTried (sym e) h)
by_tests false false true c d e h = absurd (subst IsTried (sym e) h)
by_tests false false false c d e h = (refl, refl, refl, e)

neither : (a b : Bool) → (a || b) ≡ false → (a ≡ false) × (b ≡ false)
neither false b e = (refl, e)
neither true b e = absurd (let z : true ≡ false = e in let y : ⊥ = cc in y)

pub not_less : (mask level : ℕ) → nat_lt mask level ≡ false → level ≤ mask
not_less mask level h = grind (arith, nat_tests)

pub not_above : (mask level : ℕ) → level ≤ mask → nat_lt mask level ≡ false
not_above mask level h = grind (arith, nat_tests)

pub is_attempt : (level : ℕ) (cpu : Cpu) (g : Guest) (c : Class) → class_at_first level cpu g ≡ c → IsTried c → IsAttemptOf level cpu g c
is_attempt level cpu g c e h =
    let (a, b, t, k) = by_tests (nat_lt (interrupt_mask cpu) (rank level)) cpu.stopped (is_traced cpu) (class_of_attempt cpu g) c e h in
    let (all, flow) = neither (traces_all cpu.regs.sr) (traces_flow cpu.regs.sr) t in
    record { masked = not_less (interrupt_mask cpu) (rank level) a; plain = record { going = b; all = all; flow = flow }; of = k }

-- ---- board and guest, once the step has begun

pub retired_end : (e : Ended) → class_of_end e ≡ Retired → (f : Bool) × (e ≡ ended.Done f)
retired_end (ended.Done f) h = (f, refl)
retired_end (ended.Trap v) h = absurd (let z : class.Trapped ≡ Retired = h in let y : ⊥ = cc in y)
retired_end (ended.Refused v) h = absurd (let z : class.Privileged ≡ Retired = h in let y : ⊥ = cc in y)
retired_end (ended.ReadFault v) h = absurd (let z : class.Denied ≡ Retired = h in let y : ⊥ = cc in y)
retired_end (ended.WriteFault v) h = absurd (let z : class.Denied ≡ Retired = h in let y : ⊥ = cc in y)
retired_end (ended.LineFault v l) h = absurd (let z : class.Denied ≡ Retired = h in let y : ⊥ = cc in y)
retired_end (ended.Movem v) h = absurd (let z : class.Denied ≡ Retired = h in let y : ⊥ = cc in y)

-- what the held guest's attempt ends with
abbrev pub end_of_held : Site → Cpu → Guest → End
end_of_held x guest g = held_end x.space (plain_of guest.regs) g

pub masked_by : (cpu : Cpu) (d : DeviceState) → interrupt_mask cpu ≡ 7 → rank (level_of d) ≤ interrupt_mask cpu
masked_by cpu d h = let l = level_small d in omega arith

pub class_held : (x : Site) (guest : Cpu) (g : Guest) (c : Class) → space_of guest ≡ x.space → HasRegisters (plain_of guest.regs) → Sound x.size g
    → class_of_attempt guest g ≡ c → class_of_end (end_of_held x guest g).0 ≡ c
class_held x guest g c present regs sound e =
    sym (classes_are_held x.space x.size (plain_of guest.regs) g regs sound)
    ∙ sym (ap (λ (s : Space). class_at (run_until may guest_bus (attempt_of s (plain_of guest.regs)) g)) present) ∙ e

-- ---- the machines

-- what begins is related, whatever its devices
pub related_devices : (x : Site) (w : World) (g : Guest) (d e : DeviceState) → Related x w g
    → Related x (record w { devices = d }) (record g { world = record g.world { devices = e } })
related_devices x w g d e r = record {
  bytes = r.bytes;
  maps = r.maps;
  under = r.under;
  whole = r.whole;
  ram = r.ram;
  root = r.root;
  small = r.small;
  shadow = r.shadow;
  kept = r.kept;
  no_match = r.no_match;
  truthful = record { reads = r.truthful.reads; writes = r.truthful.writes; inside = r.truthful.inside };
}

-- the processors see the same registers
pub mirrored_by : (x : Site) (m : Machine) (g : Guested) → Boarded x m g → HasRegisters (plain_of g.machine.cpu.regs) → IsUntraced g.machine.cpu
    → Mirrored x m.cpu g.machine.cpu
mirrored_by x m g b regs untraced = record {
  plain = b.plain;
  user = b.user;
  present = b.present;
  board_untraced = b.goes;
  guest_untraced = untraced;
  longs = regs.longs;
  counter = regs.counter;
}

off_received : (byte : ℕ) (d : DeviceState) → (received byte d).off ≡ d.off
off_received byte d = off_if (nat_lt (length d.queue) QUEUE_ROOM) d
  where
    off_if : (b : Bool) (d : DeviceState) → (cond b (record d { queue = d.queue ++ byte ∷ [] }) (record d { overrun = true })).off ≡ d.off
    off_if true d = refl
    off_if false d = refl

off_taken : (one : Input) (d : DeviceState) → (taken_in one d).off ≡ d.off
off_taken (Byte byte) d = off_received byte d
off_taken Abort d = refl

pub off_arrived : (n : ℕ) (script : Entries) (d : DeviceState) → (arrived n script d).off ≡ d.off
off_arrived n [] d = refl
off_arrived n (entry ∷ script) d = off_arrived n script (cond (entry.step == n) (taken_in entry.input d) d) ∙ off_if (entry.step == n)
  where
    off_if : (b : Bool) → (cond b (taken_in entry.input d) d).off ≡ d.off
    off_if true = off_taken entry.input d
    off_if false = refl

-- on and awake, it goes on
running_after : (cpu : Cpu) (d : DeviceState) → d.off ≡ false → cpu.stopped ≡ false → going cpu d ≡ Running
running_after cpu d h k = rw h (rw k refl)

pub goes_after : (cpu : Cpu) (d : DeviceState) → d.off ≡ false → cpu.stopped ≡ false → takes_steps (state_after (step_end finish.Went) cpu d) ≡ true
goes_after cpu d h k = rw h (rw k refl)

-- the board one step later, with what the processor's part left
abbrev pub user_later : Machine → Stepped × World → Finish × Machine
user_later m r = (r.0.0, record (one_later m r.0.0 r.0.1 r.1) { steps = m.steps })

pub user_step_is : (m : Machine) → user_step m ≡ user_later m (processed rule_a [] (begun [] m))
user_step_is m = refl

pub retired_steps : RetiredSteps
retired_steps x script m g b regs c =
    let d = ticked m.world.devices in
    let e = ticked (arrived (g.machine.steps + 1) script g.machine.world.devices) in
    let w = record m.world { devices = d } in
    let guest = g.machine.cpu in
    let h : Guest = record { world = record g.machine.world { devices = e }; shadow = g.shadow } in
    let related = related_devices x m.world (bus_side g) d e b.related in
    let own_level = asked script (g.machine.steps + 1) e in
    let attempt = is_attempt own_level guest h Retired c tt in
    let (flow, done) = retired_end (end_of_held x guest h).0 (class_held x guest h Retired b.present regs (sound_of x w h related) attempt.of) in
    let p = (end_of_held x guest h).1 in
    let both = steps_retire x (level_of d) own_level m.cpu guest w h flow (mirrored_by x m g b regs attempt.plain) related (masked_by m.cpu d b.mask)
    attempt.masked done in
    let native : Stepped × World = run board_bus (step_of (level_of d) m.cpu) w in
    let own : Stepped × Guest = run guest_bus (step_of own_level guest) h in
    let stays = both.2 in
    let off : native.1.devices.off ≡ false = ap (λ (d : DeviceState). d.off) stays.outside.devices ∙ off_ticked m.world.devices ∙ b.on in
    let s : Finish × Machine = user_later m ((finish.Went, with_registers p m.cpu), native.1) in
    let t : Guested = guest_later (guest_begun script g).machine ((finish.Went, with_registers p guest), own.1) in
    let is_s : user_step m ≡ s = user_step_is m ∙ ap (λ (r : Stepped). user_later m (r, native.1)) both.0 in
    let is_t : guest_stepped script g ≡ t = ap (λ (r : Stepped). guest_later (guest_begun script g).machine (r, own.1)) both.1 in
    subst (λ (v : Finish × Machine). Retires x script m g v (guest_stepped script g)) (sym is_s)
    (subst (λ (v : Guested). Retires x script m g s v) (sym is_t) (record {
      step = refl;
      running = goes_after (with_registers p m.cpu) native.1.devices off b.goes.going;
      boarded = record {
        on = off;
        user = same_user p m.cpu ∙ b.user;
        goes = stays_plain p m.cpu b.goes;
        mask = same_mask p m.cpu ∙ b.mask;
        plain = same_registers p m.cpu guest;
        present = same_space p guest ∙ b.present;
        related = stays.related;
      };
      from = is_set p m.cpu b.user;
      goes = stays_plain p guest attempt.plain;
      mask = same_mask p guest;
      steps = refl;
      state = refl;
      registers = p;
      set = refl;
      only = stays.only;
      outside = stays.outside;
    }))

-- a guest that is on stays so in such a step, and runs behind it
pub stays_on : (x : Site) (script : Entries) (m : Machine) (g : Guested) → Retires x script m g (user_step m) (guest_stepped script g)
    → g.machine.world.devices.off ≡ false → (guest_stepped script g).machine.world.devices.off ≡ false
stays_on x script m g h on =
    let d = g.machine.world.devices in
    ap (λ (q : Guest). q.world.devices.off) h.only ∙ off_ticked (arrived (g.machine.steps + 1) script d)
    ∙ off_arrived (g.machine.steps + 1) script d ∙ on

pub runs_behind : (x : Site) (script : Entries) (m : Machine) (g : Guested) → Retires x script m g (user_step m) (guest_stepped script g)
    → g.machine.world.devices.off ≡ false → (guest_stepped script g).machine.state ≡ Running
runs_behind x script m g h on =
    let t = guest_stepped script g in
    h.state ∙ running_after t.machine.cpu t.machine.world.devices (stays_on x script m g h on) h.goes.going
