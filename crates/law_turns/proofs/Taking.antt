-- A turn of a seated guest.
use Rattle.std.proofs.Common.{◌≡◌, ◌∙◌, ℕ, suc, ◌+◌, ◌^◌, ◌<◌, ◌≤◌, List, [], ◌∷◌, ◌++◌, length, Bool, cond, ◌==◌, true, false, arith, refl, ap, sym}
use Rattle.std.proofs.Common.{subst, inl, inr, Some, None}
use Rattle.std.proofs.lemmas.List.{length-append}
use Rattle.mb_port.specs.declared.types.Space.{Space}
use Rattle.mb_model.specs.Status.{space_of}
use Rattle.mb_instr.specs.declared.registers.Plain.{Plain}
use Rattle.mb_instr.specs.declared.registers.Regs.{Regs}
use Rattle.mb_instr.specs.declared.vectors.TheConstants.{ACCESS_ERROR}
use Rattle.mb_instr.specs.Registers.{plain_of, active_stack, is_supervisor}
use Rattle.mb_model.specs.Keeping.{KeptLists}
use Rattle.mb_port.specs.declared.types.Mmu.{Mmu}
use Rattle.mb_model.specs.declared.processor.Cpu.{Cpu}
use Rattle.mb_model.specs.declared.outcome.RunState.{RunState}
use Rattle.mb_model.specs.declared.outcome.RunState.TheVariants.{Running}
use Rattle.mb_walk.specs.Memory.{AreBytes, part}
use Rattle.mb_devices.specs.Devices.{DeviceState, level_of}
use Rattle.def_processor.specs.SystemEnds.{with_registers}
use Rattle.def_machine.specs.Machine.{going, takes_steps, asked_of}
use Rattle.mb_port.specs.Routine.{run}
use Rattle.def_processor.specs.Return.{low}
use Rattle.def_guests.specs.Seats.{end_of, on_board, Seat, own, shadow_on, machine_on, guested_on, turned_on, IsSeated, OnlyWithin}
use Rattle.def_guests.specs.declared.limits.TheConstants.{MONITOR_BYTES}
use Rattle.vm_shadow.specs.Shadows.{Shadowed}
use Rattle.vm_shadow.specs.Mapped.{root_of, shadowed}
use Rattle.vm_shadow.specs.declared.area.TheConstants.{AREA_BYTES}
use Rattle.def_guests.specs.Guests.{Guest, Truthful}
use Rattle.law_mirror.specs.Related.{Site, AllAgree, mapping}
use Rattle.law_mirror.specs.Ready.{native_mmu}
use Rattle.def_runs.specs.declared.RunEnd.TheVariants.{Counted, Exit}
use Rattle.def_guests.specs.Turns.{Guested, Turned, Tally, bus_side, guest_begun, guest_later, tallied, with_refills, exceptions_of, marks_of, by_class}
use Rattle.def_guests.specs.Turns.{advanced}
use Rattle.def_guests.specs.Turns.{turn_of, step_class_at_first}
use Rattle.def_machine.specs.declared.reference.Reference.{Reference}
use Rattle.def_machine.specs.World.{World}
use Rattle.def_machine.proofs.Asked.{asked_masked}
use Rattle.def_machine.specs.Machine.{Entries}
use Rattle.def_runs.specs.Marks.{trail}
use Rattle.law_held.specs.Truth.{Fine}
use Rattle.def_guests.specs.Classes.{class_at_first}
use Rattle.def_processor.specs.Step.{step_of}
use Rattle.def_processor.specs.declared.Finish.TheVariants as finish
use Rattle.law_turns.specs.Batch.{IsTried}
use Rattle.law_turns.proofs.Retire.{IsAttemptOf, is_attempt}
use Rattle.def_guests.specs.Refills.{refilled_at, begun_again}
use Rattle.def_guests.specs.declared.class.Class.{Class}
use Rattle.def_runs.specs.Native.{Ran, about_to_run, user_run}
use Rattle.law_turns.specs.Batch.{stepped_by, IsInside, IsCounted, IsExit, Batch}
use Rattle.law_turns.specs.Quiet.{IsAfter}
use Rattle.law_turns.specs.Turn.{ready_for, Stands}
use Rattle.law_turns.specs.Taking.{site_of, retired_seat, settled, BatchesTake, ExitsTake}
use Rattle.def_guests.specs.Exits.{is_refusal, class_of_vector, frame_access, handed_by, rest_by_frame}
use Rattle.law_turns.specs.Exit.{left_guest}
use Rattle.law_turns.specs.Reads.{read_by_frame}
use Rattle.def_guests.specs.declared.class.Class.TheVariants as class
use Rattle.def_guests.specs.Bus.{guest_bus}
use Rattle.def_guests.proofs.TurnLaws.{going_turn, nothing_turned, turns_add}
use Rattle.law_turns.proofs.Registers.{is_set}
use Rattle.law_turns.proofs.Lists.{between, beyond}
use Rattle.law_turns.proofs.Batch.{runs_are_batches}
use Rattle.law_turns.proofs.Quiet.{retired_steps_leave}
use Rattle.law_turns.proofs.Turn.{boards_are_ready, exits_advance}
use Rattle.law_held.proofs.Refills.{some_read}

pub same_turned : (a b : Turned) → a.guest ≡ b.guest → a.tally ≡ b.tally → a.marks ≡ b.marks → a.exceptions ≡ b.exceptions → a ≡ b
same_turned a b g t m e =
    let of : Guested → Tally → List Plain → ℕ → Turned = λ g t m e. record { guest = g; tally = t; marks = m; exceptions = e } in
    ap (λ (x : Guested). of x a.tally a.marks a.exceptions) g ∙ ap (λ (x : Tally). of b.guest x a.marks a.exceptions) t
    ∙ ap (λ (x : List Plain). of b.guest b.tally x a.exceptions) m ∙ ap (of b.guest b.tally b.marks) e

same_guest : (a b : Guested) → a.machine.cpu ≡ b.machine.cpu → a.machine.world.ram ≡ b.machine.world.ram → a.machine.world.mmu ≡ b.machine.world.mmu
    → a.machine.world.devices ≡ b.machine.world.devices → a.machine.world.kept ≡ b.machine.world.kept → a.machine.steps ≡ b.machine.steps
    → a.machine.state ≡ b.machine.state → a.shadow ≡ b.shadow → a ≡ b
same_guest a b c r m d k n s h =
    let of : Cpu → List ℕ → Mmu → DeviceState → KeptLists → ℕ → RunState → Shadowed → Guested =
    λ c r m d k n s h. record { machine = record { cpu = c; world = record { ram = r; mmu = m; devices = d; kept = k }; steps = n; state = s }; shadow = h } in
    let w = a.machine.world in
    let v = b.machine.world in
    ap (λ (x : Cpu). of x w.ram w.mmu w.devices w.kept a.machine.steps a.machine.state a.shadow) c
    ∙ ap (λ (x : List ℕ). of b.machine.cpu x w.mmu w.devices w.kept a.machine.steps a.machine.state a.shadow) r
    ∙ ap (λ (x : Mmu). of b.machine.cpu v.ram x w.devices w.kept a.machine.steps a.machine.state a.shadow) m
    ∙ ap (λ (x : DeviceState). of b.machine.cpu v.ram v.mmu x w.kept a.machine.steps a.machine.state a.shadow) d
    ∙ ap (λ (x : KeptLists). of b.machine.cpu v.ram v.mmu v.devices x a.machine.steps a.machine.state a.shadow) k
    ∙ ap (λ (x : ℕ). of b.machine.cpu v.ram v.mmu v.devices v.kept x a.machine.state a.shadow) n
    ∙ ap (λ (x : RunState). of b.machine.cpu v.ram v.mmu v.devices v.kept b.machine.steps x a.shadow) s
    ∙ ap (λ (x : Shadowed). of b.machine.cpu v.ram v.mmu v.devices v.kept b.machine.steps b.machine.state x) h

-- as many address registers on both
same_count : (r q : Regs) → plain_of r ≡ plain_of q → length r.a ≡ 7 → length q.a ≡ 7
same_count r q e h =
    let one = length-append r.a (active_stack r ∷ []) in
    let two = length-append q.a (active_stack q ∷ []) in
    let same = ap (λ (p : Plain). length p.a) e in
    omega arith

pub stands_of : (g : Seat) (ram : List ℕ) → IsSeated g ram → AreBytes ram → length ram ≤ 2 ^ 32 → Stands (site_of g) ram (bus_side (guested_on g ram))
stands_of g ram s bytes small = record {
  bytes = bytes;
  maps = s.maps;
  under = (let e = s.area in omega arith);
  whole = (let e = s.aligned in omega arith);
  ram_is = refl;
  shadow = s.tables;
  truthful = s.truthful;
  table = (let e = s.behind in omega arith);
  small = small;
}

-- ---- within

only_within : (g : Seat) (ram after : List ℕ) → IsSeated g ram → IsInside (site_of g) ram after → OnlyWithin g ram after
only_within g ram after s i = record {
  count = i.count;
  below = between after ram g.base MONITOR_BYTES i.below s.behind;
  above = beyond after ram (g.base + g.size) AREA_BYTES i.above;
}

-- ---- the turn

pub is_counted : (x : Site) (k : ℕ) (r after : Ran) (t : Turned) (g : Seat) → after.end ≡ Counted → (b : Batch x g.script k r t after)
    → (b.retired ≡ k) × IsCounted x (turn_of g.script b.retired t) r after
is_counted x k r after t g e b = elim b.end [
  | inl h ↦ h
  | inr (few, h) ↦ absurd (let z : Counted ≡ Exit h.vector = sym e ∙ h.end in let y : ⊥ = cc in y)
]

pub batches_take : BatchesTake
batches_take g c world steps state native before n s bytes small running on seven cpu set stretch tallied has =
    let ram = world.ram in
    let k = suc n in
    let x = site_of g in
    let guest = guested_on g ram in
    let r = about_to_run (ready_for c world steps state guest) native before in
    let after = user_run k r in
    let t = turned_on g ram [] 0 in
    let ready = boards_are_ready x c world steps state guest cpu set refl seven (stands_of g ram s bytes small) in
    let b = runs_are_batches x g.script k r t refl ready.0 ready.1 (λ some. running) (λ more. on (omega arith)) stretch in
    let (all, done) = is_counted x k r after t g tallied b in
    let u = turn_of g.script b.retired t in
    let v = stepped_by g.script b.retired guest in
    let is_v : u.guest ≡ v = b.guest in
    let left : IsAfter b.retired guest v = retired_steps_leave x g.script b.retired r.machine guest ready.0 b.all in
    let related = done.boarded.related in
    let seat = settled (retired_seat g k k (plain_of after.machine.cpu.regs) (stepped_by g.script k guest).machine.world.devices) in
    let ram' = after.machine.world.ram in
    let plain : plain_of after.machine.cpu.regs ≡ plain_of v.machine.cpu.regs = done.boarded.plain ∙ ap (λ (q : Guested). plain_of q.machine.cpu.regs) is_v in
    let cpu_is : seat.cpu ≡ v.machine.cpu =
    ap (λ (p : Plain). with_registers p g.cpu) plain ∙ left.cpu (same_count after.machine.cpu.regs v.machine.cpu.regs plain has) in
    let shadow_is : u.guest.shadow ≡ shadow_on g ram = ap (λ (q : Guested). q.shadow) is_v ∙ left.shadow in
    let tables : shadowed g.slots ram' ≡ shadowed g.slots ram = related.shadow ∙ ap (λ (h : Shadowed). on_board g.base h) shadow_is ∙ sym s.tables in
    let same : guested_on seat ram' ≡ u.guest = same_guest (guested_on seat ram') v cpu_is
    (related.ram ∙ ap (λ (q : Guested). q.machine.world.ram) is_v)
    (sym left.mmu)
    (ap (λ (n : ℕ). (stepped_by g.script n guest).machine.world.devices) (sym all))
    (sym left.kept)
    (ap (λ (n : ℕ). g.steps + n) (sym all) ∙ sym left.steps)
    (ap (λ (c : Cpu). going c seat.devices) cpu_is
    ∙ ap (λ (n : ℕ). going v.machine.cpu (stepped_by g.script n guest).machine.world.devices) (sym all) ∙ sym (left.state (omega (arith, all))))
    (ap (λ (h : Shadowed). own g.base h) tables ∙ sym left.shadow)
    ∙ sym is_v in
    let tally_is : seat.tally ≡ u.tally = ap (λ (n : ℕ). (let o : Tally = record g.tally { retired = g.tally.retired + n } in o)) (sym all) ∙ sym b.tally in
    record {
      marks = b.marks;
      left_times = 0;
      turned = same_turned (turned_on seat ram' b.marks 0) u same tally_is (sym b.marked) (sym b.unleft) ∙ ap (λ (n : ℕ). turn_of g.script n t) all;
      same = record { script = refl; base = refl; size = refl; area = refl };
      seated = record {
        aligned = s.aligned;
        whole = s.whole;
        behind = s.behind;
        inside = subst (λ (n : ℕ). end_of g ≤ n) (sym done.inside.count) s.inside;
        area = s.area;
        maps = related.maps;
        tables = related.shadow ∙ ap (λ (q : Guested). on_board g.base q.shadow) (sym same);
        truthful = subst (λ (q : Guested). Truthful g.size (bus_side q)) (sym same) related.truthful;
      };
      within = only_within g ram ram' s done.inside;
      retired = (let e = b.counted in omega arith);
      trail = b.sum;
      exceptions = (let e = done.exceptions in omega arith);
    }

-- ---- a run that the board left

is_exit : (x : Site) (k v : ℕ) (r after : Ran) (t : Turned) (g : Seat) → after.end ≡ Exit v → (b : Batch x g.script k r t after)
    → (b.retired < k) × IsExit x g.script (turn_of g.script b.retired t) r after
is_exit x k v r after t g e b = elim b.end [
  | inl (all, h) ↦ absurd (let z : Counted ≡ Exit v = sym h.end ∙ e in let y : ⊥ = cc in y)
  | inr h ↦ h
]

-- what the board leaves so, and does not begin again, it leaves by one exception
one_exception_by : (a b : Bool) → exceptions_of (cond a class.Denied (cond b class.Privileged class.Trapped)) 0 ≡ 1
one_exception_by true b = omega arith
one_exception_by false true = omega arith
one_exception_by false false = omega arith

one_exception : (v : ℕ) → exceptions_of (class_of_vector v) 0 ≡ 1
one_exception v = one_exception_by (v == ACCESS_ERROR) (is_refusal v)

exit_keeps_by : (a b : Bool) (t : Tally) → (tallied (cond a class.Denied (cond b class.Privileged class.Trapped)) t).retired ≡ t.retired
exit_keeps_by true b t = refl
exit_keeps_by false true t = refl
exit_keeps_by false false t = refl

exit_keeps : (v : ℕ) (t : Tally) → (tallied (class_of_vector v) t).retired ≡ t.retired
exit_keeps v t = exit_keeps_by (v == ACCESS_ERROR) (is_refusal v) t

no_marks_by : (a b : Bool) (before after : Cpu) → marks_of (cond a class.Denied (cond b class.Privileged class.Trapped)) before after ≡ []
no_marks_by true b before after = refl
no_marks_by false true before after = refl
no_marks_by false false before after = refl

no_marks : (v : ℕ) (before after : Cpu) → marks_of (class_of_vector v) before after ≡ []
no_marks v before after = no_marks_by (v == ACCESS_ERROR) (is_refusal v) before after

nothing_more : (xs : List Plain) → xs ++ [] ≡ xs
nothing_more [] = refl
nothing_more (x ∷ xs) = ap (λ (l : List Plain). x ∷ l) (nothing_more xs)

left_tried : (v : ℕ) → IsTried (class_of_vector v)
left_tried v = by_tests (v == ACCESS_ERROR) (is_refusal v)
  where
    by_tests : (a b : Bool) → IsTried (cond a class.Denied (cond b class.Privileged class.Trapped))
    by_tests true b = tt
    by_tests false true = tt
    by_tests false false = tt

-- the first attempt of a step that the board left
attempted : (script : Entries) (g : Guested) (v : ℕ) → class_of_vector v ≡ step_class_at_first script g → let b = guest_begun script g in
    IsAttemptOf (asked_of script b.machine) b.machine.cpu (bus_side b) (class_of_vector v)
attempted script g v e = let b = guest_begun script g in
    is_attempt (asked_of script b.machine) b.machine.cpu (bus_side b) (class_of_vector v) (sym e) (left_tried v)

pub no_refills : (c : Class) (t : Tally) → with_refills c 0 t ≡ t
no_refills class.Retired t = refl
no_refills class.Entered t = refl
no_refills class.Idle t = refl
no_refills class.Traced t = refl
no_refills class.Privileged t = refl
no_refills class.Denied t = refl
no_refills class.Trapped t = refl

same_vector : (v n : ℕ) → finish.Entered v ≡ finish.Entered n → v ≡ n
same_vector v n e = cc

first_is : (script : Entries) (g : Guested) → let b = guest_begun script g in
    step_class_at_first script g ≡ class_at_first (asked_of script b.machine) b.machine.cpu (bus_side b)
first_is script g = refl

pub exits_take : ExitsTake
exits_take g c world steps state native before k v s bytes small running on seven cpu low set stretch exits_at wide =
    let ram = world.ram in
    let x = site_of g in
    let guest = guested_on g ram in
    let r = about_to_run (ready_for c world steps state guest) native before in
    let after = user_run k r in
    let t = turned_on g ram [] 0 in
    let ready = boards_are_ready x c world steps state guest cpu set refl seven (stands_of g ram s bytes small) in
    let b = runs_are_batches x g.script k r t refl ready.0 ready.1 (λ some. running) on stretch in
    let (few, h) = is_exit x k v r after t g exits_at b in
    let j = b.retired in
    let u = turn_of g.script j t in
    let w = stepped_by g.script j guest in
    let is_w : u.guest ≡ w = b.guest in
    let running_there : u.guest.machine.state ≡ Running = b.running few in
    let goes_there : takes_steps u.guest.machine.state ≡ true = ap takes_steps running_there in
    let left : IsAfter j guest w = retired_steps_leave x g.script j r.machine guest ready.0 b.all in
    let begun = (guest_begun g.script w).machine.world.devices in
    let mid = retired_seat g j j after.before begun in
    let ram' = after.machine.world.ram in
    let related = h.left.related in
    let seven_w : length w.machine.cpu.regs.a ≡ 7 = subst (λ (q : Guested). length q.machine.cpu.regs.a ≡ 7) is_w h.seven in
    let cpu_is : mid.cpu ≡ w.machine.cpu =
    ap (λ (p : Plain). with_registers p g.cpu) (h.before ∙ ap (λ (q : Guested). plain_of q.machine.cpu.regs) is_w) ∙ left.cpu seven_w in
    let shadow_is : u.guest.shadow ≡ shadow_on g ram = ap (λ (q : Guested). q.shadow) is_w ∙ left.shadow in
    let tables : shadowed g.slots ram' ≡ shadowed g.slots ram = related.shadow ∙ ap (λ (q : Shadowed). on_board g.base q) shadow_is ∙ sym s.tables in
    let opened : Guested =
    record {
      machine = record (guest_begun g.script w).machine {
        world =
            record (guest_begun g.script w).machine.world { ram = part ram' g.base g.size };
      };
      shadow = w.shadow;
    } in
    let same : guested_on mid ram' ≡ opened = same_guest (guested_on mid ram') opened cpu_is refl (sym left.mmu) refl (sym left.kept) (sym left.steps)
    (running ∙ sym running_there ∙ ap (λ (q : Guested). q.machine.state) is_w) (ap (λ (q : Shadowed). own g.base q) tables ∙ sym left.shadow) in
    let of : Guested → Guest = λ q. left_guest x ram' (bus_side (guest_begun g.script q)) in
    let world_is : bus_side (guested_on mid ram') ≡ of u.guest = ap bus_side same ∙ ap of (sym is_w) in
    let top : h.last.cpu.regs.isp ≤ MONITOR_BYTES =
    subst (λ (n : ℕ). n ≤ MONITOR_BYTES) (sym (h.isp ∙ (is_set (plain_of g.cpu.regs) c (ap is_supervisor cpu.status)).isp)) low in
    let within_left : OnlyWithin g ram ram' = record {
      count = h.left.count ∙ h.inside.count;
      below = h.left.between MONITOR_BYTES top s.behind ∙ between h.last.world.ram ram g.base MONITOR_BYTES h.inside.below s.behind;
      above = beyond ram' ram (g.base + g.size) AREA_BYTES (h.left.above ∙ h.inside.above);
    } in
    let frame = h.left.frame in
    let handed = handed_by after.machine.cpu.regs frame in
    let with_rest : Guested → ℕ → Guested = λ q n. guest_later q.machine
    (run guest_bus (rest_by_frame h.vector (frame_access frame) n q.machine.cpu handed) (bus_side q)) in
    let rest_at : Guested → Guested = λ q. let o = guest_begun g.script q in guest_later o.machine
    (run guest_bus (rest_by_frame h.vector (frame_access frame) (asked_of g.script o.machine) o.machine.cpu handed) (of q)) in
    let later : Turned = by_class (class_of_vector h.vector) 0 (rest_at u.guest) u in
    let o = guest_begun g.script u.guest in
    let turn_is : begun_again o.machine.cpu (bus_side o) ≡ None → turn_of g.script (j + 1) t ≡ later = λ last.
    turns_add g.script j 1 t ∙ going_turn g.script 0 u goes_there ∙ nothing_turned g.script (advanced g.script u)
    ∙ exits_advance x g.script u h.vector h.last after.machine h.left wide last in
    let present : space_of mid.cpu ≡ x.space =
    ap space_of (cpu_is ∙ ap (λ (q : Guested). q.machine.cpu) (sym is_w)) ∙ h.boarded.present in
    let again_is : refilled_at (bus_side (guested_on mid ram')) (read_by_frame (space_of mid.cpu) frame) ≡ begun_again o.machine.cpu (bus_side o) =
    ap (λ (s : Space). refilled_at (bus_side (guested_on mid ram')) (read_by_frame s frame)) present
    ∙ ap (λ (q : Guest). refilled_at q (read_by_frame x.space frame)) world_is ∙ h.left.again in
    let seated : IsSeated mid ram' = record {
      aligned = s.aligned;
      whole = s.whole;
      behind = s.behind;
      inside = subst (λ (n : ℕ). end_of g ≤ n) (sym (h.left.count ∙ h.inside.count)) s.inside;
      area = s.area;
      maps = related.maps;
      tables = related.shadow ∙ ap (λ (q : Guest). on_board g.base q.shadow) (sym world_is);
      truthful = subst (λ (q : Guest). Truthful g.size q) (sym world_is) related.truthful;
    } in
    let now = bus_side (guested_on mid ram') in
    let stays_by : (r : Reference) → read_by_frame (space_of mid.cpu) frame ≡ Some r → now ≡ bus_side o = λ r told.
    world_is ∙ h.left.still r (ap (λ (p : Space). read_by_frame p frame) (sym present) ∙ told) in
    let cpu_there : mid.cpu ≡ o.machine.cpu = cpu_is ∙ ap (λ (q : Guested). q.machine.cpu) (sym is_w) in
    let attempt = attempted g.script u.guest h.left.vector h.left.class in
    let lo = asked_of g.script o.machine in
    let level_there : level_of begun ≡ lo = ap (λ (p : Guested). level_of (guest_begun g.script p).machine.world.devices) (sym is_w)
    ∙ sym (asked_masked g.script (o.machine.steps + 1) o.machine.world.devices o.machine.cpu attempt.masked) in
    let level_w : level_of begun ≡ asked_of g.script (guest_begun g.script w).machine =
    level_there ∙ ap (λ (p : Guested). asked_of g.script (guest_begun g.script p).machine) is_w in
    record {
      retired = j;
      few = few;
      all = b.all;
      vector = h.vector;
      end = h.end;
      frame = frame;
      stands = h.left.stands;
      room = h.left.room;
      fits = h.left.fits;
      read_back = h.left.read_back;
      lawful = h.left.lawful;
      begun = begun;
      begins = refl;
      counts = b.counted;
      exceptions = h.exceptions;
      cpu = cpu_is;
      class = ap class_of_vector (same_vector h.vector h.left.vector h.left.entered) ∙ h.left.class ∙ ap (λ (q : Guested). step_class_at_first g.script q) is_w;
      read = again_is ∙ ap (λ (q : Guested). (let p = guest_begun g.script q in begun_again p.machine.cpu (bus_side p))) is_w;
      still = λ r told. stays_by r told ∙ ap (λ (q : Guested). bus_side (guest_begun g.script q)) is_w;
      seated = seated;
      within = within_left;
      goes = h.left.running;
      set = record {
        mmu = h.left.mmu ∙ h.furnished.mmu ∙ ap (λ (p : Space). native_mmu (root_of x.slots.area p)) (sym present);
        on = h.left.on;
        kept = subst (λ (p : Space). AllAgree (mapping (record x { space = p }) ram') after.machine.world.kept) (sym present) related.kept;
      };
      again = λ fine q e.
          let (read, told) = some_read now q (read_by_frame (space_of mid.cpu) frame) e in
          let stays : now ≡ bus_side o = stays_by read told in
          let vector_is : h.vector ≡ h.left.vector = same_vector h.vector h.left.vector h.left.entered in
          let rests = λ (l : ℕ) (c : Cpu) (p : Guest). run guest_bus (rest_by_frame h.vector (frame_access frame) l c handed) p in
          let steps_on = λ (l : ℕ) (c : Cpu) (p : Guest). run guest_bus (step_of l c) p in (
            record {
              turn = u;
              taken = refl;
              goes = goes_there;
              masked = attempt.masked;
              untraced = attempt.plain;
              registers = h.fit;
              fine = subst (Fine g.size) stays fine;
              opened = ap (λ (p : Guested). p.machine) same
                  ∙ ap (λ (v : World). record (guest_begun g.script w).machine { world = v }) (ap (λ (p : Guested). p.machine.world) (sym same))
                  ∙ ap (λ (p : Guested). record (guest_begun g.script p).machine { world = (machine_on mid ram').world }) (sym is_w);
              begun = stays;
              few = omega arith;
              tally = sym b.tally;
              same = record { script = refl; base = refl; size = refl; area = refl };
              seated = seated;
              within = within_left;
              retired = (let n = b.counted in omega arith);
              trail_is = b.sum ∙ ap (λ (l : List Plain). trail native.trail l) (sym b.marked);
              exceptions = (let n = h.exceptions in let z = b.unleft in omega arith);
            },
            ap (λ (c : Cpu). begun_again c now) cpu_there ∙ ap (begun_again o.machine.cpu) stays ∙ sym again_is ∙ e,
            ap class_of_vector vector_is ∙ h.left.class ∙ first_is g.script u.guest
                ∙ ap (λ (l : ℕ). class_at_first l o.machine.cpu (bus_side o)) (sym level_there)
                ∙ ap (λ (c : Cpu). class_at_first (level_of begun) c (bus_side o)) (sym cpu_there)
                ∙ ap (class_at_first (level_of begun) mid.cpu) (sym stays),
            ap (λ (l : ℕ). rests l mid.cpu now) level_there ∙ ap (λ (c : Cpu). rests lo c now) cpu_there ∙ ap (rests lo o.machine.cpu) world_is
                ∙ ap (λ (i : ℕ). run guest_bus (rest_by_frame i (frame_access frame) lo o.machine.cpu handed) (of u.guest)) vector_is
                ∙ sym (h.left.rest wide) ∙ ap (steps_on lo o.machine.cpu) (sym stays) ∙ ap (λ (c : Cpu). steps_on lo c now) (sym cpu_there)
                ∙ ap (λ (l : ℕ). steps_on l mid.cpu now) (sym level_there),
          );
      turn = λ seat next last e tally is seated within. record {
        marks = b.marks;
        left_times = 1;
        turned = same_turned (turned_on seat next b.marks 1) later (e ∙ ap (λ (q : Guested). with_rest q (level_of begun)) same
            ∙ ap (λ (l : ℕ). with_rest opened l) level_w ∙ ap rest_at (sym is_w))
            (tally ∙ ap (λ (q : Tally). tallied (class_of_vector h.vector) q) (sym b.tally)
            ∙ sym (no_refills (class_of_vector h.vector) (tallied (class_of_vector h.vector) u.tally)))
            (sym (ap (λ (l : List Plain). u.marks ++ l) (no_marks h.vector u.guest.machine.cpu (rest_at u.guest).machine.cpu) ∙ nothing_more u.marks
            ∙ b.marked))
            (let one = one_exception h.vector in let z = b.unleft in omega arith)
            ∙ sym (turn_is (sym again_is ∙ last));
        same = record { script = is.script; base = is.base; size = is.size; area = is.area };
        seated = seated;
        within = record { count = within.count ∙ within_left.count; below = within.below ∙ within_left.below; above = within.above ∙ within_left.above };
        retired = (let e = b.counted in let f = ap (λ (q : Tally). q.retired) tally ∙ exit_keeps h.vector mid.tally in omega arith);
        trail = b.sum;
        exceptions = h.exceptions;
      };
    }
