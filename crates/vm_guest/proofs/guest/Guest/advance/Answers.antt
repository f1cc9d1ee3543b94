use Rattle.std.proofs.Common.{◌≡◌, ◌∙◌, ◌+◌, ◌-◌, ℕ, suc, List, Some, refl, ap, sym, subst, arith}
use Rattle.mb_port.specs.Routine.{run}
use Rattle.mb_instr.specs.declared.registers.Plain.{Plain}
use Rattle.mb_instr.specs.Registers.{plain_of}
use Rattle.mb_model.specs.declared.processor.Cpu.{Cpu}
use Rattle.mb_devices.specs.Devices.{passed, IsNotDue}
use Rattle.mb_board.specs.State.{ran_to}
use Rattle.def_guests.specs.declared.class.Class.{Class}
use Rattle.def_guests.specs.Bus.{guest_bus}
use Rattle.def_guests.specs.Seats.{Seat, IsSeated, Takes, guested_on}
use Rattle.def_guests.specs.Turns.{bus_side}
use Rattle.vm_guest.specs.Counting.{NoneDue}
use Rattle.law_turns.specs.Taking.{retired_seat, settled}
use Rattle.vm_guest.specs.Native.{run_on}
use Rattle.vm_guest.specs.declared.rest.Rest.TheVariants.{Whole}
use Rattle.vm_guest.specs.Rests.{rest_in}
use Rattle.vm_guest.specs.Stops.{IsStopped}
use Rattle.vm_guest.proofs.Stops.{begun_ready, idle_ready, stays_ready}
use Rattle.vm_guest.specs.Turns.{ended_at, scene}
use Rattle.vm_guest.specs.contracts.guest.Guest.{the_view}
use Rattle.vm_guest.proofs.Runs.{MayRunOn, fewer}
use Rattle.vm_guest.proofs.Stretches.{fewer_due}
use Rattle.vm_guest.proofs.Watching.{both}
use Rattle.vm_guest.proofs.Advances.{Leaving, asked_is, assisted_by, awake, awake_seated, awake_takes, counted_by, counted_native_by}
use Rattle.vm_guest.proofs.Advances.{counted_ready_by}
use Rattle.vm_guest.proofs.Advances.{found_by, idle_by, idles_by}
use Rattle.vm_guest.proofs.Advances.{leaving, may_by, never_gone_by, stands, stops}
use Rattle.vm_guest.proofs.guest.Guest.advance.Goals as goal
use Rattle.vm_guest.proofs.guest.Guest.advance.Goals.{After-run_board, After-retired, After-settle, After-go_on-in-Exit}

-- ---- a step in which the board has no part

pub assist-stays-requires-clause-seated : goal.assist-stays-requires-clause-seated
assist-stays-requires-clause-seated c = stands c.args.self.now c.begin-level.new.self c.args.board.now.world.ram c.begin-level.ensures.begun c.requires.seated

pub returns-in-Some-clause-takes : goal.returns-in-Some-clause-takes
returns-in-Some-clause-takes c =
    let b = c.begin-level.new.self in
    let w = bus_side (guested_on b c.args.board.now.world.ram) in
    assisted_by c.args.self.now b c.assist-stays.new.self c.args.board.now.world.ram c.assist-stays.new.board.world.ram c.args.native.now c.in-Some.class
    c.begin-level.ensures.begun c.requires.takes
    (record {
      class = asked_is b (the_view c.self.inside) c.begin-level.result c.self.view_is c.begin-level.ensures.level ∙ sym c.assisted.ensures ∙ c.in-Some.is;
      means = c.assist-stays.ensures.means
          ∙ ap (λ (level : ℕ). ended_at b.steps (run guest_bus (rest_in Whole level b.cpu) w)) c.begin-level.ensures.level;
      tally = c.assist-stays.ensures.tally;
      same = c.assist-stays.ensures.same;
      within = c.assist-stays.ensures.within;
    })
    c.requires.seated c.assist-stays.ensures.seated

pub returns-in-Some-clause-ready : goal.returns-in-Some-clause-ready
returns-in-Some-clause-ready c = λ so.
    let b = c.begin-level.new.self in
    let (was, stays) = both c.args.ready c.assist-stays.result so in
    stays_ready b c.assist-stays.new.self c.args.board.now c.assist-stays.new.board
    (begun_ready c.args.self.now b c.args.board.now c.begin-level.ensures.begun (c.requires.ready was))
    (stands c.args.self.now b c.args.board.now.world.ram c.begin-level.ensures.begun c.requires.seated)
    c.assist-stays.ensures.seated c.assist-stays.ensures.same (c.assist-stays.ensures.stays stays) c.assist-stays.ensures.others

-- ---- idle steps

pub returns-in-Idle-clause-takes : goal.returns-in-Idle-clause-takes
returns-in-Idle-clause-takes c =
    let b = c.begin-level.new.self in
    let n = c.more_steps-more.result in
    let within = c.more_steps-more.ensures.within in
    idle_by c.args.self.now b c.idle_on.new.self c.args.board.now.world.ram c.args.native.now n c.begin-level.ensures.begun c.requires.seated
    c.requires.takes
    (idles_by b (the_view c.self.inside) n c.begin-level.result c.self.view_is c.begin-level.ensures.level
    (sym c.assisted.ensures ∙ c.in-Some.is ∙ ap (λ (k : Class). Some k) c.in-Idle.is) c.more_steps-more.ensures.none c.more_steps-more.ensures.due
    (λ some. c.steps_behind.ensures.on (omega (arith, some, within))))
    c.idle_on.ensures

-- ---- the board's run

pub ready_board-requires-clause-seated : goal.ready_board-requires-clause-seated
ready_board-requires-clause-seated c =
    stands c.args.self.now c.begin-level.new.self c.args.board.now.world.ram c.begin-level.ensures.begun c.requires.seated

pub ready_board-requires-clause-ready : goal.ready_board-requires-clause-ready
ready_board-requires-clause-ready c = λ so.
    begun_ready c.args.self.now c.begin-level.new.self c.args.board.now c.begin-level.ensures.begun (c.requires.ready so)

pub run_board-requires-clause-seated : goal.run_board-requires-clause-seated
run_board-requires-clause-seated c =
    subst (λ (ram : List ℕ). IsSeated c.begin-level.new.self ram) (sym c.ready_board.ensures.ram)
    (stands c.args.self.now c.begin-level.new.self c.args.board.now.world.ram c.begin-level.ensures.begun c.requires.seated)

seated : (c : After-run_board) → IsSeated c.args.self.now c.ready_board.new.board.world.ram
seated c = subst (λ (ram : List ℕ). IsSeated c.args.self.now ram) (sym c.ready_board.ensures.ram) c.requires.seated

may : (c : After-run_board)
    → MayRunOn (awake c.args.self.now) c.ready_board.new.board c.args.native.now c.more_steps-more.result
may c =
    let b = c.begin-level.new.self in
    let board = c.ready_board.new.board in
    let native = c.args.native.now in
    let n = c.more_steps-more.result in
    let ran = c.run_board.ensures in
    let within = c.more_steps-more.ensures.within in
    may_by (awake c.args.self.now) b board native n c.begin-level.ensures.begun (awake_seated c.args.self.now board.world.ram (seated c)) refl
    (found_by b (the_view c.self.inside) board native n c.begin-level.result c.self.view_is c.begin-level.ensures.level
    (sym c.assisted.ensures ∙ c.in_default.is) c.more_steps-more.ensures.none c.more_steps-more.ensures.due
    (λ some. c.steps_behind.ensures.on (omega (arith, some, within))) ran.seven c.ready_board.ensures.ready.set ran.bytes.0 ran.bytes.1 ran.fit)

ran : (c : After-run_board) → ran_to c.run_board.result c.run_board.new.board c.run_board.new.native
    ≡ run_on c.begin-level.new.self c.ready_board.new.board c.args.native.now (suc c.more_steps-more.result)
ran c =
    let n = c.more_steps-more.result in
    c.run_board.ensures.means
    ∙ ap (λ (k : ℕ). run_on c.begin-level.new.self c.ready_board.new.board c.args.native.now k)
    (let e : n + 1 ≡ suc n = omega arith in e)

pub unreachable-requires : goal.unreachable-requires
unreachable-requires c =
    let r = (goal.at.unreachable-requires c).After-run_board in
    never_gone_by (awake c.args.self.now) c.begin-level.new.self c.ready_board.new.board c.args.native.now
    c.more_steps-more.result (ran_to c.run_board.result c.run_board.new.board c.run_board.new.native) c.begin-level.ensures.begun (may r) (ran r)
    c.in-Gone.is

-- ---- counted to its end

-- the guest that it hands back
handed_back : (c : After-settle)
    → MayRunOn (awake c.args.self.now) c.ready_board.new.board c.args.native.now c.more_steps-more.result
    → ran_to c.run_board.result c.run_board.new.board c.run_board.new.native
    ≡ run_on c.begin-level.new.self c.ready_board.new.board c.args.native.now (suc c.more_steps-more.result)
    → Takes (c.more_steps-more.result + 1) (scene c.args.self.now c.ready_board.new.board.world.ram c.args.native.now)
    (scene c.settle.new.self c.run_board.new.board.world.ram c.run_board.new.native)
handed_back c may ran =
    let n = c.more_steps-more.result in
    let more : n + 1 ≡ suc n = omega arith in
    let b = c.begin-level.new.self in
    awake_takes c.args.self.now c.ready_board.new.board.world.ram c.args.native.now (n + 1)
    (scene c.settle.new.self c.run_board.new.board.world.ram c.run_board.new.native) (omega arith) c.requires.takes
    (subst (λ (k : ℕ). Takes k (scene (awake c.args.self.now) c.ready_board.new.board.world.ram c.args.native.now)
    (scene c.settle.new.self c.run_board.new.board.world.ram c.run_board.new.native)) (sym more)
    (counted_by (awake c.args.self.now) b c.settle.new.self c.ready_board.new.board c.args.native.now n
    (ran_to c.run_board.result c.run_board.new.board c.run_board.new.native) c.plain.result c.begin-level.ensures.begun may ran c.in-Counted.is
    c.run_board.ensures.wide (c.plain.ensures.means ∙ ap (λ (p : Cpu). plain_of p.regs) c.cpu.ensures)
    (c.settle.ensures ∙ ap settled (c.go_on.ensures ∙ ap (λ (k : ℕ). retired_seat b n k c.plain.result (passed n b.devices)) more))))

pub returns-in-Counted-clause-takes : goal.returns-in-Counted-clause-takes
returns-in-Counted-clause-takes c =
    let r = (goal.at.returns-in-Counted-clause-takes c).After-run_board in
    subst (λ (ram : List ℕ). Takes (c.more_steps-more.result + 1) (scene c.args.self.now ram c.args.native.now)
    (scene c.settle.new.self c.run_board.new.board.world.ram c.run_board.new.native)) c.ready_board.ensures.ram
    (handed_back c (may r) (ran r))

pub returns-in-Counted-clause-native : goal.returns-in-Counted-clause-native
returns-in-Counted-clause-native c =
    let r = (goal.at.returns-in-Counted-clause-native c).After-run_board in
    let n = c.more_steps-more.result in
    let counts = counted_native_by (awake c.args.self.now) c.begin-level.new.self c.ready_board.new.board c.args.native.now n
    (ran_to c.run_board.result c.run_board.new.board c.run_board.new.native) c.begin-level.ensures.begun (may r) (ran r) c.in-Counted.is in
    let retired : c.run_board.new.native.retired ≡ c.args.native.now.retired + suc n = counts.0 in
    let exceptions : c.run_board.new.native.exceptions ≡ c.args.native.now.exceptions = counts.1 in
    (omega (arith, retired), omega (arith, exceptions))

-- ---- left

left : (c : After-retired) → MayRunOn (awake c.args.self.now) c.ready_board.new.board c.args.native.now c.more_steps-more.result
    → ran_to c.run_board.result c.run_board.new.board c.run_board.new.native
    ≡ run_on c.begin-level.new.self c.ready_board.new.board c.args.native.now (suc c.more_steps-more.result)
    → Leaving c.args.native.now c.more_steps-more.result c.run_board.new.board c.run_board.new.native (c.retired.result - c.retired-before.result)
left c may ran =
    leaving (awake c.args.self.now) c.begin-level.new.self c.ready_board.new.board c.args.native.now c.more_steps-more.result
    c.run_board.result c.run_board.new.board c.run_board.new.native c.in-Exit.vector (c.retired.result - c.retired-before.result)
    c.begin-level.ensures.begun may ran c.in-Exit.is c.run_board.ensures.wide
    (ap (λ (k : ℕ). k - c.retired-before.result) c.retired.ensures ∙ ap (λ (k : ℕ). c.run_board.new.native.retired - k) c.retired-before.ensures)

pub overflow_sub-retired : goal.overflow_sub-retired
overflow_sub-retired c =
    let r = (goal.at.overflow_sub-retired c).After-run_board in
    let counts = (left c (may r) (ran r)).retired in
    let now = c.retired.ensures in
    let before = c.retired-before.ensures in
    omega (arith, counts, now, before)

pub overflow_cast-retired : goal.overflow_cast-retired
overflow_cast-retired c =
    let r = (goal.at.overflow_cast-retired c).After-run_board in
    let few = (left c (may r) (ran r)).few in
    let fits = c.more_steps-more.type_inv in
    omega (arith, few, fits)

pub go_on-requires-in-Exit-clause-room : goal.go_on-requires-in-Exit-clause-room
go_on-requires-in-Exit-clause-room c =
    let r = goal.at.go_on-requires-in-Exit-clause-room c in
    let few = (left r.After-retired (may r.After-run_board) (ran r.After-run_board)).few in
    let within = c.more_steps-more.ensures.within in
    let behind = c.steps_behind.ensures.within in
    let steps = ap (λ (s : Seat). s.steps) c.begin-level.ensures.begun in
    let some = c.requires.limit in
    let room = c.requires.room in
    omega (arith, few, within, behind, steps, some, room)

pub go_on-requires-in-Exit-clause-none : goal.go_on-requires-in-Exit-clause-none
go_on-requires-in-Exit-clause-none c =
    let r = goal.at.go_on-requires-in-Exit-clause-none c in
    let b = c.begin-level.new.self in
    let n = c.more_steps-more.result in
    fewer_due b.script b.steps n (c.retired.result - c.retired-before.result) (left r.After-retired (may r.After-run_board) (ran r.After-run_board)).few
    (subst (λ (s : Seat). NoneDue s.script s.steps n) c.self.view_is c.more_steps-more.ensures.none)

pub go_on-requires-in-Exit-clause-due : goal.go_on-requires-in-Exit-clause-due
go_on-requires-in-Exit-clause-due c =
    let r = goal.at.go_on-requires-in-Exit-clause-due c in
    let n = c.more_steps-more.result in
    fewer n (c.retired.result - c.retired-before.result) c.begin-level.new.self.devices
    (left r.After-retired (may r.After-run_board) (ran r.After-run_board)).few
    (subst (λ (s : Seat). IsNotDue n s.devices) c.self.view_is c.more_steps-more.ensures.due)

-- the guest in the middle of that step
stopped : (c : After-go_on-in-Exit)
    → MayRunOn (awake c.args.self.now) c.ready_board.new.board c.args.native.now c.more_steps-more.result
    → ran_to c.run_board.result c.run_board.new.board c.run_board.new.native
    ≡ run_on c.begin-level.new.self c.ready_board.new.board c.args.native.now (suc c.more_steps-more.result)
    → IsStopped (awake c.args.self.now) c.ready_board.new.board.world.ram c.args.native.now (c.retired.result - c.retired-before.result) 0
    c.go_on-in-Exit.new.self c.run_board.new.board c.run_board.new.native c.in-Exit.vector
stopped c could went =
    let n = c.retired.result - c.retired-before.result in
    stops (awake c.args.self.now) c.begin-level.new.self c.go_on-in-Exit.new.self c.ready_board.new.board c.args.native.now
    c.more_steps-more.result c.run_board.result c.run_board.new.board c.run_board.new.native c.in-Exit.vector n c.begin-level.ensures.begun could went
    c.in-Exit.is c.run_board.ensures.wide
    (ap (λ (k : ℕ). k - c.retired-before.result) c.retired.ensures ∙ ap (λ (k : ℕ). c.run_board.new.native.retired - k) c.retired-before.ensures)
    (c.go_on-in-Exit.ensures ∙ ap (λ (p : Plain). retired_seat c.begin-level.new.self n n p (passed n c.begin-level.new.self.devices)) c.before-in-Exit.ensures)

pub end_step-ready-requires-clause-stopped : goal.end_step-ready-requires-clause-stopped
end_step-ready-requires-clause-stopped c =
    let r = goal.at.end_step-ready-requires-clause-stopped c in
    record {
      guest = awake c.args.self.now;
      ram = c.ready_board.new.board.world.ram;
      native = c.args.native.now;
      taken = c.retired.result - c.retired-before.result;
      is = stopped r.After-go_on-in-Exit (may r.After-run_board) (ran r.After-run_board);
    }

pub end_step-ready-requires-clause-room : goal.end_step-ready-requires-clause-room
end_step-ready-requires-clause-room c =
    let r = goal.at.end_step-ready-requires-clause-room c in
    let few = (left r.After-retired (may r.After-run_board) (ran r.After-run_board)).few in
    let within = c.more_steps-more.ensures.within in
    let behind = c.steps_behind.ensures.within in
    let steps = ap (λ (s : Seat). s.steps) c.begin-level.ensures.begun in
    let on = ap (λ (s : Seat). s.steps) c.go_on-in-Exit.ensures in
    let some = c.requires.limit in
    let room = c.requires.room in
    omega (arith, few, within, behind, steps, on, some, room)

pub end_step-ready-requires-clause-native : goal.end_step-ready-requires-clause-native
end_step-ready-requires-clause-native c =
    let r = goal.at.end_step-ready-requires-clause-native c in
    let gone = left r.After-retired (may r.After-run_board) (ran r.After-run_board) in
    let few = gone.few in
    let within = c.more_steps-more.ensures.within in
    let behind = c.steps_behind.ensures.within in
    let some = c.requires.limit in
    let retired = gone.retired in
    let exceptions = gone.exceptions in
    let count = c.requires.native.0 in
    let left = c.requires.native.1 in
    (omega (arith, few, within, behind, some, retired, count), omega (arith, some, exceptions, left))

pub overflow_add-result-in-Exit : goal.overflow_add-result-in-Exit
overflow_add-result-in-Exit c =
    let r = goal.at.overflow_add-result-in-Exit c in
    let few = (left r.After-retired (may r.After-run_board) (ran r.After-run_board)).few in
    let within = c.more_steps-more.ensures.within in
    let behind = c.steps_behind.ensures.within in
    let some = c.requires.limit in
    let fits = c.ranges.limit.fits in
    omega (arith, few, within, behind, some, fits)

pub returns-in-Exit-clause-some : goal.returns-in-Exit-clause-some
returns-in-Exit-clause-some c =
    let r = goal.at.returns-in-Exit-clause-some c in
    let few = (left r.After-retired (may r.After-run_board) (ran r.After-run_board)).few in
    let within = c.more_steps-more.ensures.within in
    let behind = c.steps_behind.ensures.within in
    let some = c.requires.limit in
    (omega arith, omega (arith, few, within, behind, some))

pub returns-in-Exit-clause-takes : goal.returns-in-Exit-clause-takes
returns-in-Exit-clause-takes c =
    let r = goal.at.returns-in-Exit-clause-takes c in
    let n = c.retired.result - c.retired-before.result in
    subst (λ (ram : List ℕ). Takes (n + 1) (scene c.args.self.now ram c.args.native.now)
    (scene c.end_step-ready.new.self c.end_step-ready.new.board.world.ram c.end_step-ready.new.native)) c.ready_board.ensures.ram
    (awake_takes c.args.self.now c.ready_board.new.board.world.ram c.args.native.now (n + 1)
    (scene c.end_step-ready.new.self c.end_step-ready.new.board.world.ram c.end_step-ready.new.native) (omega arith) c.requires.takes
    (c.end_step-ready.ensures.takes (record {
      guest = awake c.args.self.now;
      ram = c.ready_board.new.board.world.ram;
      native = c.args.native.now;
      taken = n;
      is = stopped r.After-go_on-in-Exit (may r.After-run_board) (ran r.After-run_board);
    })))

pub returns-in-Exit-clause-native : goal.returns-in-Exit-clause-native
returns-in-Exit-clause-native c =
    let r = goal.at.returns-in-Exit-clause-native c in
    let gone = left r.After-retired (may r.After-run_board) (ran r.After-run_board) in
    let retired = gone.retired in
    let exceptions = gone.exceptions in
    let more = c.end_step-ready.ensures.native.0 in
    let again = c.end_step-ready.ensures.native.1 in
    (omega (arith, retired, more), omega (arith, exceptions, again))

-- ---- the board stands ready again

pub returns-in-Counted-clause-ready : goal.returns-in-Counted-clause-ready
returns-in-Counted-clause-ready c = λ so.
    let r = (goal.at.returns-in-Counted-clause-ready c).After-run_board in
    let n = c.more_steps-more.result in
    let b = c.begin-level.new.self in
    counted_ready_by (awake c.args.self.now) b c.settle.new.self c.ready_board.new.board c.args.native.now n c.run_board.result c.run_board.new.board
    c.run_board.new.native c.plain.result c.begin-level.ensures.begun (may r) (ran r) c.in-Counted.is (c.run_board.ensures.goes c.in-Counted.is)
    (c.settle.ensures ∙ ap settled (c.go_on.ensures
    ∙ ap (λ (k : ℕ). retired_seat b n k c.plain.result (passed n b.devices)) (let more : n + 1 ≡ suc n = omega arith in more)))

pub returns-in-Idle-clause-ready : goal.returns-in-Idle-clause-ready
returns-in-Idle-clause-ready c = λ so.
    let b = c.begin-level.new.self in
    let n = c.more_steps-more.result in
    idle_ready b c.idle_on.new.self c.args.board.now n (n + 1) (passed n b.devices) c.idle_on.ensures
    (begun_ready c.args.self.now b c.args.board.now c.begin-level.ensures.begun (c.requires.ready so))
