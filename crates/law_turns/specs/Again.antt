-- A seated guest in the middle of a step that begins again.
use Rattle.std.specs.Prelude.{◌≡◌, ◌⊎◌, ℕ, suc, ◌+◌, ◌≤◌, true, List, [], Some, None}
use Rattle.mb_port.specs.Routine.{run}
use Rattle.mb_instr.specs.Registers.{plain_of}
use Rattle.mb_devices.specs.Devices.{level_of}
use Rattle.def_processor.specs.Step.{interrupt_mask, step_of, rank}
use Rattle.law_attempts.specs.Attempts.{IsUntraced}
use Rattle.def_machine.specs.Machine.{takes_steps, asked_of}
use Rattle.def_runs.specs.Marks.{trail}
use Rattle.def_runs.specs.Native.{NativeState}
use Rattle.def_guests.specs.declared.class.Class.{Class}
use Rattle.def_guests.specs.Guests.{Guest}
use Rattle.def_guests.specs.Bus.{guest_bus}
use Rattle.def_guests.specs.Refills.{begun_again}
use Rattle.def_guests.specs.declared.limits.TheConstants.{MOST_REFILLS}
use Rattle.def_guests.specs.Classes.{class_at_first}
use Rattle.def_guests.specs.Turns.{Turned, bus_side, guest_begun, guest_later, tallied, with_refills}
use Rattle.def_guests.specs.Turns.{marks_of, exceptions_of, turn_of}
use Rattle.def_guests.specs.Seats.{Seat, machine_on, guested_on, turned_on, IsSeated, IsSame, OnlyWithin, Takes}
use Rattle.law_held.specs.Truth.{Fine}
use Rattle.law_held.specs.Refills.{IsAhead}
use Rattle.law_turns.specs.Retire.{HasRegisters}
use Rattle.law_turns.specs.Refill.{HasBegunAgain}

-- Of a turn so many steps are taken, the next has begun, it has begun again so often, and the board has left it so
-- often. The guest stands on the board as `mid`, and boards have counted so far.
pub record Midway (g : Seat) (ram : List ℕ) (native : NativeState) (k n left : ℕ) (mid : Seat) (now : List ℕ)
    (counts : NativeState) : Type 0 where
  -- before the step
  pub turn : Turned
  pub taken : turn ≡ turn_of g.script k (turned_on g ram [] 0)
  pub goes : takes_steps turn.guest.machine.state ≡ true
  -- an untraced instruction
  pub masked : let b = guest_begun g.script turn.guest in
      rank (asked_of g.script b.machine) ≤ interrupt_mask b.machine.cpu
  pub untraced : IsUntraced (guest_begun g.script turn.guest).machine.cpu
  pub registers : HasRegisters (plain_of (guest_begun g.script turn.guest).machine.cpu.regs)
  pub fine : Fine g.size (bus_side (guest_begun g.script turn.guest))
  -- the guest as it has begun, and begun again
  pub opened : machine_on mid now
      ≡ record (guest_begun g.script turn.guest).machine { world = (machine_on mid now).world }
  pub begun : let b = guest_begun g.script turn.guest in
      HasBegunAgain b.machine.cpu n (bus_side b) (bus_side (guested_on mid now))
  pub few : n ≤ MOST_REFILLS
  pub tally : mid.tally ≡ turn.tally
  pub same : IsSame g mid
  pub seated : IsSeated mid now
  pub within : OnlyWithin g ram now
  -- what boards have counted
  pub retired : counts.retired + g.tally.retired ≡ native.retired + mid.tally.retired
  pub trail_is : counts.trail ≡ trail native.trail turn.marks
  pub exceptions : counts.exceptions ≡ native.exceptions + turn.exceptions + left

-- Where the read that the step was denied is filled and put, it begins once more.
abbrev pub MidwayAgain : Type 0
MidwayAgain = (g : Seat) (ram : List ℕ) (native : NativeState) (k n left : ℕ) (mid : Seat) (now : List ℕ)
    (counts : NativeState) → Midway g ram native k n left mid now counts → suc n ≤ MOST_REFILLS
    → (h : Guest) → begun_again mid.cpu (bus_side (guested_on mid now)) ≡ Some h
    → (seat : Seat) (next : List ℕ) (later : NativeState)
    → machine_on seat next ≡ record (machine_on mid now) { world = h.world } → bus_side (guested_on seat next) ≡ h
    → seat.tally ≡ mid.tally → IsSame mid seat → IsSeated seat next → OnlyWithin mid now next
    → later.retired ≡ counts.retired → later.trail ≡ counts.trail → later.exceptions ≡ counts.exceptions
    → Midway g ram native k (suc n) left seat next later

-- Its shadow has each entry then that it had.
abbrev pub MidwayAhead : Type 0
MidwayAhead = (g : Seat) (ram : List ℕ) (native : NativeState) (k n left : ℕ) (mid : Seat) (now : List ℕ)
    (counts : NativeState) → Midway g ram native k n left mid now counts → let w = bus_side (guested_on mid now) in
    (h : Guest) → begun_again mid.cpu w ≡ Some h → IsAhead g.size w h

-- Else whoever carries out the step from there, over the guest's own bus, has taken it, by the class of that attempt.
abbrev pub MidwayEnds : Type 0
MidwayEnds = (g : Seat) (ram : List ℕ) (native : NativeState) (k n left : ℕ) (mid : Seat) (now : List ℕ)
    (counts : NativeState) → Midway g ram native k n left mid now counts
    → let w = bus_side (guested_on mid now) in let level = level_of mid.devices in
    let class = class_at_first level mid.cpu w in
    (n ≡ MOST_REFILLS) ⊎ (begun_again mid.cpu w ≡ None)
    → (seat : Seat) (next : List ℕ) (later : NativeState)
    → guested_on seat next ≡ guest_later (machine_on mid now) (run guest_bus (step_of level mid.cpu) w)
    → seat.tally ≡ with_refills class n (tallied class mid.tally)
    → IsSame mid seat → IsSeated seat next → OnlyWithin mid now next
    → later.retired + mid.tally.retired ≡ counts.retired + seat.tally.retired
    → later.trail ≡ trail counts.trail (marks_of class mid.cpu seat.cpu)
    → later.exceptions + left ≡ counts.exceptions + exceptions_of class n
    → Takes (k + 1) (record { guest = g; ram = ram; native = native })
    (record { guest = seat; ram = next; native = later })

-- the guest as it is before the step has begun, with what is kept and the shadow as they are now
abbrev pub unbegun : Seat → Turned → Seat
unbegun mid turn = record mid { devices = turn.guest.machine.world.devices }

-- It begins the step as the guest that stands there.
abbrev pub MidwayBegins : Type 0
MidwayBegins = (g : Seat) (ram : List ℕ) (native : NativeState) (k n left : ℕ) (mid : Seat) (now : List ℕ)
    (counts : NativeState) → (m : Midway g ram native k n left mid now counts)
    → guest_begun g.script (guested_on (unbegun mid m.turn) now) ≡ guested_on mid now

-- with as many refills of its last step, of this class
abbrev pub refilled_seat : Class → (refills : ℕ) → Seat → Seat
refilled_seat class n seat = record seat { tally = with_refills class n seat.tally }

-- So where no read of it is refilled, what that guest takes of one step is what the turn takes of it: so a run of the
-- board takes it.
abbrev pub MidwayTakes : Type 0
MidwayTakes = (g : Seat) (ram : List ℕ) (native : NativeState) (k n : ℕ) (mid : Seat) (now : List ℕ)
    (counts : NativeState) → (m : Midway g ram native k n n mid now counts) → let w = bus_side (guested_on mid now) in
    begun_again mid.cpu w ≡ None → (seat : Seat) (next : List ℕ) (later : NativeState)
    → Takes 1 (record { guest = unbegun mid m.turn; ram = now; native = counts })
    (record { guest = seat; ram = next; native = later })
    → Takes (k + 1) (record { guest = g; ram = ram; native = native })
    (record {
      guest = refilled_seat (class_at_first (level_of mid.devices) mid.cpu w) n seat;
      ram = next;
      native = later;
    })

-- And where a run of the board from there is in the middle of that step, so is the turn.
abbrev pub MidwayWithin : Type 0
MidwayWithin = (g : Seat) (ram : List ℕ) (native : NativeState) (k n left : ℕ) (mid : Seat) (now : List ℕ)
    (counts : NativeState) → (m : Midway g ram native k n left mid now counts)
    → (seat : Seat) (next : List ℕ) (later : NativeState) (more : ℕ)
    → Midway (unbegun mid m.turn) now counts 0 0 more seat next later
    → Midway g ram native k n (left + more) seat next later
