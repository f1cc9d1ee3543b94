-- The guests of a session, as contracts see them, and what becomes of them.
use Rattle.std.specs.Prelude.{ℕ, ◌+◌, ◌-◌, ◌^◌, ◌<◌, List, [], ◌∷◌, map, slice_get, Option, if◌then◌else◌}
use Rattle.vm_disk.specs.Disk.{DiskState}
use Rattle.mb_devices.specs.Devices.{DeviceState}
use Rattle.mb_model.specs.Keeping.{rule_k}
use Rattle.mb_model.specs.Seen.{Seen}
use Rattle.def_machine.specs.Machine.{Machine, Outcome, outcome_of, run_of, seen_machine}
use Rattle.def_guests.specs.Turns.{Tally, no_steps, prepared}
use Rattle.def_guests.specs.Seats.{Seat}
use Rattle.def_guests.specs.Rounds.{Member, Hosted, left, is_done, closed_by, turn_in, host_run, whole_turn}
use Rattle.vm_guest.specs.Session.{GuestAtStart}

-- ---- one guest

-- a guest on a board with this disk, or with none
abbrev pub with_disk : Option DiskState → Seat → Seat
with_disk disk g = record g { devices = record g.devices { disk = disk } }

-- a guest at its start: its image in its RAM, its disk, and an empty shadow
abbrev pub member_at_start : GuestAtStart → Member
member_at_start g = record {
  script = g.script;
  bound = g.steps;
  guest = (prepared g.opening g.ram).guest;
  tally = no_steps;
}

-- after its turn of a round
abbrev pub after_turn : ℕ → Member → Member
after_turn slice m = closed_by (turn_in slice m) m

-- its machine once it has taken alone all the steps that it has left
abbrev pub machine_at_end : Member → Machine
machine_at_end m = run_of rule_k m.script (left m) m.guest.machine

-- and what is counted of its steps then
abbrev pub tally_at_end : Member → Tally
tally_at_end m = (whole_turn m).tally

-- how many guests have steps left
abbrev pub going : List Member → ℕ
going [] = 0
going (m ∷ members) = (if is_done m then 0 else 1) + going members

-- a count of steps is a number of 32 bits
abbrev pub IsBounded : Member → Type 0
IsBounded m = m.bound < 2 ^ 32

-- ---- all guests

-- after the rounds of a session, with the marks and exceptions of all their turns
abbrev pub after_rounds : ℕ → List Member → Hosted
after_rounds slice members = host_run slice (record { members = members; marks = []; exceptions = 0 })

-- their machines, what is counted of their steps, their devices, what they show, and their outcomes
abbrev pub machines_of : List Member → List Machine
machines_of members = map (λ (m : Member). m.guest.machine) members

abbrev pub tallies_of : List Member → List Tally
tallies_of members = map (λ (m : Member). m.tally) members

abbrev pub devices_of : List Member → List DeviceState
devices_of members = map (λ (m : Member). m.guest.machine.world.devices) members

abbrev pub shown_of : List Member → List Seen
shown_of members = map (λ (m : Member). seen_machine m.guest.machine) members

abbrev pub outcomes_of : List Member → List Outcome
outcomes_of members = map (λ (m : Member). outcome_of m.guest.machine) members

-- that of a guest, whose number counts from 1
abbrev pub numbered : {A : Type 0} → ℕ → List A → Option A
numbered number all = slice_get all (number - 1)
