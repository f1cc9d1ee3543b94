-- Guests on boards of their own beside the same guests under the monitor.
use Rattle.std.specs.Prelude.{ℕ, Bool, List, [], ◌∷◌}
use Rattle.mb_model.specs.Keeping.{rule_a}
use Rattle.def_machine.specs.Machine.{Entries, Machine, run_of, start}
use Rattle.mb_board.specs.State.{machine_in}
use Rattle.def_guests.specs.Rounds.{Member}
use Rattle.vm_guest.specs.Session.{GuestAtStart}
use Rattle.mb_program.specs.Answers.{shows_same}
use Rattle.mb_program.specs.declared.bare_machine.BareMachine.{BareMachine}

-- a machine, and how many steps it is to take
pub record Ahead : Type 0 where
  pub machine : Machine
  pub steps : ℕ

abbrev pub ahead_of : BareMachine → Ahead
ahead_of m = record { machine = machine_in m.board; steps = m.steps }

-- a guest on a board of its own, at its start
abbrev pub at_start : GuestAtStart → Ahead
at_start guest = record { machine = start rule_a guest.opening guest.ram; steps = guest.steps }

-- the machine after these steps, with such a script
abbrev pub reached : Entries → Ahead → Machine
reached script m = run_of rule_a script m.steps m.machine

-- whether it will show the same as a guest under the monitor, with that one's script
abbrev pub will_show_same : Ahead → Member → Bool
will_show_same m member = shows_same (reached member.script m) member.guest.machine

-- the same of each pair, in their order
abbrev pub same_each : List Ahead → List Member → List Bool
same_each (m ∷ ms) (member ∷ members) = will_show_same m member ∷ same_each ms members
same_each _ _ = []
