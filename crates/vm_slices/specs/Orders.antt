-- Turns that are given in an order, each of at most so many steps and of no more than its guest has left.
use Rattle.std.specs.Prelude.{ℕ, suc, ◌+◌, ◌-◌, min, List, [], ◌∷◌, ◌++◌, map}
use Rattle.mb_script.specs.declared.turn.Turn.{Turn}
use Rattle.mb_model.specs.Keeping.{rule_k}
use Rattle.def_machine.specs.Machine.{Machine, run_of}
use Rattle.def_guests.specs.Stages.{Turns, steps_for}
use Rattle.def_guests.specs.Rounds.{Member, Hosted, left}
use Rattle.vm_slices.specs.Members.{after_rounds, after_turn}
use Rattle.vm_slices.specs.Places.{exceptions_at, marks_at, with_turn}

-- all guests after a turn of the one of its number, which counts from 1; the turn's marks stand behind those so far,
-- and its exceptions are added
abbrev pub given : Turn → Hosted → Hosted
given turn h = record {
  members = with_turn turn.steps (turn.guest - 1) h.members;
  marks = h.marks ++ marks_at turn.steps (turn.guest - 1) h.members;
  exceptions = h.exceptions + exceptions_at turn.steps (turn.guest - 1) h.members;
}

-- all guests after turns, one after the other
unfoldable pub in_order : List Turn → Hosted → Hosted
in_order [] h = h
in_order (turn ∷ turns) h = in_order turns (given turn h)

-- from guests whose marks and exceptions are those of these turns alone
abbrev pub after_order : List Turn → List Member → Hosted
after_order turns members = in_order turns (record { members = members; marks = []; exceptions = 0 })

-- Turns that are given, and then rounds, with the marks and exceptions of all.
abbrev pub after_session : List Turn → (slice : ℕ) → List Member → Hosted
after_session turns slice members =
    let turned = after_order turns members in
    let after = after_rounds slice turned.members in
    record after { marks = turned.marks ++ after.marks; exceptions = turned.exceptions + after.exceptions }

-- ---- what comes of them

-- turns as those of any guests on one board
abbrev pub as_turns : List Turn → Turns
as_turns turns = map (λ (turn : Turn). (turn.guest, turn.steps)) turns

-- the steps that turns give the guest of a number
abbrev pub steps_given : (number : ℕ) → List Turn → ℕ
steps_given number turns = steps_for number (as_turns turns)

-- Guests of which the first has a number, each after one turn of all the steps that turns give it, as many as it has
-- left.
abbrev pub each_given : List Turn → (number : ℕ) → List Member → List Member
each_given turns number [] = []
each_given turns number (m ∷ members) =
    after_turn (steps_given number turns) m ∷ each_given turns (suc number) members

-- its machine once it has taken these steps alone
abbrev pub machine_given : List Turn → (number : ℕ) → Member → Machine
machine_given turns number m = run_of rule_k m.script (min (steps_given number turns) (left m)) m.guest.machine

abbrev pub machines_given : List Turn → (number : ℕ) → List Member → List Machine
machines_given turns number [] = []
machines_given turns number (m ∷ members) = machine_given turns number m ∷ machines_given turns (suc number) members
