-- All guests of a session: rounds of slices.
use Rattle.std.specs.Prelude.{◌≡◌, ℕ, zero, suc, ◌+◌, ◌-◌, min, nat_le, ◌&&◌, Bool, true}
use Rattle.std.specs.Prelude.{if◌then◌else◌, List, [], ◌∷◌, ◌++◌}
use Rattle.mb_instr.specs.declared.registers.Plain.{Plain}
use Rattle.def_machine.specs.Machine.{Entries, takes_steps}
use Rattle.def_guests.specs.Turns.{Guested, Tally, Turned, turn_of}

-- a guest of a session: its script, how many steps it takes, and its machine with its shadow and counts
pub record Member : Type 0 where
  pub script : Entries
  pub bound : ℕ
  pub guest : Guested
  pub tally : Tally

-- what it has left of its steps: none where it is halted or off
abbrev pub left : Member → ℕ
left m = if takes_steps m.guest.machine.state then m.bound - m.guest.machine.steps else 0

-- it has done its steps, or is halted or off
abbrev pub is_done : Member → Bool
is_done m = nat_le (left m) 0

-- before a turn of its own
abbrev pub opened : Member → Turned
opened m = record { guest = m.guest; tally = m.tally; marks = []; exceptions = 0 }

-- after it
abbrev pub closed_by : Turned → Member → Member
closed_by t m = record m { guest = t.guest; tally = t.tally }

-- Its turn of a round: up to a slice of steps.
abbrev pub turn_in : ℕ → Member → Turned
turn_in slice m = turn_of m.script (min slice (left m)) (opened m)

-- ---- rounds

-- all guests, the marks of all turns so far, one turn after the other, and the exceptions of all
pub record Hosted : Type 0 where
  pub members : List Member
  pub marks : List Plain
  pub exceptions : ℕ

-- all guests after a round
abbrev pub members_after : ℕ → List Member → List Member
members_after slice [] = []
members_after slice (m ∷ members) = closed_by (turn_in slice m) m ∷ members_after slice members

-- the marks of its turns
abbrev pub marks_after : ℕ → List Member → List Plain
marks_after slice [] = []
marks_after slice (m ∷ members) = (turn_in slice m).marks ++ marks_after slice members

-- and their exceptions
abbrev pub exceptions_after : ℕ → List Member → ℕ
exceptions_after slice [] = 0
exceptions_after slice (m ∷ members) = (turn_in slice m).exceptions + exceptions_after slice members

-- A round: every guest in turn.
abbrev pub round : ℕ → Hosted → Hosted
round slice h = record {
  members = members_after slice h.members;
  marks = h.marks ++ marks_after slice h.members;
  exceptions = h.exceptions + exceptions_after slice h.members;
}

-- all guests are
abbrev pub all_done : List Member → Bool
all_done [] = true
all_done (m ∷ members) = is_done m && all_done members

-- what all have left
abbrev pub left_of_all : List Member → ℕ
left_of_all [] = 0
left_of_all (m ∷ members) = left m + left_of_all members

-- rounds until all are done, or at most so many
unfoldable pub rounds : ℕ → ℕ → Hosted → Hosted
rounds slice zero h = h
rounds slice (suc n) h = if all_done h.members then h else rounds slice n (round slice h)

-- The rounds of a session: as many as it takes.
abbrev pub host_run : ℕ → Hosted → Hosted
host_run slice h = rounds slice (left_of_all h.members) h

-- ---- what comes of them

-- one turn of all that a guest has left
abbrev pub whole_turn : Member → Turned
whole_turn m = turn_of m.script (left m) (opened m)

-- Each guest of the second is one of the first after that turn.
abbrev pub WholeTurns : List Member → List Member → Type 0
WholeTurns [] [] = Unit {0}
WholeTurns (m ∷ ms) (k ∷ ks) = (k ≡ closed_by (whole_turn m) m) × WholeTurns ms ks
WholeTurns [] (k ∷ ks) = ⊥
WholeTurns (m ∷ ms) [] = ⊥

-- The rounds end: all are done, each is as after one turn of all that it had left, and a second run changes nothing.
pub record Ends (slice : ℕ) (h : Hosted) : Type 0 where
  pub done : all_done (host_run slice h).members ≡ true
  pub whole : WholeTurns h.members (host_run slice h).members
  pub again : host_run slice (host_run slice h) ≡ host_run slice h
