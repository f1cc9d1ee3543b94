-- Guests of a session on a board.
use Rattle.std.specs.Prelude.{ℕ, ◌≤◌, List, [], ◌∷◌, length, map, zero, suc, All}
use Rattle.mb_instr.specs.declared.registers.Plain.{Plain}
use Rattle.def_guests.specs.Seats.{Seat, guested_on}
use Rattle.def_guests.specs.Stages.{AllSeated}
use Rattle.mb_script.specs.declared.sizes.TheConstants.{MOST_GUESTS}
use Rattle.def_guests.specs.Rounds.{Member, turn_in}
use Rattle.vm_slices.specs.declared.host_guest.HostGuest.{HostGuest}
use Rattle.vm_slices.specs.Members.{after_turn, IsBounded}

-- a guest with the board's memory as one of a session
abbrev pub member_of : List ℕ → HostGuest → Member
member_of ram g = record {
  script = g.guest.script;
  bound = g.bound;
  guest = guested_on g.guest ram;
  tally = g.guest.tally;
}

abbrev pub members_of : List HostGuest → List ℕ → List Member
members_of guests ram = map (member_of ram) guests

-- A host: how many steps a turn has at most, the guests, and the board's memory. Of all but the slice, clauses speak by
-- the members alone, since a member's shadow is a function, which a model cannot hold.
pub record HostState : Type 0 where
  pub slice : ℕ
  pub guests : List HostGuest
  pub ram : List ℕ

abbrev pub members_in : HostState → List Member
members_in host = members_of host.guests host.ram

-- the guests but for their bounds
abbrev pub seats_of : List HostGuest → List Seat
seats_of guests = map (λ (g : HostGuest). g.guest) guests

-- what holds of a host: turns have steps, all guests are seated apart from one another, and each takes a number of steps
pub record IsHost (slice : ℕ) (guests : List HostGuest) (ram : List ℕ) : Type 0 where
  pub some : 1 ≤ slice
  pub few : length guests ≤ MOST_GUESTS
  pub stand : AllSeated (seats_of guests) ram
  pub bounds : All IsBounded (members_of guests ram)

-- the marks of the turn of a round of the member at a place
abbrev pub marks_at : (slice place : ℕ) → List Member → List Plain
marks_at slice place [] = []
marks_at slice zero (m ∷ members) = (turn_in slice m).marks
marks_at slice (suc place) (m ∷ members) = marks_at slice place members

-- and its exceptions
abbrev pub exceptions_at : (slice place : ℕ) → List Member → ℕ
exceptions_at slice place [] = 0
exceptions_at slice zero (m ∷ members) = (turn_in slice m).exceptions
exceptions_at slice (suc place) (m ∷ members) = exceptions_at slice place members

-- members of which the one at a place is another
abbrev pub with_member : (place : ℕ) → (Member → Member) → List Member → List Member
with_member place change [] = []
with_member zero change (m ∷ members) = change m ∷ members
with_member (suc place) change (m ∷ members) = m ∷ with_member place change members

-- members of which the one at a place has taken its turn of a round
abbrev pub with_turn : (slice place : ℕ) → List Member → List Member
with_turn slice place members = with_member place (after_turn slice) members
