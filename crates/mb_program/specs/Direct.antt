-- What is counted of the guests of a session: their steps by class, and what the board carries out of them.
use Rattle.std.specs.Prelude.{◌≡◌, ℕ, ◌+◌, ◌*◌, ◌^◌, ◌<◌, ◌≤◌, List, [], ◌∷◌, map, Option, Some, None, sum_by}
use Rattle.mb_instr.specs.declared.registers.Plain.{Plain}
use Rattle.def_runs.specs.Marks.{trail}
use Rattle.def_runs.specs.Native.{NativeState}
use Rattle.def_guests.specs.Turns.{Tally, exits, prepared, steps_in, tally_of, turn_of}
use Rattle.def_guests.specs.Rounds.{Hosted}
use Rattle.vm_guest.specs.Session.{GuestAtStart}
use Rattle.vm_slices.specs.Members.{member_at_start}
use Rattle.vm_slices.specs.Orders.{after_session}
use Rattle.mb_program.specs.Files.{Ordered}

-- ---- the steps of a guest

-- a guest that takes this many steps at most
abbrev pub bounded : GuestAtStart → ℕ → GuestAtStart
bounded guest steps = record guest { steps = steps }

-- How many of each class a guest takes alone, from its start and with nothing in its shadow.
abbrev pub tally_by : GuestAtStart → Tally
tally_by guest = tally_of guest.opening guest.script guest.ram guest.steps

abbrev pub tallies_by : List GuestAtStart → List Tally
tallies_by guests = map tally_by guests

-- ---- what the board carries out

-- all guests after the turns that are named and then their rounds, with the marks of their retired steps, one turn
-- after the other, and the exceptions of all
abbrev pub hosted_by : Ordered → Hosted
hosted_by s = after_session s.order s.session.slice (map member_at_start s.session.guests)

-- The steps of guests: how many of each class each of them took, the marks of the retired ones, in the order in which
-- they were taken, and the exceptions by which a board leaves them.
pub record Steps : Type 0 where
  pub tallies : List Tally
  pub marks : List Plain
  pub exceptions : ℕ

-- those of guests that a host has run so, and of which so much was counted
abbrev pub steps_hosted : List Tally → Hosted → Steps
steps_hosted tallies hosted = record { tallies = tallies; marks = hosted.marks; exceptions = hosted.exceptions }

-- those of all guests of a session
abbrev pub steps_of_all : Ordered → Steps
steps_of_all s = steps_hosted (tallies_by s.session.guests) (hosted_by s)

-- those of one guest alone, from its start
abbrev pub steps_alone : GuestAtStart → Steps
steps_alone guest = let turned = turn_of guest.script guest.steps (prepared guest.opening guest.ram) in
    record { tallies = tally_by guest ∷ []; marks = turned.marks; exceptions = turned.exceptions }

-- What is counted once these steps are taken.
pub record AreCarriedOut (steps : Steps) (native native_after : NativeState) : Type 0 where
  -- The board has carried out each retired step of each guest, with its marks, and no other,
  pub retired : native_after.retired ≡ native.retired + sum_by (λ (t : Tally). t.retired) steps.tallies
  pub trail : native_after.trail ≡ trail native.trail steps.marks
  -- and has left steps by exactly so many exceptions:
  pub exceptions : native_after.exceptions ≡ native.exceptions + steps.exceptions
  -- one or more for each that is privileged, trapped or denied,
  pub least : native.exceptions + sum_by exits steps.tallies ≤ native_after.exceptions
  -- and no more than 32 for each step.
  pub most : native_after.exceptions ≤ native.exceptions + 32 * sum_by steps_in steps.tallies

-- all guests of a session have run
abbrev pub CarriedOut : Ordered → NativeState → NativeState → Type 0
CarriedOut s native native_after = AreCarriedOut (steps_of_all s) native native_after

-- Guests have taken steps under the monitor, where there are any; else nothing is counted.
abbrev pub IsCounted : Option Steps → NativeState → NativeState → Type 0
IsCounted None native native_after = native_after ≡ native
IsCounted (Some steps) native native_after = AreCarriedOut steps native native_after

-- The steps of a session can be counted beside these.
abbrev pub HasRoomToRun : NativeState → Type 0
HasRoomToRun native = (native.retired < 2 ^ 60) × (native.exceptions < 2 ^ 60)
