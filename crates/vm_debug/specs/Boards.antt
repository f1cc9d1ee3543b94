-- A debugger's guest on a board.
use Rattle.std.specs.Prelude.{◌≡◌, ℕ, zero, suc, ◌-◌, ◌≤◌, false, List, [], ◌∷◌, ◌++◌, Option}
use Rattle.mb_outside.specs.Prints.{PrintedPart}
use Rattle.mb_outside.specs.Sink.{Grows}
use Rattle.def_machine.specs.Machine.{Machine, takes_steps}
use Rattle.def_guests.specs.Turns.{turn_of}
use Rattle.def_guests.specs.Seats.{machine_on, turned_on, IsSeated, Scene, Takes}
use Rattle.vm_debug.specs.declared.command.Command.{Command}
use Rattle.vm_debug.specs.Debugs.{Course, Debugging, course_from, debugged, printed, printed_by}

abbrev pub machine_at : Scene → Machine
machine_at s = machine_on s.guest s.ram

-- the course of a guest
abbrev pub course_of : Scene → Course
course_of s = course_from s.guest.script (machine_at s)

-- the steps that a guest has taken, with break points
abbrev pub debugging_of : Scene → List ℕ → Debugging
debugging_of s breaks = record { steps = s.guest.steps; breaks = breaks }

-- The guest has come so far along its course.
abbrev pub HasCome : Scene → (steps : ℕ) → Scene → Type 0
HasCome begun steps s = Takes (steps - begun.guest.steps) begun s

-- A guest and break points have become what a debugger's state says: the guest has taken these steps and no others, in
-- one turn or in several, and its machine is that of its course.
pub record HasBecome (d : Debugging) (s t : Scene) (standing : List ℕ) : Type 0 where
  pub takes : HasCome s d.steps t
  pub machine : machine_at t ≡ course_of s d.steps
  pub breaks : standing ≡ d.breaks

-- The sink has failed at the lines of one command: that one and those before it were carried out.
pub record IsCut (bound : ℕ) (commands : List Command) (s t : Scene) (breaks later : List ℕ)
    (old new : Option (List ℕ)) (before now : ℕ) : Type 0 where
  pub first : List Command
  pub last : Command
  pub others : List Command
  pub whole : commands ≡ first ++ last ∷ others
  pub does : HasBecome (debugged (course_of s) bound (first ++ last ∷ []) (debugging_of s breaks)) s t later
  -- It took the lines of the first ones,
  pub between : Option (List ℕ)
  pub taken : Grows old between (printed (course_of s) bound first (debugging_of s breaks))
  -- and a first part of the last one's.
  pub cut : let breaks = (debugged (course_of s) bound first (debugging_of s breaks)).breaks in
      PrintedPart between new before now (printed_by last breaks (machine_at t))

-- ---- laws

-- So many turns of one step, one after the other,
abbrev pub TakeOnes : ℕ → Scene → Scene → Type 0
TakeOnes zero s t = s ≡ t
TakeOnes (suc n) s t = (u : Scene) × Takes 1 s u × TakeOnes n u t

-- are a turn of so many: the same machine, shadow, counts and marks, and boards have counted as much.
abbrev pub OnesAreATurn : Type 0
OnesAreATurn = (n : ℕ) (s t : Scene) → IsSeated s.guest s.ram → TakeOnes n s t → Takes n s t

-- A turn is no longer than to where the guest halts or is switched off.
abbrev pub TurnsEndThere : Type 0
TurnsEndThere = (j n : ℕ) (s t : Scene) → j ≤ n
    → takes_steps (turn_of s.guest.script j (turned_on s.guest s.ram [] 0)).guest.machine.state ≡ false
    → Takes n s t → Takes j s t
