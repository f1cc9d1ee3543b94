-- What holds of a debugger's commands along every course.
use Rattle.std.specs.Prelude.{◌≡◌, ◌⊎◌, ℕ, ◌+◌, ◌<◌, ◌≤◌, true, false, List, ◌++◌, length}
use Rattle.def_machine.specs.Machine.{Entries, Machine}
use Rattle.vm_debug.specs.declared.command.Command.{Command}
use Rattle.vm_debug.specs.declared.debugger.TheConstants.{MOST_BREAKS}
use Rattle.vm_debug.specs.Debugs.{Course, Debugging, course_from, debugged, ends_at, going_on, printed}

-- The least number of steps, behind at least one of at most so many, at which `go` ends.
pub record IsLeast (course : Course) (breaks : List ℕ) (steps n end : ℕ) : Type 0 where
  pub least : steps ≤ end
  pub most : end ≤ steps + n
  pub some : 0 < n → steps < end
  pub ended : (ends_at breaks (course end) ≡ true) ⊎ (end ≡ steps + n)
  pub first : (k : ℕ) → steps < k → k < end → ends_at breaks (course k) ≡ false

abbrev pub GoingEndsFirst : Type 0
GoingEndsFirst = (course : Course) (breaks : List ℕ) (steps n : ℕ)
    → IsLeast course breaks steps n (going_on course breaks steps n)

-- Nothing but the course has a part in it: commands and then more are what both together are, so how a number of steps
-- was come to has no part in what is shown later.
abbrev pub CommandsAdd : Type 0
CommandsAdd = (course : Course) (bound : ℕ) (first more : List Command) (d : Debugging)
    → debugged course bound (first ++ more) d ≡ debugged course bound more (debugged course bound first d)

abbrev pub TextsAdd : Type 0
TextsAdd = (course : Course) (bound : ℕ) (first more : List Command) (d : Debugging)
    → printed course bound (first ++ more) d
    ≡ printed course bound first d ++ printed course bound more (debugged course bound first d)

-- What commands come to along two courses, and what they print, is the same.
pub record ShowTheSame (course other : Course) (bound : ℕ) (commands : List Command) (d : Debugging) : Type 0 where
  pub states : debugged course bound commands d ≡ debugged other bound commands d
  pub texts : printed course bound commands d ≡ printed other bound commands d

-- Courses that agree up to the bound show the same.
abbrev pub CoursesShow : Type 0
CoursesShow = (course other : Course) (bound : ℕ) (commands : List Command) (d : Debugging)
    → d.steps ≤ bound → ((k : ℕ) → d.steps ≤ k → k ≤ bound → course k ≡ other k)
    → ShowTheSame course other bound commands d

-- The steps never fall, and the bound is never passed.
pub record StepsStay (bound before later : ℕ) : Type 0 where
  pub least : before ≤ later
  pub most : later ≤ bound

abbrev pub BoundIsKept : Type 0
BoundIsKept = (course : Course) (bound : ℕ) (commands : List Command) (d : Debugging) → d.steps ≤ bound
    → StepsStay bound d.steps (debugged course bound commands d).steps

-- There are never more break points than there can be.
abbrev pub BreaksAreFew : Type 0
BreaksAreFew = (course : Course) (bound : ℕ) (commands : List Command) (d : Debugging)
    → length d.breaks ≤ MOST_BREAKS → length (debugged course bound commands d).breaks ≤ MOST_BREAKS

-- A machine that is itself so many steps along a course goes on along it.
abbrev pub CoursesGoOn : Type 0
CoursesGoOn = (script : Entries) (m : Machine) (k j : ℕ) → m.steps ≤ k → k ≤ j
    → course_from script (course_from script m k) j ≡ course_from script m j
