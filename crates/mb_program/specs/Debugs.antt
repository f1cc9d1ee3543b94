-- A guest of a session under the debugger: its files, and what is shown of it.
use Rattle.std.specs.Prelude.{ℕ, [], List, ◌++◌, Some}
use Rattle.std.specs.Option.{option_map_or}
use Rattle.mb_model.specs.Keeping.{rule_k}
use Rattle.vm_guest.specs.Session.{GuestAtStart, SessionAtStart}
use Rattle.vm_slices.specs.Members.{numbered}
use Rattle.vm_debug.specs.declared.command.Command.{Command}
use Rattle.vm_debug.specs.Debugs.{Course, Debugging, debugged, printed}
use Rattle.mb_words.specs.Words.{Debugged}
use Rattle.mb_files.specs.Reading.{Reading, gives, ◌>>=◌, file}
use Rattle.mb_files.specs.Debugged.{commands, sessions_with}
use Rattle.mb_program.specs.Files.{plan_files}
use Rattle.mb_program.specs.Headline.{alone, machine_text}
use Rattle.mb_program.specs.Direct.{bounded, steps_alone}
use Rattle.mb_program.specs.Shown.{Shown, plain}

-- A session file, which has a guest of this number, then the files of its guests, and then the commands.
abbrev pub debugged_files : Debugged → Reading (SessionAtStart × List Command)
debugged_files d = do
  plan ← file (sessions_with d.guest) d.session
  s ← plan_files plan
  orders ← file commands d.commands
  gives (s.session, orders)

-- a guest alone, by how many steps it has taken
abbrev pub course_alone : GuestAtStart → Course
course_alone guest steps = alone rule_k (bounded guest steps)

-- a guest at its start, without break points
abbrev pub at_outset : Debugging
at_outset = record { steps = 0; breaks = [] }

-- how many steps commands bring a guest to, from its start on and up to its own bound
abbrev pub steps_debugged : GuestAtStart → List Command → ℕ
steps_debugged guest orders = (debugged (course_alone guest) guest.steps orders at_outset).steps

-- The lines of the commands, and then the machine that they end with, and its disk. The board has carried out the
-- steps up to there, however they were taken.
abbrev pub debugged_shown : (number : ℕ) → GuestAtStart → List Command → Shown
debugged_shown number guest orders = record {
  text = printed (course_alone guest) guest.steps orders at_outset
      ++ machine_text number (course_alone guest (steps_debugged guest orders));
  lines = [];
  status = 0;
  steps = Some (steps_alone (bounded guest (steps_debugged guest orders)));
}

-- of the guest of this number, which there is in a session whose files are read
abbrev pub debug_shown : (number : ℕ) → List GuestAtStart → List Command → Shown
debug_shown number guests orders =
    option_map_or (λ guest. debugged_shown number guest orders) (numbered number guests) (plain [])
