-- A debugger: what its commands make of a number of steps and of break points, and what they print.
use Rattle.std.specs.Prelude.{ℕ, zero, suc, ◌+◌, ◌-◌, ◌==◌, ◌&&◌, ◌||◌, Bool, true, false, not, nat_le, nat_lt, min}
use Rattle.std.specs.Prelude.{List, [], ◌∷◌, ◌++◌, length, take, drop, if◌then◌else◌, codes, decimal}
use Rattle.std.specs.List.{filter, list_any, flat_map}
use Rattle.mb_model.specs.declared.outcome.RunState.{RunState}
use Rattle.mb_model.specs.declared.outcome.RunState.TheVariants.{Running}
use Rattle.mb_model.specs.declared.kept.Kept as kept
use Rattle.mb_model.specs.Keeping.{rule_k, list_of}
use Rattle.def_machine.specs.Machine.{Entries, Machine, run_of, seen_machine, takes_steps}
use Rattle.mb_report.specs.Digits.{hex8}
use Rattle.mb_report.specs.Kept.{kept_line}
use Rattle.mb_report.specs.Text.{count_line, line_text, register_lines, row_line, state_word, word_line}
use Rattle.vm_debug.specs.declared.command.Command.{Command}
use Rattle.vm_debug.specs.declared.command.Command.TheVariants.{Step, Go, Break, Clear, Regs, Mem, Kept}
use Rattle.vm_debug.specs.declared.debugger.TheConstants.{MOST_BREAKS}

-- ---- a run, by how many steps it has taken

-- The machine after so many steps. All that a debugger does and prints is said of it alone.
abbrev pub Course : Type 0
Course = ℕ → Machine

-- the course of a machine, which has taken steps already
abbrev pub course_from : Entries → Machine → Course
course_from script m k = run_of rule_k script (k - m.steps) m

-- How many steps were taken, and the break points in the order in which they were set.
pub record Debugging : Type 0 where
  pub steps : ℕ
  pub breaks : List ℕ

-- ---- steps

-- so many more steps, up to the bound
abbrev pub up_to : (bound steps n : ℕ) → ℕ
up_to bound steps n = min n (bound - steps)

abbrev pub is_running : RunState → Bool
is_running Running = true
is_running _ = false

-- an address is among break points
abbrev pub stands : ℕ → List ℕ → Bool
stands at breaks = list_any (λ other. other == at) breaks

-- the machine is running, with PC at a break point
abbrev pub is_at_break : List ℕ → Machine → Bool
is_at_break breaks m = is_running m.state && stands m.cpu.regs.pc breaks

-- `go` ends at such a machine, and at one that is halted or off
abbrev pub ends_at : List ℕ → Machine → Bool
ends_at breaks m = is_at_break breaks m || not (takes_steps m.state)

-- How many steps were taken once `go` ends, of at most so many more: up to the first machine, behind at least one step,
-- at which it ends, or all of them.
unfoldable pub going_on : Course → List ℕ → (steps n : ℕ) → ℕ
going_on course breaks steps zero = steps
going_on course breaks steps (suc n) =
    if ends_at breaks (course (steps + 1)) then steps + 1 else going_on course breaks (steps + 1) n

-- ---- break points

-- An address finds room where it stands already, and where fewer others stand than can.
abbrev pub has_room : ℕ → List ℕ → Bool
has_room at breaks = stands at breaks || nat_lt (length breaks) MOST_BREAKS

-- with an address behind the others, where it does not stand yet and finds room
abbrev pub with_break : ℕ → List ℕ → List ℕ
with_break at breaks = if has_room at breaks && not (stands at breaks) then breaks ++ at ∷ [] else breaks

abbrev pub without_break : ℕ → List ℕ → List ℕ
without_break at breaks = filter (λ other. not (other == at)) breaks

-- ---- what a command does

abbrev pub after : Course → (bound : ℕ) → Command → Debugging → Debugging
after course bound (Step n) d = record d { steps = d.steps + up_to bound d.steps n }
after course bound (Go n) d = record d { steps = going_on course d.breaks d.steps (up_to bound d.steps n) }
after course bound (Break at) d = record d { breaks = with_break at d.breaks }
after course bound (Clear at) d = record d { breaks = without_break at d.breaks }
after course bound Regs d = d
after course bound (Mem at count) d = d
after course bound Kept d = d

-- ---- what it prints

-- where the machine is, and what is said behind that
abbrev pub place_line : Machine → List ℕ → List ℕ
place_line m behind =
    codes "at " ++ decimal m.steps ++ codes " pc " ++ hex8 m.cpu.regs.pc ++ codes " " ++ state_word m.state ++ behind
    ++ codes "\n"

-- where it is once `go` has ended
abbrev pub end_line : List ℕ → Machine → List ℕ
end_line breaks m = place_line m (if is_at_break breaks m then codes " break" else [])

abbrev pub break_line : (at : ℕ) (breaks : List ℕ) → List ℕ
break_line at breaks = if has_room at breaks then word_line (codes "break") (hex8 at) else codes "full\n"

abbrev pub clear_line : (at : ℕ) (breaks : List ℕ) → List ℕ
clear_line at breaks = if stands at breaks then word_line (codes "clear") (hex8 at) else codes "none\n"

-- the lines of the registers, D0 to SRP, of an outcome's text
abbrev pub registers_text : Machine → List ℕ
registers_text m = flat_map line_text (register_lines (seen_machine m))

-- So many rows of 16 bytes from an address on, zero ones too, up to the first that leaves memory.
unfoldable pub rows_text : List ℕ → (at count : ℕ) → List ℕ
rows_text ram at zero = []
rows_text ram at (suc count) =
    if nat_le (at + 16) (length ram)
    then row_line at (take 16 (drop at ram)) ++ rows_text ram (at + 16) count
    else word_line (hex8 at) (codes "outside")

-- how many translations are kept, and each of them, the oldest first
abbrev pub kept_text : List kept.Kept → List ℕ
kept_text entries = count_line (codes "kept") (length entries) ++ flat_map kept_line entries

-- The line or lines of a command, by the break points before it, and the machine after it.
abbrev pub printed_by : Command → (breaks : List ℕ) → Machine → List ℕ
printed_by (Step n) breaks m = place_line m []
printed_by (Go n) breaks m = end_line breaks m
printed_by (Break at) breaks m = break_line at breaks
printed_by (Clear at) breaks m = clear_line at breaks
printed_by Regs breaks m = registers_text m
printed_by (Mem at count) breaks m = rows_text m.world.ram at count
printed_by Kept breaks m = kept_text (list_of 0 m.world.kept)

-- ---- all commands

unfoldable pub debugged : Course → (bound : ℕ) → List Command → Debugging → Debugging
debugged course bound [] d = d
debugged course bound (c ∷ commands) d = debugged course bound commands (after course bound c d)

unfoldable pub printed : Course → (bound : ℕ) → List Command → Debugging → List ℕ
printed course bound [] d = []
printed course bound (c ∷ commands) d =
    let later = after course bound c d in
    printed_by c d.breaks (course later.steps) ++ printed course bound commands later
