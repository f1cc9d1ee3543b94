-- The files of a guest under a debugger, as kinds of files.
use Rattle.std.specs.Prelude.{ℕ, nat_lt, if◌then◌else◌, List, length, Result, Ok, Err}
use Rattle.std.specs.Result.{result_map_both}
use Rattle.mb_script.specs.Plan.{Plan}
use Rattle.vm_debug.specs.declared.command.Command.{Command}
use Rattle.vm_debug.specs.Commands.{commands_of}
use Rattle.mb_words.specs.Words.{Text}
use Rattle.mb_files.specs.Reading.{at_most, sessions}
use Rattle.mb_files.specs.Whys.{line_why}
use Rattle.mb_files.specs.declared.fault.FileWhy.{FileWhy}
use Rattle.mb_files.specs.declared.fault.FileWhy.TheVariants.{NoGuest}
use Rattle.mb_files.specs.declared.files.TheConstants.{MOST_BYTES}

-- a plan that has a guest of this number
abbrev pub with_guest : (guest : ℕ) → Result Plan FileWhy → Result Plan FileWhy
with_guest guest (Ok plan) = if nat_lt (length plan.guests) guest then Err (NoGuest guest) else Ok plan
with_guest guest (Err why) = Err why

-- a session that has such a guest
abbrev pub sessions_with : (guest : ℕ) → Text → Result Plan FileWhy
sessions_with guest bytes = with_guest guest (sessions bytes)

abbrev pub commands : Text → Result (List Command) FileWhy
commands = at_most MOST_BYTES (λ bytes. result_map_both (λ x. x) line_why (commands_of bytes))
