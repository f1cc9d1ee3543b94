-- A guest alone on a board.
use Rattle.std.specs.Prelude.{◌≡◌, ℕ, [], List}
use Rattle.def_runs.specs.Native.{NativeState}
use Rattle.def_guests.specs.Turns.{prepared}
use Rattle.def_guests.specs.Seats.{turned_on, IsSeated, Scene}
use Rattle.vm_guest.specs.Session.{GuestAtStart}
use Rattle.vm_guest.specs.Turns.{scene}
use Rattle.vm_debug.specs.declared.command.Command.{Command}
use Rattle.vm_debug.specs.Debugs.{debugged}
use Rattle.vm_debug.specs.Boards.{course_of, debugging_of}
use Rattle.mb_program.specs.declared.debugged.LoneGuest.{LoneGuest}

-- with what boards have counted
abbrev pub scene_of : LoneGuest → NativeState → Scene
scene_of lone native = scene lone.guest lone.board.world.ram native

-- how many steps commands bring it to, where no break points stand yet
abbrev pub end_of : Scene → (bound : ℕ) → List Command → ℕ
end_of s bound orders = (debugged (course_of s) bound orders (debugging_of s [])).steps

-- It is this guest of a session, at its start.
pub record IsAtStart (guest : GuestAtStart) (lone : LoneGuest) : Type 0 where
  pub turned : turned_on lone.guest lone.board.world.ram [] 0 ≡ prepared guest.opening guest.ram
  pub script : lone.guest.script ≡ guest.script
  pub seated : IsSeated lone.guest lone.board.world.ram
  pub bound : lone.bound ≡ guest.steps
