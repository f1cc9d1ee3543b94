use Rattle.std.proofs.Common.{◌≡◌, drop}
use Rattle.def_guests.specs.Rounds.{all_done}
use Rattle.vm_slices.specs.Places.{members_of}
use Rattle.vm_slices.proofs.rounds.are_done.Given as goal

abbrev pub invariant-loop-guest : goal.invariant-loop-guest
invariant-loop-guest l =
    all_done (members_of (drop l.guest-index l.guests) l.board.world.ram) ≡ all_done (members_of l.guests l.board.world.ram)
