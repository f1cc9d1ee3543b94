use Rattle.std.proofs.Common.{◌≡◌, ◌+◌, drop}
use Rattle.std.specs.Prelude.{if◌then◌else◌}
use Rattle.vm_slices.specs.Members.{going}
use Rattle.vm_slices.specs.Places.{members_of}
use Rattle.vm_slices.proofs.rounds.is_one_left.Given as goal

abbrev pub invariant-loop-guest : goal.invariant-loop-guest
invariant-loop-guest l =
    (if l.some then 1 else 0) + going (members_of (drop l.guest-index l.guests) l.board.world.ram)
    ≡ going (members_of l.guests l.board.world.ram)
