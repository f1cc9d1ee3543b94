use Rattle.std.proofs.Common.{◌≡◌}
use Rattle.std.specs.Prelude.{All}
use Rattle.def_guests.specs.Rounds.{left_of_all}
use Rattle.def_guests.specs.Stages.{AllSeated}
use Rattle.vm_slices.specs.Counting.{AreCounted, RisesBy}
use Rattle.vm_slices.specs.Members.{IsBounded}
use Rattle.vm_slices.specs.Places.{members_of, seats_of}
use Rattle.vm_slices.proofs.Places.{first_turned, first_exceptions, first_marks}
use Rattle.vm_slices.proofs.rounds.take_round.Given as goal

abbrev pub invariant-loop-place : goal.invariant-loop-place
invariant-loop-place l = record {
  turned : members_of l.guests l.board.world.ram ≡ first_turned l.slice l.place (members_of l.initial.guests l.initial.board.world.ram);
  counts : AreCounted (members_of l.initial.guests l.initial.board.world.ram) (members_of l.guests l.board.world.ram)
      (first_marks l.slice l.place (members_of l.initial.guests l.initial.board.world.ram))
      (first_exceptions l.slice l.place (members_of l.initial.guests l.initial.board.world.ram)) l.initial.native l.native;
  bounds : All IsBounded (members_of l.guests l.board.world.ram);
  rises : RisesBy (left_of_all (members_of l.initial.guests l.initial.board.world.ram)) (left_of_all (members_of l.guests l.board.world.ram))
      l.initial.native l.native;
  stand : AllSeated (seats_of l.guests) l.board.world.ram;
}
