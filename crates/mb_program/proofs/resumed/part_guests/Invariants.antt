use Rattle.std.proofs.Common.{◌≡◌, ◌++◌, length, map}
use Rattle.std.specs.Vec.Iter.{into_iter_items, into_iter_len}
use Rattle.mb_program.specs.Saves.{seat_of}
use Rattle.mb_program.specs.Saved.{left_of, left_said}
use Rattle.mb_program.proofs.resumed.part_guests.Given as goal

abbrev pub invariant-loop-guest : goal.invariant-loop-guest
invariant-loop-guest l = record {
  rest : into_iter_len l.guest-iterator ≡ length (into_iter_items l.guest-iterator);
  seats : l.seats.items ++ map (seat_of l.more) (into_iter_items l.guest-iterator) ≡ map (seat_of l.more) l.fn.guests.items;
  machines : map left_said l.machines.items ++ map left_of (into_iter_items l.guest-iterator) ≡ map left_of l.fn.guests.items;
}
