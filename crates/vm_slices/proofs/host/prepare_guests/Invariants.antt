use Rattle.std.proofs.Common.{◌≡◌, length}
use Rattle.std.specs.Vec.Iter.{into_iter_items, into_iter_len}
use Rattle.vm_slices.proofs.Fits.{Stands}
use Rattle.vm_slices.proofs.host.prepare_guests.Given as goal

abbrev pub invariant-loop-guest : goal.invariant-loop-guest
invariant-loop-guest l = record {
  rest : into_iter_len l.guest-iterator ≡ length (into_iter_items l.guest-iterator);
  stands : Stands l.fn.guests.items (into_iter_items l.guest-iterator) l.prepared.items l.base l.board.world.ram;
  count : length l.board.world.ram ≡ length l.initial.board.world.ram;
}
