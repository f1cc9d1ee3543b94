use Rattle.std.proofs.Common.{◌≡◌, length}
use Rattle.std.specs.Prelude.{All}
use Rattle.vm_guest.specs.Session.{IsGuest}
use Rattle.try_board.proofs.hosts.session_of.Given as goal

abbrev pub invariant-loop-begins : goal.invariant-loop-begins
invariant-loop-begins l = record {
  guests : All IsGuest l.all.items;
  count : length l.all.items ≡ l.begins-index;
}
