use Rattle.std.proofs.Common.{◌≡◌, ◌+◌}
use Rattle.mb_spelling.proofs.Loops.{TimesGoing}
use Rattle.vm_snapshot.specs.Parts.{guest_after, guest_at}
use Rattle.vm_snapshot.proofs.reading.guests.Given as goal

abbrev pub invariant-loop-left : goal.invariant-loop-left
invariant-loop-left l = record {
  going : TimesGoing guest_at guest_after l.initial.reader l.reader l.count 1 l.left l.number l.guests.items;
  all : l.number + l.left ≡ l.count + 1;
}

abbrev pub decreases-loop-left : goal.decreases-loop-left
decreases-loop-left l = l.left
