use Rattle.std.proofs.Common.{◌≡◌, ◌+◌, ◌<◌, length}
use Rattle.mb_spelling.proofs.Loops.{TimesGoing}
use Rattle.vm_snapshot.specs.Memory.{dump_byte, next_column}
use Rattle.vm_snapshot.proofs.dump_reading.dump.Given as goal

abbrev pub invariant-loop-left : goal.invariant-loop-left
invariant-loop-left l = record {
  going : TimesGoing dump_byte next_column l.initial.reader l.reader l.count 0 l.left l.column l.bytes.items;
  small : l.column < 32;
  all : length l.bytes.items + l.left ≡ l.count;
}

abbrev pub decreases-loop-left : goal.decreases-loop-left
decreases-loop-left l = l.left
