use Rattle.std.proofs.Common.{◌≡◌, ◌+◌, ◌≤◌, length}
use Rattle.mb_spelling.specs.Reads.{lines_to}
use Rattle.vm_snapshot.proofs.Pairs.{MoreBytes}
use Rattle.vm_snapshot.proofs.input_reading.more_bytes.Given as goal

abbrev pub invariant-loop-more : goal.invariant-loop-more
invariant-loop-more l = record {
  going : MoreBytes l.initial.reader l.reader l.initial.bytes.items l.bytes.items l.most l.more;
  passed : lines_to l.reader ≡ lines_to l.initial.reader;
  few : length l.bytes.items + l.more ≤ length l.initial.bytes.items + l.most;
}

abbrev pub decreases-loop-more : goal.decreases-loop-more
decreases-loop-more l = l.more
