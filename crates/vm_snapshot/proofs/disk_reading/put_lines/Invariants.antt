use Rattle.std.proofs.Common.{◌≡◌, drop, length}
use Rattle.mb_walk.specs.Memory.{with_contents}
use Rattle.mb_saved.specs.Lines.{contents_of}
use Rattle.vm_snapshot.proofs.disk_reading.put_lines.Given as goal

abbrev pub invariant-loop-line : goal.invariant-loop-line
invariant-loop-line l = record {
  puts : with_contents l.bytes (contents_of (drop l.line-index l.lines)) ≡ with_contents l.initial.bytes (contents_of l.lines);
  size : length l.bytes ≡ length l.initial.bytes;
}
