-- What the chunks that are left do to RAM is what all do to it as it was.
use Rattle.std.proofs.Common.{◌≡◌, drop, length}
use Rattle.mb_walk.specs.Memory.{with_contents}
use Rattle.try_runs.specs.Cases.{contents_of}
use Rattle.try_runs.specs.declared.cases.chunk.TheConstants.{RAM_SIZE}
use Rattle.try_runs.proofs.cases.machine.put_all.Given as goal

abbrev pub invariant-loop-chunk : goal.invariant-loop-chunk
invariant-loop-chunk l = record {
  puts : with_contents l.ram (contents_of (drop l.chunk-index l.chunks)) ≡ with_contents l.initial.ram (contents_of l.chunks);
  size : length l.ram ≡ RAM_SIZE;
}
