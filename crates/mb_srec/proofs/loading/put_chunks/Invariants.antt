-- What the chunks that are left do to memory is what all do to it as it was.
use Rattle.std.proofs.Common.{◌≡◌, drop, length}
use Rattle.mb_srec.specs.Image.{all_contents}
use Rattle.mb_walk.specs.Memory.{with_contents, contents_from}
use Rattle.mb_srec.proofs.loading.put_chunks.Given as goal

abbrev pub invariant-loop-chunk : goal.invariant-loop-chunk
invariant-loop-chunk l = record {
  puts : with_contents l.bytes (contents_from l.base (all_contents (drop l.chunk-index l.chunks)))
      ≡ with_contents l.initial.bytes (contents_from l.base (all_contents l.chunks));
  size : length l.bytes ≡ length l.initial.bytes;
}
