use Rattle.std.proofs.Common.{◌≡◌, ◌*◌, take, length}
use Rattle.mb_listing.specs.Listing.{bytes_of}
use Rattle.mb_listing.proofs.line.bytes_of.Given as goal

abbrev pub invariant-loop-word : goal.invariant-loop-word
invariant-loop-word l = record {
  filled : l.bytes.items ≡ bytes_of (take l.word-index l.words);
  room : length l.bytes.items ≡ 2 * l.word-index;
}
