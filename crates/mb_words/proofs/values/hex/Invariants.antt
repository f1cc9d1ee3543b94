use Rattle.std.proofs.Common.{◌≡◌, ◌<◌, ◌^◌, ◌≤◌, drop, length}
use Rattle.mb_words.specs.Values.{hex_after}
use Rattle.mb_words.proofs.values.hex.Given as goal

abbrev pub invariant-loop-byte : goal.invariant-loop-byte
invariant-loop-byte l = record {
  reads : hex_after l.value (drop l.byte-index l.digits) ≡ hex_after 0 l.digits;
  small : l.value < 16 ^ l.byte-index;
  short : length l.digits ≤ 8;
}
