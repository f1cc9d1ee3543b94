-- The bytes so far, with those of the words that are left, are those before the loop with all.
use Rattle.std.proofs.Common.{◌≡◌, ◌++◌, drop}
use Rattle.std.specs.List.{flat_map}
use Rattle.byteorder.specs.Endian.{big_bytes}
use Rattle.mb_asm.proofs.writing.push_words.Given as goal

abbrev pub invariant-loop-word : goal.invariant-loop-word
invariant-loop-word l =
    l.bytes.items ++ flat_map (big_bytes 2) (drop l.word-index l.words) ≡ l.fn.bytes.items ++ flat_map (big_bytes 2) l.words
