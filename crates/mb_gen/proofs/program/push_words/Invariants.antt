-- The bytes so far, with those of the words that are left, are those before the loop with all.
use Rattle.std.proofs.Common.{◌≡◌, ◌++◌, drop}
use Rattle.mb_gen.specs.Programs.{bytes_of}
use Rattle.mb_gen.proofs.program.push_words.Given as goal

abbrev pub invariant-loop-word : goal.invariant-loop-word
invariant-loop-word l = l.bytes.items ++ bytes_of (drop l.word-index l.words) ≡ l.fn.bytes.items ++ bytes_of l.words
