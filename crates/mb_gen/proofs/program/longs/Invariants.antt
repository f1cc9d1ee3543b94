-- The bytes so far, with those of the longs that are left, are those of all.
use Rattle.std.proofs.Common.{◌≡◌, ◌++◌, drop}
use Rattle.mb_gen.specs.Programs.{longs_of}
use Rattle.mb_gen.proofs.program.longs.Given as goal

abbrev pub invariant-loop-long : goal.invariant-loop-long
invariant-loop-long l = l.bytes.items ++ longs_of (drop l.long-index l.longs) ≡ longs_of l.longs
