use Rattle.std.proofs.Common.{arith}
use Rattle.std.proofs.lemmas.Grind.{common_steps}
use Rattle.std.proofs.lemmas.Int.{ints, to_z-of_z}
use Rattle.mb_asm.proofs.evaluation.sum_of.Goals as goal

pub loop-term-preserved : goal.loop-term-preserved
loop-term-preserved c = record {
  value = grind (arith, ints, to_z-of_z, common_steps);
  least = omega (arith, ints, c.in-Some.ensures.least, c.in-Some.ensures.greatest);
  greatest = omega (arith, ints, c.in-Some.ensures.least, c.in-Some.ensures.greatest);
}
