use Rattle.std.proofs.Common.{arith}
use Rattle.std.proofs.lemmas.Grind.{common_steps}
use Rattle.mb_fields.proofs.Digits.{sum_law}
use Rattle.mb_fields.proofs.decimals.abcd.Goals as goal

pub returns-clause-means : goal.returns-clause-means
returns-clause-means c = grind (arith, common_steps)

pub returns-clause-decimal : goal.returns-clause-decimal
returns-clause-decimal c = λ x y. rw (returns-clause-means c) (sum_law c.args.x c.args.y c.args.ccr x y)
