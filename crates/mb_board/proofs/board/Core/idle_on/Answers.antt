use Rattle.std.proofs.Common.{[], refl, sym}
use Rattle.mb_model.specs.Keeping.{rule_a}
use Rattle.mb_board.proofs.Runs.{run_of-zero}
use Rattle.mb_board.proofs.board.Core.idle_on.Goals as goal

pub returns-else-is_held-clause-means : goal.returns-else-is_held-clause-means
returns-else-is_held-clause-means c = sym (run_of-zero rule_a [] 0 c.args.self.now refl)
