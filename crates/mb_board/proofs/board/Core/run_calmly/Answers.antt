use Rattle.mb_board.proofs.UserRuns.{led_nowhere}
use Rattle.mb_board.proofs.board.Core.run_calmly.Goals as goal

pub returns-then-not-is_calm-clause-means : goal.returns-then-not-is_calm-clause-means
returns-then-not-is_calm-clause-means c = led_nowhere c.args.limit c.args.self.now c.args.ends.now
