use Rattle.std.proofs.Common.{ap}
use Rattle.mb_model.specs.Seen.{Seen}
use Rattle.try_board.proofs.boards.steps_of.Goals as goal

pub returns : goal.returns
returns c = ap (λ (s : Seen). s.steps) c.outcome.ensures
