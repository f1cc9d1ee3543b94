use Rattle.mb_operands.proofs.Whole.{read_whole}
use Rattle.mb_operands.proofs.memory.read_at_once.Goals as goal

pub returns-then-low-value-clause-means : goal.returns-then-low-value-clause-means
returns-then-low-value-clause-means g c =
    read_whole g.P.Port.bus c.args.space c.args.at c.args.size c.in_ok-value.value (g.P.Port.world c.args.port.now) c.in_ok-piece.piece
    c.in_ok-piece.ensures.whole c.in_ok-piece.ensures.aligned c.in_ok-value.ensures
