use Rattle.mb_board.specs.Spelling.{gathered}
use Rattle.mb_board.proofs.Spellings.{begins_again, gathered_on}
use Rattle.mb_board.proofs.native.with_end.Goals as goal

pub returns : goal.returns
returns c = λ p q native begun steps begins end.
    begins_again p q native c.args.end (gathered begun steps c.args.ends) _ begins end (gathered_on begun steps c.args.ends c.args.end)
