use Rattle.mb_short.proofs.Immediates.{takes_long}
use Rattle.mb_short.proofs.taking.take_long.Goals as goal

pub returns-clause-means : goal.returns-clause-means
returns-clause-means g c =
    rw (c.take.ensures, c.low.ensures.value, c.pass_three.ensures)
    (takes_long g.P.Port.bus c.args.taking c.args.immediate c.args.space c.args.plain.now _ c.requires)
