use Rattle.mb_short.proofs.Immediates.{takes_immediate}
use Rattle.mb_short.proofs.taking.take_immediate.Goals as goal

pub returns-clause-means : goal.returns-clause-means
returns-clause-means g c =
    rw (c.take.ensures, c.low.ensures.value, c.from.ensures, c.pass_two.ensures)
    (takes_immediate g.P.Port.bus c.args.taking c.args.size c.args.immediate c.args.space c.args.plain.now _ c.requires)
