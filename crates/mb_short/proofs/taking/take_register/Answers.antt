use Rattle.mb_short.proofs.Operands.{takes_register}
use Rattle.mb_short.proofs.taking.take_register.Goals as goal

pub returns-clause-means : goal.returns-clause-means
returns-clause-means g c =
    rw (c.take.ensures, c.pass_one.ensures, c.low-value.ensures.value, c.value_of.ensures)
    (takes_register g.P.Port.bus c.args.taking c.args.size c.args.register c.args.space c.args.plain.now _ c.requires)
