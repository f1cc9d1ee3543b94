use Rattle.mb_short.proofs.Pairs.{multiply_goes}
use Rattle.mb_short.proofs.products.multiply_long.Goals as goal

pub returns : goal.returns
returns g c =
    multiply_goes g.P.Port.bus c.args.source c.args.word c.args.space c.args.plain.now _ _ c.requires
    (rw (c.pass_two.ensures, c.low-value.ensures.value) at c.multiply_long.ensures)
