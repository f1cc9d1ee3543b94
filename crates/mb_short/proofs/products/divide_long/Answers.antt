use Rattle.std.proofs.Common.{sym}
use Rattle.mb_short.proofs.Pairs.{divide_goes}
use Rattle.mb_short.proofs.products.divide_long.Goals as goal

pub returns-clause-done : goal.returns-clause-done
returns-clause-done g c =
    divide_goes g.P.Port.bus c.args.source c.args.word c.in-Done.quotient c.in-Done.remainder c.in-Done.ccr c.args.space c.args.plain.now _ _ c.requires
    (sym (rw c.low-divisor.ensures.value at c.in-Done.ensures)) (rw c.pass_two.ensures at c.put_quotient.ensures)
