use Rattle.mb_short.proofs.Operands.{takes_absolute}
use Rattle.mb_short.proofs.taking.take_absolute.Goals as goal

pub returns-clause-done : goal.returns-clause-done
returns-clause-done g c =
    rw (c.take.ensures, c.pass_three.ensures)
    (takes_absolute g.P.Port.bus c.args.taking c.args.size c.args.at c.in_ok-value.value c.args.space c.args.plain.now _ c.requires
    c.in_ok-value.ensures.means)
