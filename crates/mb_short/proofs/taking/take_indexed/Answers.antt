use Rattle.mb_short.proofs.Operands.{takes_indexed}
use Rattle.mb_short.proofs.taking.take_indexed.Goals as goal

pub returns-clause-done : goal.returns-clause-done
returns-clause-done g c =
    rw (c.take.ensures, c.pass_two.ensures)
    (takes_indexed g.P.Port.bus c.args.taking c.args.size c.args.base c.args.word c.in_ok-value.value c.args.space c.args.plain.now _ c.requires
    (rw c.indexed.ensures at c.in_ok-value.ensures.means))
