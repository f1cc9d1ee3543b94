use Rattle.mb_short.proofs.Operands.{puts_absolute}
use Rattle.mb_short.proofs.putting.put_absolute.Goals as goal

pub returns-then-write_at_once-clause-done : goal.returns-then-write_at_once-clause-done
returns-then-write_at_once-clause-done g c =
    rw (c.test.ensures, c.pass_three.ensures, c.value_of-value.ensures)
    (puts_absolute g.P.Port.bus c.args.putting c.args.size c.args.at c.args.space c.args.plain.now _ _ c.requires
    (rw c.value_of-value.ensures at c.write_at_once.ensures.done c.if-write_at_once.true))
