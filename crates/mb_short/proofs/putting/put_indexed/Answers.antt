use Rattle.mb_short.proofs.Operands.{puts_indexed}
use Rattle.mb_short.proofs.putting.put_indexed.Goals as goal

pub returns-then-write_at_once-clause-done : goal.returns-then-write_at_once-clause-done
returns-then-write_at_once-clause-done g c =
    rw (c.test.ensures, c.pass_two.ensures, c.value_of-value.ensures)
    (puts_indexed g.P.Port.bus c.args.putting c.args.size c.args.base c.args.word c.args.space c.args.plain.now _ _ c.requires
    (rw (c.indexed.ensures, c.value_of-value.ensures) at c.write_at_once.ensures.done c.if-write_at_once.true))
