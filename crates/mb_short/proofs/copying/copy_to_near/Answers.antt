use Rattle.mb_short.proofs.Copies.{copies_to_near}
use Rattle.mb_short.proofs.copying.copy_to_near.Goals as goal

pub returns-then-write_at_once-clause-done : goal.returns-then-write_at_once-clause-done
returns-then-write_at_once-clause-done g c =
    rw (c.test.ensures, c.pass_two.ensures)
    (copies_to_near g.P.Port.bus c.args.size c.args.source c.args.base c.args.displacement c.in_ok-value.value c.args.space c.args.plain.now _ _
    c.in_ok-value.ensures.means (rw c.near.ensures at c.write_at_once.ensures.done c.if-write_at_once.true))
