use Rattle.mb_short.proofs.Updates.{updates_near}
use Rattle.mb_short.proofs.updating.update_near.Goals as goal

pub returns-then-write_at_once-clause-done : goal.returns-then-write_at_once-clause-done
returns-then-write_at_once-clause-done g c =
    rw (c.pass_two.ensures, c.updated-result.ensures)
    (updates_near g.P.Port.bus c.args.update c.args.size c.args.base c.args.displacement c.in_ok-value.value c.args.space c.args.plain.now _ _ c.requires
    (rw c.near-at.ensures at c.in_ok-value.ensures.means)
    (rw (c.near-at.ensures, c.updated-result.ensures) at c.write_at_once.ensures.done c.if-write_at_once.true))
