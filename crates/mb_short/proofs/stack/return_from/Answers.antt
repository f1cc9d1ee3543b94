use Rattle.mb_short.proofs.Flows.{return_goes}
use Rattle.mb_short.proofs.stack.return_from.Goals as goal

pub returns-clause-done : goal.returns-clause-done
returns-clause-done g c =
    return_goes g.P.Port.bus c.in_ok-target.target c.args.space c.args.plain.now _ c.in_ok-target.ensures.means
