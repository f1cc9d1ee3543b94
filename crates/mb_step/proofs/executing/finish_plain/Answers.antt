use Rattle.mb_step.proofs.Finishes.{done_left}
use Rattle.mb_step.proofs.executing.finish_plain.Goals as goal

pub returns-in-Ok-clause-means : goal.returns-in-Ok-clause-means
returns-in-Ok-clause-means g c =
    done_left g.P.Port.bus _ _ _ c.in-Ok.flow c.args.cpu.now c.args.before.now c.args.plain.now _ _ c.in-Ok.is c.finish_done.ensures.means
