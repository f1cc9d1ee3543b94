use Rattle.vm_guest.proofs.Stretches.{fewer_due, none_due}
use Rattle.vm_guest.proofs.direct.more_steps.Goals as goal

pub returns-clause-none : goal.returns-clause-none
returns-clause-none c =
    fewer_due c.args.script.now c.args.taken c.before_entry.result c.before_tick.result c.before_tick.ensures.within
    (none_due c.args.script.now c.args.taken c.args.next c.before_entry.result c.requires c.before_entry.ensures.next)
