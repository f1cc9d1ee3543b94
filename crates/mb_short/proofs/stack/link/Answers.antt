use Rattle.mb_short.proofs.Flows.{link_goes}
use Rattle.mb_short.proofs.stack.link.Goals as goal

pub returns-clause-done : goal.returns-clause-done
returns-clause-done g c =
    link_goes g.P.Port.bus c.args.register c.args.displacement c.args.space c.args.plain.now _ _ _ _
    (rw (c.sign_extend-offset.ensures, c.from.ensures, c.pass_two.ensures) at c.push_frame.ensures.done)
