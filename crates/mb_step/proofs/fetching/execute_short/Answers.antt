use Rattle.mb_step.proofs.InShort.{done_codes, even_apart, valid, valid_long, valid_with, went_apart}
use Rattle.mb_step.proofs.fetching.execute_short.Goals as goal

pub perform_short-requires-clause-even : goal.perform_short-requires-clause-even
perform_short-requires-clause-even g c =
    even_apart c.processor.inside.plain c.processor.inside.cpu c.args.processor.now c.processor.view_is c.requires.even

pub perform_short-requires-clause-valid : goal.perform_short-requires-clause-valid
perform_short-requires-clause-valid g c = valid c.args.first c.args.short.now c.requires.short

pub perform_short-requires-clause-valid_with : goal.perform_short-requires-clause-valid_with
perform_short-requires-clause-valid_with g c = valid_with c.args.first c.args.short.now c.requires.short

pub perform_short-requires-clause-valid_long : goal.perform_short-requires-clause-valid_long
perform_short-requires-clause-valid_long g c = valid_long c.args.first c.args.short.now c.requires.short

pub finish_done-requires : goal.finish_done-requires
finish_done-requires g c =
    done_codes g.P.Port.bus c.args.short.now _ c.processor.inside.plain _ _ _ c.in_ok-flow.flow c.processor.invariant c.in_ok-flow.ensures.done

pub returns-clause-done : goal.returns-clause-done
returns-clause-done g c =
    went_apart g.P.Port.bus c.processor.inside.cpu c.args.processor.now c.processor.inside.plain _ c.args.first c.args.short.now _ _ _ _
    c.processor.view_is (assumption c.processor.ranges) c.processor.invariant c.requires.short
    (rw c.space.ensures at c.in_ok-flow.ensures.done) c.finish_done.ensures.means
