use Rattle.mb_short.proofs.Updates.{has_updated, updates_memory}
use Rattle.mb_table.specs.Forms.{place_ea}
use Rattle.mb_short.proofs.Changes.{stepped}
use Rattle.mb_short.proofs.updating.update_memory.Goals as goal

pub returns-then-write_at_once-clause-done : goal.returns-then-write_at_once-clause-done
returns-then-write_at_once-clause-done g c =
    rw (c.step_over.ensures, c.pass_one.ensures, c.updated-result.ensures)
    (updates_memory g.P.Port.bus c.args.update c.args.size c.args.place c.in_ok-value.value c.args.space c.args.plain.now _ _ c.requires
    (rw c.address-at.ensures at c.in_ok-value.ensures.means)
    (rw (c.address-at.ensures, c.updated-result.ensures) at c.write_at_once.ensures.done c.if-write_at_once.true))

pub returns-then-write_at_once-clause-differ : goal.returns-then-write_at_once-clause-differ
returns-then-write_at_once-clause-differ g c =
    rw (c.step_over.ensures, c.pass_one.ensures)
    (stepped c.args.place c.args.size 1 _ c.args.plain.now (has_updated c.args.update c.args.size (place_ea c.args.place) c.requires))
