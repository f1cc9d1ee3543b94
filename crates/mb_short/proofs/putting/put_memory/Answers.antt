use Rattle.mb_short.proofs.Operands.{has_place, puts_memory}
use Rattle.mb_table.specs.Forms.{place_ea}
use Rattle.mb_short.proofs.Changes.{stepped}
use Rattle.mb_short.proofs.putting.put_memory.Goals as goal

pub returns-then-write_at_once-clause-done : goal.returns-then-write_at_once-clause-done
returns-then-write_at_once-clause-done g c =
    rw (c.test.ensures, c.step_over.ensures, c.pass_one.ensures, c.value_of-value.ensures)
    (puts_memory g.P.Port.bus c.args.putting c.args.size c.args.place c.args.space c.args.plain.now _ _ c.requires
    (rw (c.address.ensures, c.value_of-value.ensures) at c.write_at_once.ensures.done c.if-write_at_once.true))

pub returns-then-write_at_once-clause-differ : goal.returns-then-write_at_once-clause-differ
returns-then-write_at_once-clause-differ g c =
    rw (c.test.ensures, c.step_over.ensures, c.pass_one.ensures)
    (stepped c.args.place c.args.size 1 _ c.args.plain.now (has_place c.args.putting c.args.size (place_ea c.args.place) c.requires))
