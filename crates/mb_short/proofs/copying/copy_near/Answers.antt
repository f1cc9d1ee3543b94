use Rattle.mb_instr.specs.declared.operand.Ea.TheVariants.{Disp}
use Rattle.mb_table.specs.Forms.{place_ea}
use Rattle.mb_short.proofs.Copies.{copies_near, has_copy}
use Rattle.mb_short.proofs.Changes.{stepped}
use Rattle.mb_short.proofs.copying.copy_near.Goals as goal

pub returns-then-write_at_once-clause-done : goal.returns-then-write_at_once-clause-done
returns-then-write_at_once-clause-done g c =
    rw (c.test.ensures, c.step_over.ensures, c.pass_two.ensures)
    (copies_near g.P.Port.bus c.args.size c.args.place c.args.base c.args.displacement c.in_ok-value.value c.args.space c.args.plain.now _ _
    (rw c.near.ensures at c.in_ok-value.ensures.means)
    (rw c.address.ensures at c.write_at_once.ensures.done c.if-write_at_once.true))

pub returns-then-write_at_once-clause-differ : goal.returns-then-write_at_once-clause-differ
returns-then-write_at_once-clause-differ g c =
    rw (c.test.ensures, c.step_over.ensures, c.pass_two.ensures)
    (stepped c.args.place c.args.size 2 _ c.args.plain.now (has_copy c.args.size (place_ea c.args.place) (Disp c.args.base c.args.displacement) c.requires))
