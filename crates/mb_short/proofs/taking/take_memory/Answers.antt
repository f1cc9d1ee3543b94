use Rattle.mb_short.proofs.Operands.{has_operand, has_register, takes_memory}
use Rattle.mb_table.specs.Forms.{place_ea}
use Rattle.mb_short.proofs.Changes.{taken_from}
use Rattle.mb_short.proofs.taking.take_memory.Goals as goal

pub returns-clause-done : goal.returns-clause-done
returns-clause-done g c =
    rw (c.take.ensures, c.step_over.ensures, c.pass_one.ensures)
    (takes_memory g.P.Port.bus c.args.taking c.args.size c.args.place c.in_ok-value.value c.args.space c.args.plain.now _ c.requires
    (rw c.address.ensures at c.in_ok-value.ensures.means))

pub returns-clause-differ : goal.returns-clause-differ
returns-clause-differ g c =
    rw (c.take.ensures, c.step_over.ensures, c.pass_one.ensures)
    (taken_from c.args.taking c.args.place c.args.size c.in_ok-value.value c.args.plain.now
    (has_register c.args.taking c.args.size (place_ea c.args.place) c.requires) (has_operand c.args.taking c.args.size (place_ea c.args.place) c.requires))
