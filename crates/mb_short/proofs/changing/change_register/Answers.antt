use Rattle.mb_table.specs.Forms.{change_of}
use Rattle.mb_short.proofs.Goings.{one_goes}
use Rattle.mb_short.proofs.changing.change_register.Goals as goal

pub returns-clause-means : goal.returns-clause-means
returns-clause-means g c =
    one_goes g.P.Port.bus (change_of c.args.change c.args.size c.args.register) c.args.space c.args.plain.now _ _ _
    (rw c.pass_one.ensures at c.carry_out.ensures.means)
