use Rattle.std.proofs.Common.{ap, rules}
use Rattle.mb_step.proofs.Registers.{five_bits, holding}
use Rattle.mb_step.proofs.Finishes.{finish_over}
use Rattle.mb_step.proofs.apart.finish_undone.Goals as goal

pub returns-clause-means : goal.returns-clause-means
returns-clause-means g c =
    finish_over g.P.Port.bus _ _ c.args.cpu.now _ _ _ _ _ _ _ _ (ap (holding c.args.cpu.now) c.set_plain.ensures)
    c.finish_instruction-finish.ensures.means c.plain.ensures (search rules)

pub returns-clause-ccr : goal.returns-clause-ccr
returns-clause-ccr g c = five_bits _ _ c.plain.ensures
