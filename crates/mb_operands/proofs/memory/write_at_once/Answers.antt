use Rattle.mb_operands.proofs.Whole.{written_whole}
use Rattle.mb_operands.proofs.memory.write_at_once.Goals as goal

pub returns-in-Some-clause-done : goal.returns-in-Some-clause-done
returns-in-Some-clause-done g c =
    λ done. written_whole g.P.Port.bus c.args.space c.args.at c.args.size c.args.value c.low.result (g.P.Port.world c.args.port.now)
    (g.P.Port.world c.quick_write.new.self) c.in-Some.piece c.in-Some.ensures.whole c.low.ensures.value c.in-Some.ensures.aligned
    (c.quick_write.ensures.done done)
