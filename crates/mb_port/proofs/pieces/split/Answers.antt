use Rattle.std.proofs.Common.{arith}
use Rattle.mb_port.proofs.Whole.{after_three, after_last}
use Rattle.mb_port.proofs.pieces.split.Goals as goal

pub returns-after-loop-i : goal.returns-after-loop-i
returns-after-loop-i c =
    let s = after_three c.loop-i.i _ _ c.args.at c.args.len _ (omega arith) (omega arith) (omega arith) c.loop-i.invariant.told in
    record { pieces = s.pieces; aligned = s.aligned; bytes = s.bytes; whole = s.whole; greedy = s.greedy; fewest = s.fewest; few = s.few }

pub returns-then-left-eq0 : goal.returns-then-left-eq0
returns-then-left-eq0 c =
    let s = after_last c.loop-i.i _ _ c.args.at c.args.len _ (omega arith) (omega arith) c.if-left-eq0.true c.loop-i.invariant.told in
    record { pieces = s.pieces; aligned = s.aligned; bytes = s.bytes; whole = s.whole; greedy = s.greedy; fewest = s.fewest; few = s.few }
