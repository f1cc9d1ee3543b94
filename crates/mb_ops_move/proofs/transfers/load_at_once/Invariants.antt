use Rattle.std.proofs.Common.{◌-◌, ◌≤◌}
use Rattle.mb_ops_move.proofs.Done.{IsLeft, AreLoaded}
use Rattle.mb_ops_move.proofs.transfers.load_at_once.Given as goal

-- what is left does what all does
abbrev pub invariant-loop-bit : goal.invariant-loop-bit
invariant-loop-bit g l = record {
  left : IsLeft l.movem l.ea l.done l.from;
  told : AreLoaded g.P.Port.bus l.movem l.ea l.space l.done l.fn.plain l.plain (g.P.Port.world l.port);
  within : l.from ≤ 16;
  few : l.done ≤ l.from;
}

abbrev pub decreases-loop-bit : goal.decreases-loop-bit
decreases-loop-bit g l = 16 - l.from
