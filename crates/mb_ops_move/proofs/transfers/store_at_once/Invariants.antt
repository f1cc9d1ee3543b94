use Rattle.std.proofs.Common.{◌≡◌, ◌-◌, ◌≤◌}
use Rattle.mb_ops_move.proofs.Done.{IsLeft, AreStored}
use Rattle.mb_ops_move.proofs.transfers.store_at_once.Given as goal

-- what is left does what all does
abbrev pub invariant-loop-bit : goal.invariant-loop-bit
invariant-loop-bit g l = record {
  left : IsLeft l.movem l.ea l.done l.from;
  told : AreStored g.P.Port.bus l.movem l.ea l.space l.done l.plain (g.P.Port.world l.fn.port) (g.P.Port.world l.port);
  within : l.from ≤ 16;
  few : l.done ≤ l.from;
  rest : g.P.Port.rest l.port ≡ g.P.Port.rest l.fn.port;
}

abbrev pub decreases-loop-bit : goal.decreases-loop-bit
decreases-loop-bit g l = 16 - l.from
