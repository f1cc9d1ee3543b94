use Rattle.std.proofs.Common.{◌≡◌, ◌+◌, ◌≤◌, drop}
use Rattle.mb_port.specs.Routine.{run}
use Rattle.mb_writes.specs.Transfers.{AreTransfers}
use Rattle.mb_writes.specs.Moving.{store_all_of}
use Rattle.mb_writes.proofs.movem.store_all.Given as goal

-- what is left does what all does
abbrev pub invariant-loop-transfer : goal.invariant-loop-transfer
invariant-loop-transfer g l = record {
  told : run g.P.Port.bus (store_all_of l.movem l.space l.plain l.first l.done (drop l.transfer-index l.transfers)) (g.P.Port.world l.port)
      ≡ run g.P.Port.bus (store_all_of l.movem l.space l.plain l.first l.fn.done l.transfers) (g.P.Port.world l.fn.port);
  registers : AreTransfers (drop l.transfer-index l.transfers);
  few : l.done ≤ l.fn.done + l.transfer-index;
  rest : g.P.Port.rest l.port ≡ g.P.Port.rest l.fn.port;
}
