use Rattle.std.proofs.Common.{◌≡◌, drop}
use Rattle.mb_port.specs.Routine.{run}
use Rattle.mb_writes.specs.Writing.{ArePending, write_pieces_of}
use Rattle.mb_writes.proofs.writing.write_pieces.Given as goal

-- what is left does what all does
abbrev pub invariant-loop-i : goal.invariant-loop-i
invariant-loop-i g l = record {
  told : run g.P.Port.bus (write_pieces_of l.space l.first (drop l.i l.pending)) (g.P.Port.world l.port)
      ≡ run g.P.Port.bus (write_pieces_of l.space l.first l.pending) (g.P.Port.world l.fn.port);
  pieces : ArePending (drop l.i l.pending);
  rest : g.P.Port.rest l.port ≡ g.P.Port.rest l.fn.port;
}
