use Rattle.std.proofs.Common.{◌≡◌, ◌≤◌, ◌+◌, length}
use Rattle.std.specs.Prelude.{All}
use Rattle.mb_port.specs.Routine.{run}
use Rattle.mb_port.specs.Pieces.{cut}
use Rattle.mb_port.specs.declared.types.Space.TheVariants.{Super}
use Rattle.mb_writes.specs.Checked.{probe_pieces_of, byte_count, IsOpen}
use Rattle.mb_entry.proofs.places.probe_bytes.Given as goal
use Rattle.mb_entry.specs.declared.places.TheConstants.{MOST_PIECES}

abbrev pub invariant-loop-left : goal.invariant-loop-left
invariant-loop-left g l = record {
  run : run g.P.Port.bus (probe_pieces_of Super (cut l.left l.next l.left) l.places.items) (g.P.Port.world l.port)
      ≡ run g.P.Port.bus (probe_pieces_of Super (cut l.len l.at l.len) l.fn.places.items) (g.P.Port.world l.fn.port);
  room : length l.places.items + length (cut l.left l.next l.left) ≤ MOST_PIECES;
  stand : All (IsOpen (g.P.Port.exists (g.P.Port.rest l.port))) l.places.items;
  bytes : byte_count l.places.items + l.left ≡ byte_count l.fn.places.items + l.len;
  rest : g.P.Port.rest l.port ≡ g.P.Port.rest l.fn.port;
}

abbrev pub decreases-loop-left : goal.decreases-loop-left
decreases-loop-left g l = l.left
