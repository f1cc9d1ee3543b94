use Rattle.std.proofs.Common.{◌≡◌, ◌≤◌, ◌++◌, drop, length}
use Rattle.mb_port.specs.Pieces.{ArePieces}
use Rattle.mb_writes.specs.Writing.{parts_of}
use Rattle.mb_writes.proofs.writing.parts.Given as goal

abbrev pub invariant-loop-piece : goal.invariant-loop-piece
invariant-loop-piece l = record {
  told : l.pending.items ++ parts_of (drop l.piece-index l.pieces) l.before_end l.value ≡ parts_of l.pieces l.len l.value;
  aligned : ArePieces (drop l.piece-index l.pieces);
  few : length l.pending.items ≤ l.piece-index;
  short : l.before_end ≤ 5;
}
