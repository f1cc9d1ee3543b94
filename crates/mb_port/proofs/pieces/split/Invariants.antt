use Rattle.std.proofs.Common.{◌≡◌, ◌≤◌, ◌-◌, ◌++◌, length}
use Rattle.mb_port.specs.Pieces.{cut}
use Rattle.mb_port.proofs.pieces.split.Given as goal

-- the pieces so far and those to come are all
abbrev pub invariant-loop-i : goal.invariant-loop-i
invariant-loop-i l = record {
  told : l.pieces.items ++ cut (3 - l.i) l.next l.left ≡ cut 3 l.fn.at l.fn.len;
  few : length l.pieces.items ≤ l.i;
}
