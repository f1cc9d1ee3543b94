use Rattle.std.proofs.Common.{◌≡◌, length}
use Rattle.try_board.proofs.boards.board_with.Given as goal

abbrev pub invariant-loop-at : goal.invariant-loop-at
invariant-loop-at l = length l.board.world.ram ≡ 65536
