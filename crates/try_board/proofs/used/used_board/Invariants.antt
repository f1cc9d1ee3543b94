use Rattle.std.proofs.Common.{◌≡◌, length}
use Rattle.try_board.proofs.used.used_board.Given as goal

abbrev pub invariant-loop-page : goal.invariant-loop-page
invariant-loop-page l = length l.board.world.ram ≡ 0x50000
