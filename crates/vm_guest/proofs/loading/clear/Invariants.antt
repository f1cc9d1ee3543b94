use Rattle.std.proofs.Common.{◌≡◌, ◌*◌, replicate}
use Rattle.mb_walk.specs.Memory.{overwritten}
use Rattle.def_machine.specs.Machine.{with_ram}
use Rattle.mb_board.specs.State.{machine_in, with_machine}
use Rattle.vm_guest.proofs.loading.clear.Given as goal

abbrev pub invariant-loop-page : goal.invariant-loop-page
invariant-loop-page l = record {
  zeros : l.board.world.ram ≡ overwritten l.initial.board.world.ram l.base (replicate (l.page * 4096) 0);
  others : l.board ≡ with_machine l.initial.board (with_ram (machine_in l.initial.board) l.board.world.ram);
}
