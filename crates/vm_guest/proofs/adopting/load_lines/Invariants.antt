use Rattle.std.proofs.Common.{◌≡◌, drop, length}
use Rattle.mb_walk.specs.Memory.{with_contents, contents_from}
use Rattle.def_machine.specs.Machine.{with_ram}
use Rattle.mb_board.specs.State.{machine_in, with_machine}
use Rattle.mb_saved.specs.Lines.{contents_of}
use Rattle.vm_guest.proofs.adopting.load_lines.Given as goal

abbrev pub invariant-loop-line : goal.invariant-loop-line
invariant-loop-line l = record {
  loads : with_contents l.board.world.ram (contents_from l.base (contents_of (drop l.line-index l.lines)))
      ≡ with_contents l.initial.board.world.ram (contents_from l.base (contents_of l.lines));
  size : length l.board.world.ram ≡ length l.initial.board.world.ram;
  others : l.board ≡ with_machine l.initial.board (with_ram (machine_in l.initial.board) l.board.world.ram);
}
