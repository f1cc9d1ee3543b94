use Rattle.std.proofs.Common.{refl}
use Rattle.std.specs.Prelude.{option_map}
use Rattle.mb_srec.specs.Image.{contents_of}
use Rattle.mb_board.specs.State.{machine_in}
use Rattle.def_machine.specs.Machine.{Opening}
use Rattle.mb_program.proofs.MachineLemmas.{starts_with, starts_without}
use Rattle.mb_program.proofs.machine.start_machine.Goals as goal

pub attach_disk-requires : goal.attach_disk-requires
attach_disk-requires c =
    starts_without (machine_in c.in_ok-board.board) (contents_of c.args.image.now) c.args.size c.in_ok-board.ensures.start

pub returns-clause-start : goal.returns-clause-start
returns-clause-start c =
    let opening : Opening = record { image = contents_of c.args.image.now; disk = option_map (λ d. d.now) c.args.disk } in
    starts_with (machine_in c.in_ok-board.board) (machine_in c.attach_disk.new.board) opening _ c.args.size
    c.in_ok-board.ensures.start c.in_ok-attach_disk.ensures refl
