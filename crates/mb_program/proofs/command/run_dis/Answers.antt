use Rattle.std.proofs.Common.{refl}
use Rattle.std.specs.Prelude.{◌*◌}
use Rattle.mb_srec.specs.Image.{contents_of}
use Rattle.mb_words.specs.Words.{excerpt_said}
use Rattle.mb_files.specs.Reading.{file, gives, images}
use Rattle.mb_program.specs.Answers.{dis_shown, shows}
use Rattle.mb_program.specs.Around.{Around, around_of}
use Rattle.mb_program.proofs.EndLemmas.{by_answer, by_files}
use Rattle.mb_program.proofs.command.run_dis.Goals as goal

pub returns-in-Ok : goal.returns-in-Ok
returns-in-Ok g c = λ native.
    let excerpt = excerpt_said c.args.dis.now in
    let a : Around = around_of g.F.Shelf g.O.Sink
    c.args.shelf.now c.image_file.new.shelf c.args.out.now c.show_excerpt.new.out native native in
    by_answer (file (images (1024 * excerpt.ram)) excerpt.image) (λ image. shows (dis_shown excerpt image)) contents_of c.in-Ok.image a c.show_excerpt.result
    c.in-Ok.ensures.read (c.show_excerpt.ensures native)

pub returns-in-Err : goal.returns-in-Err
returns-in-Err g c = λ native.
    let excerpt = excerpt_said c.args.dis.now in
    let a : Around = around_of g.F.Shelf g.O.Sink
    c.args.shelf.now c.image_file.new.shelf c.args.out.now c.args.out.now native native in
    rw c.from.ensures (by_files (file (images (1024 * excerpt.ram)) excerpt.image) (λ image. gives (shows (dis_shown excerpt image))) contents_of a
    c.in-Err.fault
    c.in-Err.ensures.read (refl, refl))
